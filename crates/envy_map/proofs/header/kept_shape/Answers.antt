use Rattle.std.proofs.Common.{◌≡◌, ◌∙◌, sym, refl, ap, arith}
use Rattle.envy_map.specs.Fields.{map_fields}
use Rattle.envy_map.proofs.Readings.{size-is}
use Rattle.envy_map.proofs.header.kept_shape.Goals as goal

pub returns : goal.returns
unfolding map_fields
returns g c =
    let flash = c.in_ok-flash.ensures.1 ∙ sym (size-is (g.B.Board.state c.args.board.now) 0 (omega arith)) in
    let array = c.in_ok-array.ensures.1 ∙ sym (size-is (g.B.Board.state c.args.board.now) 1 (omega arith)) in
    let pools = c.in_ok-pools.ensures.1 ∙ sym (size-is (g.B.Board.state c.args.board.now) 2 (omega arith)) in
    let version = c.in_ok-version.ensures.1 in
    let reserves = c.in_ok-reserves.ensures.1 in
    let sums = c.in_ok-sums.ensures.1 in
    let more = c.extra.ensures in
    let kept = c.extra-2.ensures in
    (c.in_ok-flash.ensures.0, rw (more, kept, version, reserves, sums, flash, array, pools) refl)

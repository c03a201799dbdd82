use Rattle.envy_map.specs.Fields.{chart}
use Rattle.envy_audit.proofs.Turning.{tells-copies}
use Rattle.envy_audit.proofs.copies.holds_copies.Goals as goal

pub returns : goal.returns
returns g c =
    tells-copies (chart (g.B.Board.state c.args.board.now)) c.args.segment c.args.spare c.in_ok-fill.fill _ c.in_ok-fill.ensures.1 (c.in_ok-stand.ensures.tells.0 c.if-not-stand.false) (c.in_ok-all.ensures.0 c.if-not-all.false) c.copies_are_same.ensures

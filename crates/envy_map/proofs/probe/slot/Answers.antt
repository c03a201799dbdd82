use Rattle.std.proofs.Common.{ap, sym, ◌∙◌, arith}
use Rattle.envy_map.specs.Codes.{slot_of}
use Rattle.envy_map.proofs.Readings.{slot-is}
use Rattle.envy_map.proofs.probe.slot.Goals as goal

pub returns : goal.returns
returns g c =
    (c.in_ok-word.ensures.0, c.decode_slot.ensures.value ∙ ap slot_of c.in_ok-word.ensures.1 ∙ sym (slot-is (g.B.Board.state c.args.board.now) _ c.args.t (g.met.B.Board.lawful c.args.board.now) c.requires (grind arith)))

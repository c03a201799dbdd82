use Rattle.std.proofs.Common.{arith}
use Rattle.envy_map.specs.Fields.{chart}
use Rattle.envy_soundness.specs.Sound.{Sound, Slots}
use Rattle.envy_memory.proofs.Slots.{slot-low}
use Rattle.envy_memory.proofs.kept_place.has_open_among.Goals as goal

pub slot-requires-clause-decodes : goal.slot-requires-clause-decodes
slot-requires-clause-decodes g c =
    let s = g.B.Board.state c.args.board.now in
    Slots.decode (Sound.slots c.requires.sound) c.loop-t.t (slot-low s.shape (chart s).fields.version c.loop-t.t c.requires.version (let lt = c.loop-t-test.true in omega (arith, lt, c.requires.few)))

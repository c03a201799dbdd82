use Rattle.std.proofs.Common.{ℕ, ◌<◌, subst}
use Rattle.envy_map.specs.Fields.{chart}
use Rattle.envy_soundness.specs.Sound.{Sound, Slots}
use Rattle.envy_soundness.proofs.Formed.{slots-all}
use Rattle.envy_engine.proofs.slots.is_open.Goals as goal

pub slot-requires-clause-decodes : goal.slot-requires-clause-decodes
slot-requires-clause-decodes g c =
    let s = g.B.Board.state c.args.board.now in
    Slots.decode (Sound.slots c.requires.sound) c.args.t (subst (λ (n : ℕ). c.args.t < n) (slots-all s.shape (chart s).fields.version c.requires.version) c.requires.slot)

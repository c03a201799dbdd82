use Rattle.std.specs.Prelude.{◌≡◌, ◌≢◌, ℕ, ◌<◌, Some}
use Rattle.envy_base.specs.declared.fields.Slot.TheVariants.{Vacant}
use Rattle.envy_map.specs.Fields.{chart, undo, slot}
use Rattle.envy_soundness.specs.Sound.{slot_named}
use Rattle.envy_audit.proofs.undos.undos_are_in_use.Given as goal

abbrev pub invariant-loop-page : goal.invariant-loop-page
invariant-loop-page g l = let f = (chart (g.B.Board.state l.board)).fields in
    (p t : ℕ) → p < l.page → slot_named (undo f p) ≡ Some t → slot f t ≢ Some Vacant

use Rattle.std.proofs.Common.{◌≡◌, ℕ, ◌<◌, Some}
use Rattle.envy_base.specs.declared.fields.Undo.TheVariants.{Clear}
use Rattle.envy_map.specs.Fields.{chart, undo}
use Rattle.test_relocations.proofs.boards.assert_clear.Given as goal

abbrev pub invariant-loop-page : goal.invariant-loop-page
invariant-loop-page g l = (p : ℕ) → p < l.page → undo (chart (g.B.Board.state l.board)).fields p ≡ Some Clear

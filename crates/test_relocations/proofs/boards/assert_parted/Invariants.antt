use Rattle.std.proofs.Common.{◌≡◌, ◌≢◌, ℕ, ◌<◌, Some}
use Rattle.envy_base.specs.declared.fields.Place.TheVariants.{Row}
use Rattle.envy_base.specs.declared.fields.Undo.TheVariants.{Shadow}
use Rattle.envy_map.specs.Fields.{chart, place, undo}
use Rattle.test_relocations.proofs.boards.assert_parted.Given as goal

abbrev pub invariant-loop-page : goal.invariant-loop-page
invariant-loop-page g l = (p t q : ℕ) → p < l.page → undo (chart (g.B.Board.state l.board)).fields p ≡ Some (Shadow t q) → place (chart (g.B.Board.state l.board)).fields p ≢ Some (Row q)

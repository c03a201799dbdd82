use Rattle.std.proofs.Common.{◌≡◌, ◌⊎◌, inl, inr, ◌<◌, ◌≤◌, None, Some, sym, ◌∙◌, ap, arith}
use Rattle.std.proofs.lemmas.Bool.{cases_lt}
use Rattle.std.proofs.lemmas.List.{get_or_past}
use Rattle.envy_base.specs.declared.fields.Undo.TheVariants.{Shadow}
use Rattle.envy_base.specs.declared.shape.Shape.{Shape}
use Rattle.envy_map.specs.Fields.{chart}
use Rattle.envy_soundness.specs.Sound.{Slots}
use Rattle.test_relocations.proofs.boards.assert_parted.Goals as goal

pub returns : goal.returns
returns g c p t q shadow active row = at (cases_lt p c.loop-page.page)
  where
    at : (p < c.loop-page.page) ⊎ (c.loop-page.page ≤ p) → ⊥
    at (inl lt) = c.loop-page.invariant p t q lt shadow row
    at (inr past) =
        let now = chart (g.B.Board.state c.args.board.now) in
        let pages : c.shape-page-end.result.pages ≡ now.shape.pages = ap (λ (s : Shape). s.pages) c.shape-page-end.ensures in
        let end = c.loop-page-test.false in
        let all : now.shape.pages ≤ p = omega arith in
        let none : None ≡ Some (Shadow t q) = sym (get_or_past now.fields.undos p None (rw (Slots.undos_long c.requires.slots) all)) ∙ shadow in
        cc

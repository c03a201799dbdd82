use Rattle.std.specs.Prelude.{◌≡◌, ℕ, Some}
use Rattle.envy_base.specs.declared.fields.Place.TheVariants.{Frame}
use Rattle.envy_map.specs.Fields.{chart, place}
use Rattle.envy_audit.proofs.Marks.{IsMarked, IsApart}
use Rattle.envy_audit.proofs.tables.mark_frames.Given as goal

abbrev pub invariant-loop-page : goal.invariant-loop-page
invariant-loop-page g l = let c = chart (g.B.Board.state l.board) in
    let R : ℕ → ℕ → Type 0 = λ p k. place c.fields p ≡ Some (Frame k) in
    record { marked : IsMarked R l.page l.named; apart : IsApart R l.page }

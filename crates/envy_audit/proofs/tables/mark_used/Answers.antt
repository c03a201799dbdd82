use Rattle.std.proofs.Common.{◌≡◌, ℕ, ◌<◌, length, refl, sym, ◌∙◌, ap, arith}
use Rattle.std.specs.Prelude.{slice_index, slice_set, true}
use Rattle.std.proofs.lemmas.List.{length-set}
use Rattle.envy_base.specs.declared.shape.Shape.{Shape}
use Rattle.envy_map.specs.Fields.{chart}
use Rattle.envy_audit.proofs.Marks.{more-one}
use Rattle.envy_audit.proofs.tables.mark_used.Goals as goal

pub loop-position-preserved : goal.loop-position-preserved
loop-position-preserved g c =
    let R : ℕ → ℕ → Type 0 = λ k s. slice_index (chart (g.B.Board.state c.args.board.now)).fields.positions k ≡ s in
    let k = c.loop-position.position in
    let at = c.in_ok-segment.field-0 in
    let names : R k at = sym c.in_ok-segment.ensures.1 in
    let room : at < length c.loop-position.used = omega (arith, c.requires.decodes.positions k (omega (arith, ap (λ (sh : Shape). sh.segments) c.shape.ensures)), c.requires.long, c.loop-position.auto.used, names) in
    more-one R k c.loop-position.used c.loop-position.invariant at room names (λ q is. sym is ∙ names) (slice_set c.loop-position.used at true) refl (length-set c.loop-position.used at true)

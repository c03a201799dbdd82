use Rattle.std.proofs.Common.{below_more, ◌≡◌, ℕ, ◌/◌, ◌<◌, length, true, refl, sym, ◌∙◌, ap, arith}
use Rattle.std.specs.Prelude.{slice_index, slice_set}
use Rattle.envy_base.specs.declared.shape.Shape.{Shape}
use Rattle.envy_map.specs.Fields.{chart}
use Rattle.std.proofs.lemmas.List.{length-set}
use Rattle.envy_audit.proofs.Marks.{more-one, apart-one}
use Rattle.envy_audit.proofs.Turning.{shown}
use Rattle.envy_audit.proofs.copies.mark_copied.Goals as goal

pub loop-i-preserved : goal.loop-i-preserved
loop-i-preserved g c =
    let R : ℕ → ℕ → Type 0 = λ k s. slice_index (chart (g.B.Board.state c.args.board.now)).fields.origins k ≡ s in
    let k = c.loop-i.i in
    let at = c.in_ok-from.from in
    let names : R k at = sym c.in_ok-from.ensures.1 in
    let room : at < length c.loop-i.copied = omega (arith, c.requires.decodes.origins k (omega arith), c.loop-i.invariant.long, names) in
    record {
      long = length-set c.loop-i.copied at true ∙ c.loop-i.invariant.long;
      marked = more-one R k c.loop-i.copied c.loop-i.invariant.marked at room names (λ q is. sym is ∙ names) (slice_set c.loop-i.copied at true) refl (length-set c.loop-i.copied at true);
      apart = apart-one R k c.loop-i.copied c.loop-i.invariant.marked at room names (λ q is. sym is ∙ names) c.if-copied-from.false c.loop-i.invariant.apart;
      rows = below_more _ _ c.loop-i.invariant.rows (ap (λ (q : ℕ). q / (g.B.Board.state c.args.board.now).shape.rows) names ∙ (ap (λ (sh : Shape). at / sh.rows) (sym c.shape-rows.ensures) ∙ c.if-from-rows.false));
    }

pub returns-clause-tells : goal.returns-clause-tells
returns-clause-tells g c = shown (record {
  rows = λ i below. c.loop-i.invariant.rows i (omega (arith, below));
  differ = λ i j bi bj same. c.loop-i.invariant.apart i j _ (omega (arith, bi)) (omega (arith, bj)) same refl;
})

use Rattle.std.proofs.Common.{◌≡◌, ◌↔◌, ◌==◌, ℕ, IsTrue, sym, ◌∙◌, ap}
use Rattle.std.proofs.lemmas.Bool.{eqb-true}
use Rattle.envy_base.specs.declared.shape.Shape.{Shape}
use Rattle.envy_map.specs.Fields.{Chart, map_fields}
use Rattle.envy_audit.specs.Finding.{KeepsExtras}
use Rattle.envy_audit.proofs.Headings.{eq-true, true-eq}
use Rattle.envy_audit.proofs.map_fields.keeps_extras.Goals as goal

-- where reserves are kept, sums decide
sums-decide : (c : Chart) (sums own : ℕ) → c.fields.version ≡ 3 → c.fields.reserves ≡ c.shape.reserves → c.fields.sums ≡ sums → c.shape.sums ≡ own → IsTrue (sums == own) ↔ KeepsExtras c
sums-decide c sums own three same is own_is = (
  λ yes_. record { reserves = λ _. same; sums = λ _. is ∙ (true-eq sums own yes_ ∙ sym own_is) },
  λ k. eq-true sums own (sym is ∙ (k.sums three ∙ own_is)),
)

pub returns-then-reserves-shape : goal.returns-then-reserves-shape
unfolding map_fields
returns-then-reserves-shape g c =
    let three = sym c.in_ok-version.ensures.1 ∙ c.if-version-ne3.false in
    let same = sym c.in_ok-reserves.ensures.1 ∙ (c.if-reserves-shape.true ∙ ap (λ (sh : Shape). sh.reserves) c.shape-shape.ensures) in
    sums-decide _ _ _ three same (sym c.in_ok-sums.ensures.1) (sym (ap (λ (sh : Shape). sh.sums) c.shape-shape.ensures))

pub returns-else-reserves-shape : goal.returns-else-reserves-shape
unfolding map_fields
returns-else-reserves-shape g c =
    let three = sym c.in_ok-version.ensures.1 ∙ c.if-version-ne3.false in (
      (λ told. absurd (c.if-reserves-shape.false (eqb-true c.in_ok-reserves.reserves _ told))),
      (λ k. absurd (c.if-reserves-shape.false (c.in_ok-reserves.ensures.1 ∙ (KeepsExtras.reserves k three ∙ sym (ap (λ (sh : Shape). sh.reserves) c.shape-shape.ensures))))),
    )

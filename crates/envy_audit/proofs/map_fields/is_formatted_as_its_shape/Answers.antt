use Rattle.std.proofs.Common.{◌≡◌, ℕ, sym, ◌∙◌, subst}
use Rattle.std.proofs.lemmas.Bool.{eqb-true}
use Rattle.envy_base.specs.declared.shape.Shape.{Shape}
use Rattle.envy_base.specs.Shape.{IsVersionOf}
use Rattle.envy_map.specs.Fields.{map_fields}
use Rattle.envy_audit.proofs.map_fields.is_formatted_as_its_shape.Goals as goal

version-at : (s t : Shape) (v w : ℕ) → s ≡ t → v ≡ w → IsVersionOf s v → IsVersionOf t w
version-at s t v w e f is = subst (λ (sh : Shape). IsVersionOf sh w) e (subst (λ (n : ℕ). IsVersionOf s n) f is)

pub returns-then-magic-eq-MAGIC : goal.returns-then-magic-eq-MAGIC
unfolding map_fields
returns-then-magic-eq-MAGIC g c =
    let magic = sym c.in_ok-magic.ensures.1 ∙ c.if-magic-eq-MAGIC.true in
    let told = c.is_version_of.ensures in
    let version = c.in_ok-version.ensures.1 in
    let shape = c.shape.ensures in
    (c.in_ok-magic.ensures.0, (λ yes_. (magic, version-at _ _ _ _ shape version (told.0 yes_)), λ formatted. told.1 (version-at _ _ _ _ (sym shape) (sym version) formatted.1)))

pub returns-else-magic-eq-MAGIC : goal.returns-else-magic-eq-MAGIC
unfolding map_fields
returns-else-magic-eq-MAGIC g c =
    (c.in_ok-magic.ensures.0, (λ told. absurd (c.if-magic-eq-MAGIC.false (eqb-true c.in_ok-magic.magic 7299867124884591432 told)), λ formatted. absurd (c.if-magic-eq-MAGIC.false (c.in_ok-magic.ensures.1 ∙ formatted.0))))

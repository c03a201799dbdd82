use Rattle.std.proofs.Common.{◌≡◌, ℕ, sym, ◌∙◌, subst}
use Rattle.std.proofs.lemmas.Bool.{eqb-true}
use Rattle.envy_map.specs.Fields.{map_fields, IsVersion}
use Rattle.envy_map.proofs.header.is_formatted.Goals as goal

version-at : (a b c x y z : ℕ) → a ≡ x → b ≡ y → c ≡ z → IsVersion a b c → IsVersion x y z
version-at a b c x y z e f h is = subst (λ (n : ℕ). IsVersion n y z) e (subst (λ (n : ℕ). IsVersion a n z) f (subst (λ (n : ℕ). IsVersion a b n) h is))

pub returns-then-magic-eq-MAGIC : goal.returns-then-magic-eq-MAGIC
unfolding map_fields
returns-then-magic-eq-MAGIC g c =
    let magic = sym c.in_ok-magic.ensures.1 ∙ c.if-magic-eq-MAGIC.true in
    let told = c.is_version.ensures in
    let version = c.in_ok-version.ensures.1 in
    let reserves = c.in_ok-reserves.ensures.1 in
    let sums = c.in_ok-sums.ensures.1 in
    (c.in_ok-magic.ensures.0, (λ yes_. (magic, version-at _ _ _ _ _ _ version reserves sums (told.0 yes_)), λ formatted. told.1 (version-at _ _ _ _ _ _ (sym version) (sym reserves) (sym sums) formatted.1)))

pub returns-else-magic-eq-MAGIC : goal.returns-else-magic-eq-MAGIC
unfolding map_fields
returns-else-magic-eq-MAGIC g c =
    (c.in_ok-magic.ensures.0, (λ told. absurd (c.if-magic-eq-MAGIC.false (eqb-true c.in_ok-magic.magic 7299867124884591432 told)), λ formatted. absurd (c.if-magic-eq-MAGIC.false (c.in_ok-magic.ensures.1 ∙ formatted.0))))

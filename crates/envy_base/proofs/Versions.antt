-- Which version of the map a shape has.
use Rattle.std.proofs.Common.{◌≡◌, ◌⊎◌, inl, inr, refl, arith}
use Rattle.envy_base.specs.declared.shape.Shape.{Shape}
use Rattle.envy_base.specs.Shape.{version_of}

pub version-known : (sh : Shape) → (version_of sh ≡ 2) ⊎ (version_of sh ≡ 3)
unfolding version_of
version-known sh = grind arith

pub version-plain : (sh : Shape) → sh.reserves ≡ 0 → sh.sums ≡ 0 → version_of sh ≡ 2
unfolding version_of
version-plain sh none unsummed = grind arith

pub plain-version : (sh : Shape) → version_of sh ≡ 2 → (sh.reserves ≡ 0) × (sh.sums ≡ 0)
unfolding version_of
plain-version sh two = grind arith

-- The slots of a board in the version of its shape.
use Rattle.std.proofs.Common.{◌≡◌, ◌<◌, ℕ, subst, sym}
use Rattle.envy_base.specs.Shape.{version_of}
use Rattle.envy_base.specs.declared.shape.Shape.{Shape}
use Rattle.envy_soundness.specs.Sound.{slots_of}
use Rattle.envy_soundness.proofs.Formed.{slots-all}

pub slot-low : (sh : Shape) (version t : ℕ) → version ≡ version_of sh → t < 64 → t < slots_of version
slot-low sh version t is low = subst (λ (n : ℕ). t < n) (slots-all sh version is) low

pub slot-within : (sh : Shape) (version t : ℕ) → version ≡ version_of sh → t < slots_of version → t < 64
slot-within sh version t is low = subst (λ (n : ℕ). t < n) (sym (slots-all sh version is)) low

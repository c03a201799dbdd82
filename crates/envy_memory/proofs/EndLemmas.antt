-- What a call in which power failed was.
use Rattle.std.proofs.Common.{◌≡◌, ◌⊎◌, inl, inr, false, ℕ, arith}
use Rattle.envy_map.specs.Fields.{Chart}
use Rattle.envy_soundness.specs.Same.{SameDurable, Commits, Counted}
use Rattle.envy_memory.specs.Calls.{IsCut, Undisturbed}

pub Counted-commit : (t : ℕ) (c new : Chart) → SameDurable 0 0 c new ⊎ Commits 0 0 t c new → Counted 0 0 c new
Counted-commit t c new (inl same) = same.counted
Counted-commit t c new (inr done) = done.counted

-- a call in which power failed wasn't undisturbed
pub undisturbed-on : (c new : Chart) → IsCut c new → new.on ≡ false → Undisturbed c new → ⊥
undisturbed-on c new cut off calm = let rose = cut calm.on off calm.low_cuts in let same = calm.cuts in omega arith

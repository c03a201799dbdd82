-- Of a list of slots none of which is open, and of power.
use Rattle.std.proofs.Common.{◌≡◌, ◌⊎◌, inl, inr, ℕ, ◌<◌, ◌≤◌, Bool, true, false, get_or, Option, None, refl}
use Rattle.std.specs.Prelude.{IsTrue, replicate}
use Rattle.std.proofs.lemmas.Bool.{cases_lt}
use Rattle.std.proofs.lemmas.List.{get_or-replicate, get_or_past, length-replicate}
use Rattle.envy_array.specs.Array.{Saved}

pub none-open : (n t : ℕ) → get_or {A = Option Saved} (replicate n None) t None ≡ None
none-open n t = at (cases_lt t n)
  where
    at : (t < n) ⊎ (n ≤ t) → get_or {A = Option Saved} (replicate n None) t None ≡ None
    at (inl lt) = get_or-replicate n t None None lt
    at (inr le) = get_or_past (replicate n None) t None (rw length-replicate le)

-- power that isn't off is on
pub on-from : (on : Bool) → (on ≡ false → ⊥) → IsTrue on
on-from true never = refl
on-from false never = absurd (never refl)

-- A file as a device, by the calls that were made on it.
use Rattle.std.specs.Prelude.{if◌then◌else◌, ℕ, suc, ◌≤◌, Bool, true, false, List, [], ◌∷◌, length}
use Rattle.std.proofs.Common.{inl, inr, arith}
use Rattle.envy_device.specs.Calls.{Call, is_sync, MayLeave, LeftSince, synced_at}

-- since the last call there is no other, and each moment is one of those since an earlier one

pub counts : (w : Bool) (calls : List Call) (t : ℕ) (c : List ℕ) → t ≤ length calls → MayLeave w calls c → LeftSince w calls t c
counts w [] t c le now = now
counts w (call ∷ past) t c le now = inl now

pub only : (w : Bool) (calls : List Call) (c : List ℕ) → LeftSince w calls (length calls) c → MayLeave w calls c
only w [] c left = left
only w (call ∷ past) c (inl now) = now
only w (call ∷ past) c (inr (late, was)) = let no : ⊥ = omega (arith, late) in absurd no

step : (sync : Bool) (past : List Call) → synced_at past ≤ length past → (if sync then suc (length past) else synced_at past) ≤ suc (length past)
step true past le = omega arith
step false past le = omega (arith, le)

pub before : (calls : List Call) → synced_at calls ≤ length calls
before [] = omega arith
before (call ∷ past) = step (is_sync call) past (before past)

-- What one asking of the source leaves.
use Rattle.std.proofs.Common.{◌≡◌, ◌⊎◌, ℕ, ◌+◌, ◌-◌, ◌<◌, ◌≤◌, ◌==◌, min, IsTrue, List, ◌++◌, length, take, Ok, zero, suc, refl, ap, ap₂, sym, ◌∙◌, inl, inr, arith, subst, eqb-true, length-append, length-take-le}
use Rattle.std.proofs.lemmas.List.{take-append-le, length-take}
use Rattle.envy_io.specs.Streams.{Feed, Fills, IsDry, with_front}
use Rattle.envy_io.specs.Taking.{Taking, Wants}
use Rattle.envy_io.specs.Asking.{Asks}
use Rattle.envy_io.proofs.TakesLemmas.{with_front-nil}

goes-on : (n : ℕ) → IsTrue (n == 0) ⊎ (0 < n)
goes-on zero = inl refl
goes-on (suc n) = inr (omega arith)

module _ (now old : Taking) (is : now ≡ old) (wants : Wants old) where
  pub below-cap : now.taken < now.cap
  below-cap = subst (λ (t : Taking). t.taken < t.cap) (sym is) wants.below

  pub held-few : (bytes : List ℕ) → bytes ≡ now.held → length bytes ≤ 120
  held-few bytes b = omega (arith, ap length (b ∙ ap (λ (t : Taking). t.held) is), wants.line.short)

  module _ (into : List ℕ) (count room : ℕ) (cut : room ≡ min (now.cap - now.taken) 128) (long : length into ≤ room) (few : count ≤ length into) where
    pub count-within : now.taken + count ≤ now.cap
    count-within = omega (arith, cut, long, few, below-cap)

    pub ends-below : IsTrue (count == 0) → now.taken + count < now.cap
    ends-below none = omega (arith, eqb-true count 0 none, below-cap)

    pub asked : (from to : Feed) (rest bytes after : List ℕ) → Fills from into (Ok count) to → bytes ≡ now.held → after ≡ bytes ++ take count (into ++ rest)
        → Asks old from (take count into) (record { cap = now.cap; taken = now.taken + count; held = after; ended = count == 0 }) to
    asked from to rest bytes after fills b a =
        let n : length (take count into) ≡ count = length-take-le count into few in
        record {
          cap = ap (λ (t : Taking). t.cap) is;
          taken = ap₂ ◌+◌ (ap (λ (t : Taking). t.taken) is) (sym n);
          within = count-within;
          held = a ∙ ap₂ ◌++◌ (b ∙ ap (λ (t : Taking). t.held) is) (take-append-le count into rest few);
          few = omega (arith, n, cut, long, few);
          left = fills.1;
          faults = omega (arith, fills.3);
          goes = subst (λ k. IsTrue (count == 0) ⊎ (0 < k)) (sym n) (goes-on count);
          dry = λ none.
              let zero_is = eqb-true count 0 none in
              subst IsDry (fills.1 ∙ (ap (λ k. with_front (take k into) to.left) zero_is ∙ with_front-nil to.left)) (fills.2 zero_is);
          below = ends-below;
        }

-- how much is asked for
pub room-few : (left room : ℕ) → room ≡ min left 128 → room ≤ 128
room-few left room cut = omega (arith, cut)

pub room-some : (now old : Taking) → now ≡ old → Wants old → (room : ℕ) (xs : List ℕ) → room ≡ min (now.cap - now.taken) 128 → room ≤ length xs → 0 < length (take room xs)
room-some now old is wants room xs cut few = omega (arith, below-cap now old is wants, cut, length-take-le room xs few)

pub taken-few : (into xs : List ℕ) (n : ℕ) → length into ≡ length (take n xs) → length into ≤ n
taken-few into xs n same = omega (arith, same, length-take n xs)

pub room-behind : (bytes xs : List ℕ) (count : ℕ) → length bytes ≤ 120 → count ≤ 128 → (256 < 9223372036854775808) × (length bytes + length (take count xs) ≤ 248)
room-behind bytes xs count few small = (omega arith, omega (arith, few, small, length-take count xs))

pub held-behind : (after bytes xs : List ℕ) (count : ℕ) → after ≡ bytes ++ take count xs → length bytes ≤ 120 → count ≤ 128 → (0 ≤ length after) × (length after ≤ 248)
held-behind after bytes xs count is few small = (omega arith, omega (arith, ap length is, length-append bytes (take count xs), few, small, length-take count xs))

pub within-front : (front rest : List ℕ) (n : ℕ) → n ≤ length front → n ≤ length (front ++ rest)
within-front front rest n low = omega (arith, low, length-append front rest)

pub count-few : (into : List ℕ) (count room left : ℕ) → room ≡ min left 128 → length into ≤ room → count ≤ length into → count ≤ 128
count-few into count room left cut long few = omega (arith, cut, long, few)

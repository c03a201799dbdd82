-- The counts of the positions in reserve.
use Rattle.std.proofs.Common.{◌≡◌, inl, inr, ◌⊎◌, ◌∙◌, cond, not, ℕ, zero, suc, ◌+◌, ◌-◌, ◌<◌, ◌≤◌, Bool, true, false, List, [], ◌∷◌, length, get_or, refl, sym, ap, arith}
use Rattle.std.specs.Prelude.{◌↔◌, count_by, None}
use Rattle.std.specs.List.{range_with_len}
use Rattle.std.proofs.lemmas.Bool.{cases_eq, eq-eqb, ne_eqb}
use Rattle.std.proofs.lemmas.List.FromFn.{length-range_with_len}
use Rattle.std.proofs.lemmas.List.Sums.{sum_by-cons}
use Rattle.envy_base.specs.Shape.{IsShape, all_positions_of, positions_of}
use Rattle.envy_base.specs.declared.shape.Shape.{Shape}
use Rattle.envy_space.specs.Retiring.{IsFresh, LowestFresh}
use Rattle.envy_space.proofs.SpaceLemmas.{sum_by-range_more}
use Rattle.envy_map.specs.Fields.{Chart}
use Rattle.envy_engine.specs.Agreement.{PartsAgree}
use Rattle.envy_engine.specs.declared.parts.Parts.{Parts}
use Rattle.envy_memory.specs.Reserves.{is_fresh, fresh_in, left, retired, retired_in}

one-of : (b : Bool) → cond b 1 0 + cond (not b) 1 0 ≡ 1
one-of true = refl
one-of false = refl

-- what passes a test and what doesn't are all
pub counts-both : (p : ℕ → Bool) (xs : List ℕ) → count_by p xs + count_by (λ x. not (p x)) xs ≡ length xs
counts-both p [] = refl
counts-both p (x ∷ xs) =
    let yes = sum_by-cons (λ k. cond (p k) 1 0) x xs in
    let no = sum_by-cons (λ k. cond (not (p k)) 1 0) x xs in
    let rest = counts-both p xs in
    let here = one-of (p x) in
    omega arith

pub reserves-both : (sh : Shape) (fills positions : List ℕ) → retired_in sh fills positions + fresh_in sh fills positions ≡ sh.reserves
reserves-both sh fills positions =
    let both = counts-both (is_fresh fills positions) (range_with_len (positions_of sh) sh.reserves) in
    let long = length-range_with_len (positions_of sh) sh.reserves in
    omega arith

counted : (b : Bool) → ◌≡◌ {A = ℕ} (cond b 1 0) 0 → b ≡ false
counted true none = absurd (omega (arith, none))
counted false none = refl

uncounted : (b : Bool) → b ≡ false → ◌≡◌ {A = ℕ} (cond b 1 0) 0
uncounted b is = let one : Bool → ℕ = (λ x. cond x 1 0) in ap one is

-- one more of a range
pub count-more : (p : ℕ → Bool) (first position : ℕ) → first ≤ position → count_by p (range_with_len first (position + 1 - first)) ≡ count_by p (range_with_len first (position - first)) + cond (p position) 1 0
count-more p first position le =
    let next : position + 1 - first ≡ position - first + 1 = omega arith in
    ap (λ (n : ℕ). count_by p (range_with_len first n)) next ∙ sum_by-range_more (λ k. cond (p k) 1 0) first (position - first) position (omega arith)

-- and whether it counts
pub counts-claimed : (fills positions : List ℕ) (k w : ℕ) → w ≡ get_or fills (get_or positions k 0) 0 → (w ≡ 0 → ⊥) → ◌≡◌ {A = ℕ} (cond (not (is_fresh fills positions k)) 1 0) 1
counts-claimed fills positions k w is some = rw (ne_eqb (get_or fills (get_or positions k 0) 0) 0 (λ none. some (is ∙ none))) refl

pub counts-fresh : (fills positions : List ℕ) (k w : ℕ) → w ≡ get_or fills (get_or positions k 0) 0 → w ≡ 0 → ◌≡◌ {A = ℕ} (cond (not (is_fresh fills positions k)) 1 0) 0
counts-fresh fills positions k w is none = rw (eq-eqb (get_or fills (get_or positions k 0) 0) 0 (sym is ∙ none)) refl

-- the pool's counts are the map's
pub retired-is : (c : Chart) (x : Parts) (sh : Shape) → PartsAgree c x → sh ≡ c.shape → retired_in sh x.space.fills x.space.positions ≡ retired c
retired-is c x sh a shape = rw (shape, a.pool.fills, a.pool.positions) refl

pub left-is : (c : Chart) (sh : Shape) (count : ℕ) → sh ≡ c.shape → count ≡ retired c → sh.reserves - count ≡ left c
left-is c sh count shape told =
    let both = reserves-both c.shape c.fields.fills c.fields.positions in
    let same : sh.reserves ≡ c.shape.reserves = ap (λ (x : Shape). x.reserves) shape in
    omega (arith, both, same, told)

-- where none of a range passes, each of it fails
none-pass : (p : ℕ → Bool) (n a k : ℕ) → count_by p (range_with_len a n) ≡ 0 → a ≤ k → k < a + n → p k ≡ false
none-pass p zero a k none from below = absurd (omega arith)
none-pass p (suc n) a k none from below = at (λ past. none-pass p n (a + 1) k (omega (arith, step, none)) (omega arith) (omega arith)) (cases_eq k a)
  where
    step : count_by p (range_with_len a (suc n)) ≡ cond (p a) 1 0 + count_by p (range_with_len (a + 1) n)
    step = sum_by-cons (λ j. cond (p j) 1 0) a (range_with_len (a + 1) n)

    at : ((k ≡ a → ⊥) → p k ≡ false) → (k ≡ a) ⊎ (k ≡ a → ⊥) → p k ≡ false
    at behind (inl here) = ap p here ∙ counted (p a) (omega (arith, step, none))
    at behind (inr past) = behind past

-- and the other way round
all-fail : (p : ℕ → Bool) (n a : ℕ) → ((k : ℕ) → a ≤ k → k < a + n → p k ≡ false) → count_by p (range_with_len a n) ≡ 0
all-fail p zero a each = refl
all-fail p (suc n) a each =
    let step = sum_by-cons (λ j. cond (p j) 1 0) a (range_with_len (a + 1) n) in
    let here = uncounted (p a) (each a (omega arith) (omega arith)) in
    let rest = all-fail p n (a + 1) (λ k from below. each k (omega arith) (omega arith)) in
    omega arith

-- none is left exactly where no position in reserve is fresh
pub none-left : (sh : Shape) (fills positions : List ℕ) → IsShape sh → (fresh_in sh fills positions ≡ 0) ↔ LowestFresh sh fills positions None
none-left sh fills positions shape =
    let end : positions_of sh + sh.reserves ≡ all_positions_of sh = omega (arith, shape.segments, shape.reserves) in (
      λ none k fresh. differ k (none-pass (is_fresh fills positions) sh.reserves (positions_of sh) k none fresh.reserved (omega (arith, end, fresh.below))) fresh.empty,
      λ free. all-fail (is_fresh fills positions) sh.reserves (positions_of sh) (λ k from below. other k (free k) from (omega (arith, end, below)) (cases_eq (get_or fills (get_or positions k 0) 0) 0)),
    )
  where
    differ : (k : ℕ) → is_fresh fills positions k ≡ false → get_or fills (get_or positions k 0) 0 ≡ 0 → ⊥
    differ k not_fresh empty = let yes = eq-eqb (get_or fills (get_or positions k 0) 0) 0 empty in let clash : false ≡ true = sym not_fresh ∙ yes in cc

    other : (k : ℕ) → (IsFresh sh fills positions k → ⊥) → positions_of sh ≤ k → k < all_positions_of sh → (get_or fills (get_or positions k 0) 0 ≡ 0) ⊎ (get_or fills (get_or positions k 0) 0 ≡ 0 → ⊥) → is_fresh fills positions k ≡ false
    other k free from below (inl empty) = absurd (free (record { reserved = from; below = below; empty = empty }))
    other k free from below (inr filled) = ne_eqb (get_or fills (get_or positions k 0) 0) 0 filled

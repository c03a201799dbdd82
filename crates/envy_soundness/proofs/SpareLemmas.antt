-- One segment stands at no position.
use Rattle.std.proofs.Common.{◌≡◌, ◌≢◌, ◌⊎◌, inl, inr, ℕ, zero, suc, ◌<◌, ◌≤◌, Bool, true, false, eqb, List, ◌∷◌, length, get_or, refl, sym, ◌∙◌, subst, arith}
use Rattle.std.specs.List.{list_any}
use Rattle.std.proofs.lemmas.Bool.{cases_eq, cases_lt, ne_eqb, eqb-true, eq-eqb}
use Rattle.std.proofs.lemmas.Grind.{get_or_default_zero}
use Rattle.std.proofs.lemmas.List.Folds.{Any-from_list_any, list_any_at}
use Rattle.std.proofs.lemmas.Map.Keys.{IsDistinct-from_apart}
use Rattle.std.proofs.lemmas.Map.Steps.{length-le_from_distinct_below, le-length_from_below}
use Rattle.envy_base.specs.Shape.{IsShape, all_positions_of, positions_of}
use Rattle.envy_base.specs.declared.shape.Shape.{Shape}
use Rattle.envy_soundness.specs.Sound.{Numbers, Sound, IsPlaced, IsReserved, IsSpare}
use Rattle.envy_map.specs.Fields.{Fields}

-- positions name segments, each another
pub record ArePositions (sh : Shape) (ps : List ℕ) : Type 0 where
  pub long : length ps ≡ all_positions_of sh
  pub range : (k : ℕ) → k < all_positions_of sh → get_or ps k 0 < sh.segments
  pub apart : (i j : ℕ) → i < all_positions_of sh → j < all_positions_of sh → get_or ps i 0 ≡ get_or ps j 0 → i ≡ j

one-spare_of : (sh : Shape) (ps : List ℕ) (s e : ℕ) → ArePositions sh ps → IsSpare sh ps s → IsSpare sh ps e → s ≡ e
one-spare_of sh ps s e are a b = at (cases_eq s e)
  where
    differ : (s ≡ e → ⊥) → (i j d : ℕ) → i < j → j < length (s ∷ e ∷ ps) → get_or (s ∷ e ∷ ps) i d ≢ get_or (s ∷ e ∷ ps) j d
    differ ne i zero d lt room = λ same. absurd (omega arith)
    differ ne zero (suc zero) d lt room = ne
    differ ne zero (suc (suc j)) d lt room = λ same. let long = are.long in IsSpare.nowhere a j (omega arith) (sym (get_or_default_zero ps j d (omega arith)) ∙ sym same)
    differ ne (suc zero) (suc zero) d lt room = λ same. absurd (omega arith)
    differ ne (suc zero) (suc (suc j)) d lt room = λ same. let long = are.long in IsSpare.nowhere b j (omega arith) (sym (get_or_default_zero ps j d (omega arith)) ∙ sym same)
    differ ne (suc (suc i)) (suc zero) d lt room = λ same. absurd (omega arith)
    differ ne (suc (suc i)) (suc (suc j)) d lt room = λ same. let long = are.long in let one = are.apart i j (omega arith) (omega arith) (sym (get_or_default_zero ps i d (omega arith)) ∙ same ∙ get_or_default_zero ps j d (omega arith)) in absurd (omega arith)

    small : (k x : ℕ) → k < length (s ∷ e ∷ ps) → get_or (s ∷ e ∷ ps) k x ≡ x → x < sh.segments
    small zero x lt is = subst (λ (n : ℕ). n < sh.segments) is (IsSpare.segment a)
    small (suc zero) x lt is = subst (λ (n : ℕ). n < sh.segments) is (IsSpare.segment b)
    small (suc (suc k)) x lt is = let long = are.long in subst (λ (n : ℕ). n < sh.segments) (sym (get_or_default_zero ps k x (omega arith)) ∙ is) (are.range k (omega arith))

    below : (q : ℕ) → list_any (eqb q) (s ∷ e ∷ ps) ≡ true → q < sh.segments
    below q found = let x = Any-from_list_any (eqb q) (s ∷ e ∷ ps) found in subst (λ (n : ℕ). n < sh.segments) (sym (eqb-true q x.1 x.4)) (small x.0 x.1 x.2 x.3)

    at : (s ≡ e) ⊎ (s ≡ e → ⊥) → s ≡ e
    at (inl same) = same
    at (inr ne) =
        let few = length-le_from_distinct_below (s ∷ e ∷ ps) sh.segments (IsDistinct-from_apart eqb (s ∷ e ∷ ps) (λ i j d lt room. ne_eqb _ _ (differ ne i j d lt room))) below in
        let long = are.long in
        let some = IsSpare.segment a in
        absurd (omega arith)

-- there is no second spare
pub one-spare : (sh : Shape) (f : Fields) (flash : List (List ℕ)) (s e : ℕ) → Sound sh f flash → IsSpare sh f.positions s → IsSpare sh f.positions e → s ≡ e
one-spare sh f flash s e sound = one-spare_of sh f.positions s e (record { long = Numbers.positions_long sound.numbers; range = Numbers.positions_fit sound.numbers; apart = Numbers.apart sound.numbers })

-- a segment stands at some position, in use or in reserve
abbrev IsAnywhere : Shape → List ℕ → ℕ → Type 0
IsAnywhere sh positions s = (k : ℕ) × (k < all_positions_of sh) × (get_or positions k 0 ≡ s)

-- a segment stands at a position or is the spare
anywhere-or-spare : (sh : Shape) (f : Fields) (flash : List (List ℕ)) (s : ℕ) → Sound sh f flash → s < sh.segments → IsAnywhere sh f.positions s ⊎ IsSpare sh f.positions s
anywhere-or-spare sh f flash s sound lt = at (list_any (eqb s) f.positions) refl
  where
    at : (b : Bool) → list_any (eqb s) f.positions ≡ b → IsAnywhere sh f.positions s ⊎ IsSpare sh f.positions s
    at true found =
        let x = Any-from_list_any (eqb s) f.positions found in
        let long = Numbers.positions_long sound.numbers in
        inl (x.0, (let room = x.2 in omega arith), sym (get_or_default_zero f.positions x.0 x.1 x.2) ∙ x.3 ∙ sym (eqb-true s x.1 x.4))
    at false none = inr (record { segment = lt; nowhere = λ k room is. let long = Numbers.positions_long sound.numbers in let some : list_any (eqb s) f.positions ≡ true = list_any_at (eqb s) f.positions k 0 (omega arith) (eq-eqb s (get_or f.positions k 0) (sym is)) in cc })

-- a position is in use or in reserve
pub placed-or-spare : (sh : Shape) (f : Fields) (flash : List (List ℕ)) (s : ℕ) → Sound sh f flash → s < sh.segments → IsPlaced sh f.positions s ⊎ (IsReserved sh f.positions s ⊎ IsSpare sh f.positions s)
placed-or-spare sh f flash s sound lt = at (anywhere-or-spare sh f flash s sound lt)
  where
    by_position : (k : ℕ) → k < all_positions_of sh → get_or f.positions k 0 ≡ s → (k < positions_of sh) ⊎ (positions_of sh ≤ k) → IsPlaced sh f.positions s ⊎ (IsReserved sh f.positions s ⊎ IsSpare sh f.positions s)
    by_position k low is (inl used) = inl (k, used, is)
    by_position k low is (inr kept) = inr (inl (k, kept, low, is))

    at : IsAnywhere sh f.positions s ⊎ IsSpare sh f.positions s → IsPlaced sh f.positions s ⊎ (IsReserved sh f.positions s ⊎ IsSpare sh f.positions s)
    at (inl (k, low, is)) = by_position k low is (cases_lt k (positions_of sh))
    at (inr spare) = inr (inr spare)

-- of the first n segments one is the spare, or all stand at positions
first-spare : (sh : Shape) (f : Fields) (flash : List (List ℕ)) (n : ℕ) → Sound sh f flash → n ≤ sh.segments → ((e : ℕ) × IsSpare sh f.positions e) ⊎ ((s : ℕ) → s < n → IsAnywhere sh f.positions s)
first-spare sh f flash zero sound le = inr (λ s lt. absurd (omega arith))
first-spare sh f flash (suc n) sound le = at (first-spare sh f flash n sound (omega arith)) (anywhere-or-spare sh f flash n sound (omega arith))
  where
    at : ((e : ℕ) × IsSpare sh f.positions e) ⊎ ((s : ℕ) → s < n → IsAnywhere sh f.positions s) → IsAnywhere sh f.positions n ⊎ IsSpare sh f.positions n → ((e : ℕ) × IsSpare sh f.positions e) ⊎ ((s : ℕ) → s < suc n → IsAnywhere sh f.positions s)
    at (inl found) here = inl found
    at (inr all) (inr spare) = inl (n, spare)
    at (inr all) (inl placed) = inr (λ s lt. more s lt (cases_eq s n))
      where
        more : (s : ℕ) → s < suc n → (s ≡ n) ⊎ (s ≡ n → ⊥) → IsAnywhere sh f.positions s
        more s lt (inl same) = subst (λ (x : ℕ). IsAnywhere sh f.positions x) (sym same) placed
        more s lt (inr other) = all s (omega arith)

-- there is one
pub some-spare : (sh : Shape) (f : Fields) (flash : List (List ℕ)) → Sound sh f flash → IsShape sh → (e : ℕ) × IsSpare sh f.positions e
some-spare sh f flash sound shape = at (first-spare sh f flash sh.segments sound (omega arith))
  where
    named : (s : ℕ) → IsAnywhere sh f.positions s → list_any (eqb s) f.positions ≡ true
    named s (k, lt, is) = let long = Numbers.positions_long sound.numbers in list_any_at (eqb s) f.positions k 0 (omega arith) (eq-eqb s (get_or f.positions k 0) (sym is))

    at : ((e : ℕ) × IsSpare sh f.positions e) ⊎ ((s : ℕ) → s < sh.segments → IsAnywhere sh f.positions s) → (e : ℕ) × IsSpare sh f.positions e
    at (inl found) = found
    at (inr all) =
        let many = le-length_from_below f.positions sh.segments (λ s lt. named s (all s lt)) in
        let long = Numbers.positions_long sound.numbers in
        let four = shape.segments in
        absurd (omega arith)

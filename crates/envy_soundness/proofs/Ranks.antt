-- The numbers below a bound that pass a test, and where each stands among them.
use Rattle.std.proofs.Common.{◌≡◌, ◌⊎◌, inl, inr, ℕ, zero, suc, ◌+◌, ◌<◌, ◌≤◌, Bool, true, false, cond, not, List, [], ◌∷◌, ◌++◌, length, get_or, take, drop, refl, sym, ◌∙◌, ap, subst, arith, add-one, append-nil}
use Rattle.std.specs.List.{filter, range_with_len}
use Rattle.std.proofs.lemmas.Bool.{cases_lt, cases_eq}
use Rattle.std.proofs.lemmas.List.{take_all, drop_all, length-append, length-take, length-drop, take-append-le, get_or_append_left, get_or_push}
use Rattle.std.proofs.lemmas.List.Elements.{filter-append}
use Rattle.std.proofs.lemmas.List.Filters.{length-filter_both}
use Rattle.std.proofs.lemmas.List.FromFn.{length-range_with_len}
use Rattle.envy_map.specs.Writes.{pasted}

abbrev pub passed : (ℕ → Bool) → ℕ → List ℕ
passed p n = filter p (range_with_len 0 n)

range-more : (a n : ℕ) → range_with_len a (suc n) ≡ range_with_len a n ++ (a + n) ∷ []
range-more a zero = let e : a ≡ a + 0 = omega arith in ap (λ (k : ℕ). k ∷ []) e
range-more a (suc n) =
    let e : a + 1 + n ≡ a + suc n = omega arith in
    ap (λ (r : List ℕ). a ∷ r) (range-more (a + 1) n ∙ ap (λ (k : ℕ). range_with_len (a + 1) n ++ k ∷ []) e)

passed-suc : (p : ℕ → Bool) (n : ℕ) → passed p (suc n) ≡ passed p n ++ cond (p n) (n ∷ []) []
passed-suc p n =
    let e : 0 + n ≡ n = omega arith in
    ap (filter p) (range-more 0 n ∙ ap (λ (k : ℕ). range_with_len 0 n ++ k ∷ []) e) ∙ filter-append p (range_with_len 0 n) (n ∷ [])

pub passed-more : (p : ℕ → Bool) (n : ℕ) → passed p (n + 1) ≡ passed p n ++ cond (p n) (n ∷ []) []
passed-more p n = ap (passed p) (add-one n) ∙ passed-suc p n

pub count-more : (p : ℕ → Bool) (n : ℕ) → length (passed p (n + 1)) ≡ length (passed p n) + cond (p n) 1 0
count-more p n = ap length (passed-more p n) ∙ at (p n)
  where
    at : (b : Bool) → length (passed p n ++ cond b (n ∷ []) []) ≡ length (passed p n) + cond b 1 0
    at true = length-append (passed p n) (n ∷ [])
    at false = ap length (append-nil (passed p n)) ∙ omega arith

-- only the numbers below the bound matter
pub passed-same : (p q : ℕ → Bool) (n : ℕ) → ((s : ℕ) → s < n → p s ≡ q s) → passed p n ≡ passed q n
passed-same p q zero same = refl
passed-same p q (suc n) same =
    passed-suc p n
    ∙ ap (λ (xs : List ℕ). xs ++ cond (p n) (n ∷ []) []) (passed-same p q n (λ s lt. same s (omega arith)))
    ∙ ap (λ (b : Bool). passed q n ++ cond b (n ∷ []) []) (same n (omega arith))
    ∙ sym (passed-suc q n)

pub passed-none : (n : ℕ) → length (passed (λ s. false) n) ≡ 0
passed-none zero = refl
passed-none (suc n) = ap length (passed-suc (λ s. false) n ∙ append-nil (passed (λ s. false) n)) ∙ passed-none n

-- v is number i of those that pass
pub record Ranked (p : ℕ → Bool) (n i v : ℕ) : Type 0 where
  pub below : v < n
  pub passes : p v ≡ true
  pub rank : i ≡ length (passed p v)

Ranked-more : (p : ℕ → Bool) (n i v : ℕ) → Ranked p n i v → Ranked p (suc n) i v
Ranked-more p n i v r = record { below = let b = r.below in omega arith; passes = r.passes; rank = r.rank }

Ranked-last : (p : ℕ → Bool) (n i : ℕ) → p n ≡ true → (i < length (passed p n) → Ranked p n i (get_or (passed p n) i 0)) → (i < length (passed p n)) ⊎ (length (passed p n) ≤ i) → i < length (passed p n ++ n ∷ []) → Ranked p (suc n) i (get_or (passed p n ++ n ∷ []) i 0)
Ranked-last p n i passes before (inl low) room = subst (λ (v : ℕ). Ranked p (suc n) i v) (sym (get_or_append_left (passed p n) (n ∷ []) 0 i low)) (Ranked-more p n i _ (before low))
Ranked-last p n i passes before (inr high) room =
    let last : length (passed p n) ≡ i = omega (arith, length-append (passed p n) (n ∷ [])) in
    subst (λ (v : ℕ). Ranked p (suc n) i v) (sym (get_or_push (passed p n) n 0 i last)) (record { below = omega arith; passes = passes; rank = sym last })

Ranked-suc : (p : ℕ → Bool) (n i : ℕ) (b : Bool) → p n ≡ b → (i < length (passed p n) → Ranked p n i (get_or (passed p n) i 0)) → i < length (passed p (suc n)) → Ranked p (suc n) i (get_or (passed p (suc n)) i 0)
Ranked-suc p n i true is before =
    let e : passed p (suc n) ≡ passed p n ++ n ∷ [] = passed-suc p n ∙ ap (λ (b : Bool). passed p n ++ cond b (n ∷ []) []) is in
    subst (λ (xs : List ℕ). i < length xs → Ranked p (suc n) i (get_or xs i 0)) (sym e) (Ranked-last p n i is before (cases_lt i (length (passed p n))))
Ranked-suc p n i false is before =
    let e : passed p (suc n) ≡ passed p n = passed-suc p n ∙ ap (λ (b : Bool). passed p n ++ cond b (n ∷ []) []) is ∙ append-nil (passed p n) in
    subst (λ (xs : List ℕ). i < length xs → Ranked p (suc n) i (get_or xs i 0)) (sym e) (λ low. Ranked-more p n i _ (before low))

pub passed-at : (p : ℕ → Bool) (n i : ℕ) → i < length (passed p n) → Ranked p n i (get_or (passed p n) i 0)
passed-at p zero i lt = absurd (omega arith)
passed-at p (suc n) i lt = Ranked-suc p n i (p n) refl (passed-at p n i) lt

-- where a number stands
pub record Found (p : ℕ → Bool) (n s : ℕ) : Type 0 where
  pub room : length (passed p s) < length (passed p n)
  pub here : get_or (passed p n) (length (passed p s)) 0 ≡ s

Found-last : (p : ℕ → Bool) (n s : ℕ) → p s ≡ true → s ≡ n → Found p (suc n) s
Found-last p n s passes same =
    let is : p n ≡ true = ap p (sym same) ∙ passes in
    let e : passed p (suc n) ≡ passed p n ++ n ∷ [] = passed-suc p n ∙ ap (λ (b : Bool). passed p n ++ cond b (n ∷ []) []) is in
    let long : length (passed p n) ≡ length (passed p s) = ap (λ (k : ℕ). length (passed p k)) (sym same) in
    record {
      room = subst (λ (xs : List ℕ). length (passed p s) < length xs) (sym e) (omega (arith, long, length-append (passed p n) (n ∷ [])));
      here = subst (λ (xs : List ℕ). get_or xs (length (passed p s)) 0 ≡ s) (sym e) (get_or_push (passed p n) n 0 (length (passed p s)) long ∙ sym same);
    }

Found-more : (p : ℕ → Bool) (n s : ℕ) → Found p n s → Found p (suc n) s
Found-more p n s f = record {
  room = subst (λ (xs : List ℕ). length (passed p s) < length xs) (sym (passed-suc p n)) (let r = f.room in omega (arith, length-append (passed p n) (cond (p n) (n ∷ []) [])));
  here = subst (λ (xs : List ℕ). get_or xs (length (passed p s)) 0 ≡ s) (sym (passed-suc p n)) (get_or_append_left (passed p n) (cond (p n) (n ∷ []) []) 0 (length (passed p s)) f.room ∙ f.here);
}

Found-suc : (p : ℕ → Bool) (n s : ℕ) → p s ≡ true → (s ≡ n) ⊎ (s ≡ n → ⊥) → s < suc n → (s < n → Found p n s) → Found p (suc n) s
Found-suc p n s passes (inl same) lt before = Found-last p n s passes same
Found-suc p n s passes (inr other) lt before = Found-more p n s (before (let o = other in omega arith))

pub passed-find : (p : ℕ → Bool) (n s : ℕ) → s < n → p s ≡ true → Found p n s
passed-find p zero s lt passes = absurd (omega arith)
passed-find p (suc n) s lt passes = Found-suc p n s passes (cases_eq s n) lt (λ low. passed-find p n s low passes)

-- those that pass, and those that don't
pub counts-both : (p : ℕ → Bool) (n : ℕ) → length (passed p n) + length (passed (λ s. not (p s)) n) ≡ n
counts-both p n = length-filter_both p (λ s. not (p s)) (λ s. refl) (range_with_len 0 n) ∙ length-range_with_len 0 n

-- two lists written one behind the other, over the whole of a third
pub pasted-both : (ps xs ys : List ℕ) (m b : ℕ) → m ≤ length xs → length ys ≡ b → length ps ≡ m + b → pasted (pasted ps 0 xs m) m ys b ≡ take m xs ++ ys
pasted-both ps xs ys m b low long whole =
    let front : length (take m xs) ≡ m = omega (arith, length-take m xs) in
    let rest : length (drop (0 + m) ps) ≡ b = omega (arith, length-drop (0 + m) ps) in
    let first : take m (take m xs ++ drop (0 + m) ps) ≡ take m xs = take-append-le m (take m xs) (drop (0 + m) ps) (omega arith) ∙ take_all m (take m xs) (omega arith) in
    let none : drop (m + b) (take m xs ++ drop (0 + m) ps) ≡ [] = drop_all (m + b) (take m xs ++ drop (0 + m) ps) (omega (arith, length-append (take m xs) (drop (0 + m) ps))) in
    ap (λ (r : List ℕ). r ++ take b ys ++ drop (m + b) (take m xs ++ drop (0 + m) ps)) first
    ∙ ap (λ (r : List ℕ). take m xs ++ r ++ drop (m + b) (take m xs ++ drop (0 + m) ps)) (take_all b ys (omega arith))
    ∙ ap (λ (r : List ℕ). take m xs ++ ys ++ r) none
    ∙ append-nil (take m xs ++ ys)

-- The pieces between blanks, one by one.
use Rattle.std.proofs.Common.{◌≡◌, ℕ, suc, ◌+◌, ◌<◌, ◌≤◌, Bool, true, false, not, cond, List, [], ◌∷◌, length, take, drop, get_or, filter, None, Some, position, unwrap_or, refl, sym, ap, ◌∙◌, subst, ◌⊎◌, inl, inr, arith, nat_lt}
use Rattle.std.specs.List.{slice_split, onto_first, position_or_len}
use Rattle.std.proofs.lemmas.Bool.{cond-true, cond-false, lt-ltb, ltb-false, ltb-true}
use Rattle.std.proofs.lemmas.List.{length-drop}
use Rattle.std.proofs.lemmas.List.Sums.{prefix_len-le-length}
use Rattle.std.proofs.Math.ListN.{drop_of_length-le}
use Rattle.std.proofs.lemmas.List.Splits.{slice_split-cons_yes, slice_split-cons_no}
use Rattle.std.specs.Str.Parse.{AllDigits}
use Rattle.envy_trace.specs.Grammar.{is_blank, pieces}
use Rattle.envy_trace.proofs.Digits.{run-ends}

abbrev pub is_full : List ℕ → Bool
is_full piece = nat_lt 0 (length piece)

abbrev no_blank : ℕ → Bool
no_blank byte = not (is_blank byte)

pub pieces-blank : (b : ℕ) (bs : List ℕ) → is_blank b ≡ true → pieces (b ∷ bs) ≡ pieces bs
pieces-blank b bs e = ap (λ parts. filter is_full parts) (slice_split-cons_yes is_blank b bs e)

-- one more step from the front
drop-one : (n : ℕ) (b : ℕ) (bs : List ℕ) → drop (1 + n) (b ∷ bs) ≡ drop n bs
drop-one n b bs = let e : 1 + n ≡ suc n = omega arith in ap (λ k. drop k (b ∷ bs)) e

take-one : (n : ℕ) (b : ℕ) (bs : List ℕ) → take (1 + n) (b ∷ bs) ≡ b ∷ take n bs
take-one n b bs = let e : 1 + n ≡ suc n = omega arith in ap (λ k. take k (b ∷ bs)) e

-- Blanks in front don't count: what follows them is nothing, or begins with another byte.
record Starts (bs rest : List ℕ) : Type 0 where
  same : pieces bs ≡ pieces rest
  shape : (rest ≡ []) ⊎ ((b : ℕ) × (cs : List ℕ) × (rest ≡ b ∷ cs) × (is_blank b ≡ false))

starts : (bs : List ℕ) → Starts bs (drop (position_or_len no_blank bs) bs)
starts [] = record { same = refl; shape = inl refl }
starts (b ∷ bs) = go (is_blank b) refl (starts bs)
  where
    go : (v : Bool) → is_blank b ≡ v → Starts bs (drop (position_or_len no_blank bs) bs) → Starts (b ∷ bs) (drop (position_or_len no_blank (b ∷ bs)) (b ∷ bs))
    go true e s =
        let n : position_or_len no_blank (b ∷ bs) ≡ 1 + position_or_len no_blank bs = cond-true _ _ _ (ap (λ v. not (not v)) e) in
        let rest : drop (position_or_len no_blank (b ∷ bs)) (b ∷ bs) ≡ drop (position_or_len no_blank bs) bs = ap (λ k. drop k (b ∷ bs)) n ∙ drop-one _ b bs in
        subst (λ (r : List ℕ). Starts (b ∷ bs) r) (sym rest) (record { same = pieces-blank b bs e ∙ s.same; shape = s.shape })
    go false e s =
        let n : position_or_len no_blank (b ∷ bs) ≡ 0 = cond-false _ _ _ (ap (λ v. not (not v)) e) in
        subst (λ (k : ℕ). Starts (b ∷ bs) (drop k (b ∷ bs))) (sym n) (record { same = refl; shape = inr (b, bs, refl, e) })

-- A first part ends at a blank, or where the list ends.
record Splits (bs : List ℕ) (k : ℕ) : Type 0 where
  tail : List (List ℕ)
  parts : slice_split is_blank bs ≡ take k bs ∷ tail
  others : filter is_full tail ≡ pieces (drop k bs)

splits : (bs : List ℕ) → Splits bs (position_or_len is_blank bs)
splits [] = record { tail = []; parts = refl; others = refl }
splits (b ∷ bs) = go (is_blank b) refl (splits bs)
  where
    go : (v : Bool) → is_blank b ≡ v → Splits bs (position_or_len is_blank bs) → Splits (b ∷ bs) (position_or_len is_blank (b ∷ bs))
    go true e s =
        let n : position_or_len is_blank (b ∷ bs) ≡ 0 = cond-false _ _ _ (ap not e) in
        subst (λ (k : ℕ). Splits (b ∷ bs) k) (sym n)
        (record { tail = slice_split is_blank bs; parts = slice_split-cons_yes is_blank b bs e; others = sym (pieces-blank b bs e) })
    go false e s =
        let n : position_or_len is_blank (b ∷ bs) ≡ 1 + position_or_len is_blank bs = cond-true _ _ _ (ap not e) in
        subst (λ (k : ℕ). Splits (b ∷ bs) k) (sym n)
        (record {
          tail = s.tail;
          parts = slice_split-cons_no is_blank b bs e ∙ (ap (λ ps. onto_first b ps) s.parts ∙ ap (λ p. p ∷ s.tail) (sym (take-one _ b bs)));
          others = s.others ∙ ap pieces (sym (drop-one _ b bs));
        })

-- what `position` answers, by the first place that passes
place_none : (a b : ℕ) → cond (nat_lt a b) (Some a) None ≡ None → b ≤ a
place_none a b = go (nat_lt a b) refl
  where
    go : (v : Bool) → nat_lt a b ≡ v → cond v (Some a) None ≡ None → b ≤ a
    go true e h = absurd (let no : ⊥ = cc in no)
    go false e h = ltb-false a b e

place_some : (a b n : ℕ) → cond (nat_lt a b) (Some a) None ≡ Some n → (n ≡ a) × (a < b)
place_some a b n = go (nat_lt a b) refl
  where
    go : (v : Bool) → nat_lt a b ≡ v → cond v (Some a) None ≡ Some n → (n ≡ a) × (a < b)
    go true e h = (cc, ltb-true a b e)
    go false e h = absurd (let no : ⊥ = cc in no)

place_or_end : (a b : ℕ) → a ≤ b → unwrap_or (cond (nat_lt a b) (Some a) None) b ≡ a
place_or_end a b le = go (nat_lt a b) refl
  where
    go : (v : Bool) → nat_lt a b ≡ v → unwrap_or (cond v (Some a) None) b ≡ a
    go true e = refl
    go false e = let past = ltb-false a b e in omega arith

pub pieces-none : (bs : List ℕ) → position no_blank bs ≡ None → pieces bs ≡ []
pieces-none bs e =
    let n = position_or_len no_blank bs in
    (starts bs).same ∙ ap pieces (drop_of_length-le bs (place_none n (length bs) e))

-- a piece begins at a byte that is no blank, and goes on to the next blank
piece : (b : ℕ) (bs : List ℕ) → is_blank b ≡ false → let k = position_or_len is_blank (b ∷ bs) in pieces (b ∷ bs) ≡ take k (b ∷ bs) ∷ pieces (drop k (b ∷ bs))
piece b bs e =
    let k = position_or_len is_blank (b ∷ bs) in
    let one : k ≡ 1 + position_or_len is_blank bs = cond-true _ _ _ (ap not e) in
    let s = splits (b ∷ bs) in
    let full : is_full (take k (b ∷ bs)) ≡ true = lt-ltb 0 _ (omega (arith, ap (λ i. length (take i (b ∷ bs))) one, ap length (take-one (position_or_len is_blank bs) b bs))) in
    ap (λ parts. filter is_full parts) s.parts ∙ (cond-true _ _ _ full ∙ ap (λ ps. take k (b ∷ bs) ∷ ps) s.others)

-- the first piece begins where the blanks in front end
pub pieces-some : (bs : List ℕ) (n k : ℕ) → position no_blank bs ≡ Some n → k ≡ unwrap_or (position is_blank (drop n bs)) (length (drop n bs)) → pieces bs ≡ take k (drop n bs) ∷ pieces (drop k (drop n bs))
pieces-some bs n k e f =
    let m = position_or_len no_blank bs in
    let at : (n ≡ m) × (m < length bs) = place_some m (length bs) n e in
    let s = subst (λ (i : ℕ). Starts bs (drop i bs)) (sym at.0) (starts bs) in
    let inside : n < length bs = omega (arith, at) in
    s.same ∙ from (drop n bs) s.shape (omega (arith, length-drop n bs)) k f
  where
    from : (rest : List ℕ) → (rest ≡ []) ⊎ ((b : ℕ) × (cs : List ℕ) × (rest ≡ b ∷ cs) × (is_blank b ≡ false)) → 0 < length rest → (k : ℕ) → k ≡ unwrap_or (position is_blank rest) (length rest) → pieces rest ≡ take k rest ∷ pieces (drop k rest)
    from rest (inl none) some k f = absurd (omega (arith, ap length none))
    from rest (inr h) some k f =
        let first = subst (λ (r : List ℕ). pieces r ≡ take (position_or_len is_blank r) r ∷ pieces (drop (position_or_len is_blank r) r)) (sym h.2) (piece h.0 h.1 h.3) in
        let same : k ≡ position_or_len is_blank rest = f ∙ place_or_end (position_or_len is_blank rest) (length rest) (prefix_len-le-length (λ b. not (is_blank b)) rest) in
        subst (λ (i : ℕ). pieces rest ≡ take i rest ∷ pieces (drop i rest)) (sym same) first

-- the first piece begins with digits, behind which a blank stands, or nothing
pub pieces-digits : (bs rest : List ℕ) (n k : ℕ) → position no_blank bs ≡ Some n → rest ≡ drop n bs → AllDigits 10 (take k rest) → k ≤ length rest → (k < length rest → is_blank (get_or rest k 0) ≡ true) → pieces bs ≡ take k rest ∷ pieces (drop k rest)
pieces-digits bs rest n k e is all within ends =
    let ended : position_or_len is_blank (drop n bs) ≡ k = ap (λ (r : List ℕ). position_or_len is_blank r) (sym is) ∙ run-ends rest k all within ends in
    let found = place_or_end (position_or_len is_blank (drop n bs)) (length (drop n bs)) (prefix_len-le-length (λ b. not (is_blank b)) (drop n bs)) in
    subst (λ (r : List ℕ). pieces bs ≡ take k r ∷ pieces (drop k r)) (sym is) (pieces-some bs n k e (sym (found ∙ ended)))

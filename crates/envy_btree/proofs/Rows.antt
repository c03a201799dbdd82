-- Rows of pairs, and what a scan writes.
use Rattle.std.proofs.Common.{◌≡◌, ℕ, zero, suc, ◌+◌, ◌-◌, ◌^◌, ◌<◌, ◌≤◌, List, [], ◌∷◌, ◌++◌, length, take, drop, get_or, set, Option, None, Some, inl, inr, refl, ap, ap₂, sym, subst, ◌∙◌, arith}
use Rattle.std.specs.Option.{SomeIff}
use Rattle.std.proofs.Math.Seq.{take-append-add}
use Rattle.std.proofs.lemmas.Bool.{cases_lt}
use Rattle.std.proofs.lemmas.List.{append_assoc, append-nil, get_or-drop, length-append, length-drop, length-take, drop-set-lt, take-append-le, take_all, take_more, take_more_set}
use Rattle.envy_array.specs.Words.{IsPlace}
use Rattle.envy_heap.specs.Pieces.{at}
use Rattle.envy_btree.specs.Looking.{IsLeaf, IsShown, first_of, pair_at, pairs_after, pairs_by}
use Rattle.envy_btree.specs.declared.way.Way.{Way}
use Rattle.envy_btree.specs.declared.way.Way.TheVariants.{Up, Down}
use Rattle.envy_btree.specs.Nearest.{pairs_from, pairs_to}
use Rattle.envy_btree.proofs.Passing.{Parts, backward, backward-append, down-end, down-next, down-to, leaf-pair, up-end, up-from, up-next}

pub first-same : (f h : ℕ → ℕ × ℕ) (n : ℕ) → ((j : ℕ) → j < n → f j ≡ h j) → first_of f n ≡ first_of h n
first-same f h zero e = refl
first-same f h (suc n) e = ap (λ xs. xs ++ f n ∷ []) (first-same f h n (λ j lt. e j (omega arith))) ∙ ap (λ x. first_of h n ++ x ∷ []) (e n (omega arith))

pub first-long : (f : ℕ → ℕ × ℕ) (n : ℕ) → length (first_of f n) ≡ n
first-long f zero = refl
first-long f (suc n) = omega (arith, length-append (first_of f n) (f n ∷ []), first-long f n)

-- the first of a list
pub first-take : (f : ℕ → ℕ × ℕ) (xs : List (ℕ × ℕ)) (n : ℕ) → n ≤ length xs → ((j : ℕ) → j < n → f j ≡ get_or xs j (0, 0)) → first_of f n ≡ take n xs
first-take f [] zero le e = refl
first-take f (x ∷ xs) zero le e = refl
first-take f xs (suc n) le e =
    ap (λ z. z ++ f n ∷ []) (first-take f xs n (omega arith) (λ j lt. e j (omega arith)))
    ∙ ap (λ x. take n xs ++ x ∷ []) (e n (omega arith))
    ∙ sym (take_more xs n (0, 0) (omega arith))
    ∙ ap (λ k. take k xs) (let h : n + 1 ≡ suc n = omega arith in h)

-- a row that begins with this one
first-cons : (f : ℕ → ℕ × ℕ) (n : ℕ) → first_of f (suc n) ≡ f 0 ∷ first_of (λ j. f (suc j)) n
first-cons f zero = refl
first-cons f (suc n) = ap (λ z. z ++ f (suc n) ∷ []) (first-cons f n)

-- the first of a list, the last first
pub first-back : (xs : List (ℕ × ℕ)) (i : ℕ) → i ≤ length xs → first_of (λ j. get_or xs (i - 1 - j) (0, 0)) i ≡ backward (take i xs)
first-back [] zero le = refl
first-back (x ∷ xs) zero le = refl
first-back xs (suc i) le =
    first-cons (λ j. get_or xs (suc i - 1 - j) (0, 0)) i
    ∙ ap (λ y. y ∷ first_of (λ j. get_or xs (suc i - 1 - suc j) (0, 0)) i) (ap (λ k. get_or xs k (0, 0)) (let h : suc i - 1 - 0 ≡ i = omega arith in h))
    ∙ ap (λ ys. get_or xs i (0, 0) ∷ ys) (first-same (λ j. get_or xs (suc i - 1 - suc j) (0, 0)) (λ j. get_or xs (i - 1 - j) (0, 0)) i (λ j lt. ap (λ k. get_or xs k (0, 0)) (let h : suc i - 1 - suc j ≡ i - 1 - j = omega arith in h)) ∙ first-back xs i (omega arith))
    ∙ sym (backward-append (take i xs) (get_or xs i (0, 0) ∷ []))
    ∙ ap backward (sym (take_more xs i (0, 0) (omega arith)))
    ∙ ap (λ k. backward (take k xs)) (let h : i + 1 ≡ suc i = omega arith in h)

-- The part of a leaf on a way, and what goes on behind it

pub row-up : (ws : List ℕ) (es : List (ℕ × ℕ)) (p count low top key place : ℕ) (x : IsLeaf ws es p count low top) → low ≤ key → key ≤ top → place ≤ count → Parts key x.pairs place → pairs_from key es ≡ first_of (λ j. pair_at ws p (place + j)) (count - place) ++ x.after
row-up ws es p count low top key place x le ge within parts =
    up-from ws es p count low top key place x le ge parts ∙ ap (λ m. m ++ x.after) (sym same)
  where
    long : length (drop place x.pairs) ≡ count - place
    long = omega (arith, length-drop place x.pairs, x.long)

    same : first_of (λ j. pair_at ws p (place + j)) (count - place) ≡ drop place x.pairs
    same = first-take (λ j. pair_at ws p (place + j)) (drop place x.pairs) (count - place) (omega (arith, long)) (λ j lt. leaf-pair ws es p count low top x (place + j) (omega arith) ∙ sym (get_or-drop place x.pairs j (0, 0))) ∙ take_all (count - place) (drop place x.pairs) (omega (arith, long))

pub row-down : (ws : List ℕ) (es : List (ℕ × ℕ)) (p count low top key index new_low new_top : ℕ) (x : IsLeaf ws es p count low top) → low ≤ key → key ≤ top → IsPlace ws (at p 1) count key low top index new_low new_top → pairs_to key es ≡ first_of (λ j. pair_at ws p (index - 1 - j)) index ++ backward x.before
row-down ws es p count low top key index new_low new_top x le ge place =
    down-to ws es p count low top key index new_low new_top x le ge place ∙ ap (λ m. m ++ backward x.before) (sym same)
  where
    same : first_of (λ j. pair_at ws p (index - 1 - j)) index ≡ backward (take index x.pairs)
    same = first-same (λ j. pair_at ws p (index - 1 - j)) (λ j. get_or x.pairs (index - 1 - j) (0, 0)) index (λ j lt. leaf-pair ws es p count low top x (index - 1 - j) (omega (arith, place.within))) ∙ first-back x.pairs index (omega (arith, place.within, x.long))

-- and what goes on in another leaf

pub onward-up : (ws : List ℕ) (es : List (ℕ × ℕ)) (p count low top key place : ℕ) (next : Option ℕ) (x : IsLeaf ws es p count low top) → low ≤ key → key ≤ top → place ≤ count → Parts key x.pairs place → SomeIff next (top + 1 < 2 ^ 64) (top + 1) → pairs_from key es ≡ first_of (λ j. pair_at ws p (place + j)) (count - place) ++ pairs_after Up next es
onward-up ws es p count low top key place None x le ge within parts end =
    row-up ws es p count low top key place x le ge within parts ∙ ap (λ m. first_of (λ j. pair_at ws p (place + j)) (count - place) ++ m) (up-end ws es p count low top x (omega (arith, end)))
onward-up ws es p count low top key place (Some k) x le ge within parts more =
    row-up ws es p count low top key place x le ge within parts ∙ ap (λ m. first_of (λ j. pair_at ws p (place + j)) (count - place) ++ m) (sym (ap (λ n. pairs_from n es) more.1 ∙ up-next ws es p count low top x (omega arith)))

pub onward-down : (ws : List ℕ) (es : List (ℕ × ℕ)) (p count low top key index new_low new_top : ℕ) (next : Option ℕ) (x : IsLeaf ws es p count low top) → low ≤ key → key ≤ top → IsPlace ws (at p 1) count key low top index new_low new_top → SomeIff next (1 ≤ low) (low - 1) → pairs_to key es ≡ first_of (λ j. pair_at ws p (index - 1 - j)) index ++ pairs_after Down next es
onward-down ws es p count low top key index new_low new_top None x le ge place end =
    row-down ws es p count low top key index new_low new_top x le ge place ∙ ap (λ m. first_of (λ j. pair_at ws p (index - 1 - j)) index ++ backward m) (down-end ws es p count low top x (omega (arith, end)))
onward-down ws es p count low top key index new_low new_top (Some k) x le ge place more =
    row-down ws es p count low top key index new_low new_top x le ge place ∙ ap (λ m. first_of (λ j. pair_at ws p (index - 1 - j)) index ++ m) (sym (down-next ws es p count low top k x (omega arith) (omega (arith, more.0, more.1))))

-- What a turn writes

-- one pair more
pub list-more : (f : ℕ → ℕ × ℕ) (old now : List (ℕ × ℕ)) (filled j : ℕ) (e : ℕ × ℕ) → filled + j < length now → take (filled + j) now ≡ take filled old ++ first_of f j → e ≡ f j → take (filled + (j + 1)) (set now (filled + j) e) ≡ take filled old ++ first_of f (j + 1)
list-more f old now filled j e lt list is =
    ap (λ n. take n (set now (filled + j) e)) (let h : filled + (j + 1) ≡ (filled + j) + 1 = omega arith in h)
    ∙ take_more_set now (filled + j) e lt
    ∙ ap (λ xs. xs ++ e ∷ []) list
    ∙ append_assoc (take filled old) (first_of f j) (e ∷ [])
    ∙ ap (λ x. take filled old ++ (first_of f j ++ x ∷ [])) is
    ∙ ap (λ n. take filled old ++ first_of f n) (let h : suc j ≡ j + 1 = omega arith in h)

pub rest-more : (old now : List (ℕ × ℕ)) (filled j : ℕ) (e : ℕ × ℕ) → filled + j < length now → length now ≡ length old → drop (filled + j) now ≡ drop (filled + j) old → drop (filled + (j + 1)) (set now (filled + j) e) ≡ drop (filled + (j + 1)) old
rest-more old now filled j e lt long rest =
    ap (λ n. drop n (set now (filled + j) e)) next
    ∙ drop-set-lt (suc (filled + j)) now (filled + j) e (omega arith)
    ∙ tail now old (filled + j) rest
    ∙ ap (λ n. drop n old) (sym next)
  where
    next : filled + (j + 1) ≡ suc (filled + j)
    next = omega arith

    tail : (xs ys : List (ℕ × ℕ)) (n : ℕ) → drop n xs ≡ drop n ys → drop (suc n) xs ≡ drop (suc n) ys
    tail xs ys n e = step xs n ∙ ap (drop 1) e ∙ sym (step ys n)
      where
        step : (zs : List (ℕ × ℕ)) (m : ℕ) → drop (suc m) zs ≡ drop 1 (drop m zs)
        step [] zero = refl
        step [] (suc m) = refl
        step (z ∷ zs) zero = refl
        step (z ∷ zs) (suc m) = step zs m

take-part : (f : ℕ → ℕ × ℕ) (n count : ℕ) (rest : List (ℕ × ℕ)) → n ≤ count → take n (first_of f count ++ rest) ≡ first_of f n
take-part f n zero rest le = let e : n ≡ 0 = omega arith in subst (λ m. take m rest ≡ first_of f m) (sym e) (none rest)
  where
    none : (xs : List (ℕ × ℕ)) → take 0 xs ≡ []
    none [] = refl
    none (x ∷ xs) = refl
take-part f n (suc count) rest le = elim (cases_lt count n) [
  | inr less ↦ ap (take n) (append_assoc (first_of f count) (f count ∷ []) rest) ∙ take-part f n count (f count ∷ rest) less
  | inl all ↦ (let e : n ≡ suc count = omega arith in
      subst (λ m. take m (first_of f (suc count) ++ rest) ≡ first_of f m) (sym e) (take-append-le (suc count) (first_of f (suc count)) rest (omega (arith, first-long f (suc count))) ∙ take_all (suc count) (first_of f (suc count)) (omega (arith, first-long f (suc count)))))
]

pub turn-full : (f : ℕ → ℕ × ℕ) (old now all rest : List (ℕ × ℕ)) (filled n count : ℕ) → all ≡ first_of f count ++ rest → take (filled + n) now ≡ take filled old ++ first_of f n → n ≤ count → filled ≤ length old → length now ≡ filled + n → take (filled + n) now ≡ take (length now) (take filled old ++ all)
turn-full f old now all rest filled n count is list le room long =
    list
    ∙ ap (λ xs. take filled old ++ xs) (sym (take-part f n count rest le) ∙ ap (take n) (sym is))
    ∙ sym (take-append-add (take filled old) all n)
    ∙ ap (λ m. take m (take filled old ++ all)) (let h : length (take filled old) + n ≡ length now = omega (arith, length-take filled old, long) in h)

pub turn-ended : (f : ℕ → ℕ × ℕ) (old now all : List (ℕ × ℕ)) (filled count : ℕ) → all ≡ first_of f count ++ [] → take (filled + count) now ≡ take filled old ++ first_of f count → filled ≤ length old → filled + count ≤ length now → take (filled + count) now ≡ take (length now) (take filled old ++ all)
turn-ended f old now all filled count is list room few =
    let same : all ≡ first_of f count = is ∙ append-nil (first_of f count) in
    list ∙ ap (λ xs. take filled old ++ xs) (sym same) ∙ sym (take_all (length now) (take filled old ++ all) (omega (arith, length-append (take filled old) all, length-take filled old, ap length same, first-long f count)))

pub turn-goes : (f : ℕ → ℕ × ℕ) (old now all rest : List (ℕ × ℕ)) (filled count : ℕ) → all ≡ first_of f count ++ rest → take (filled + count) now ≡ take filled old ++ first_of f count → take (filled + count) now ++ rest ≡ take filled old ++ all
turn-goes f old now all rest filled count is list = ap (λ xs. xs ++ rest) list ∙ append_assoc (take filled old) (first_of f count) rest ∙ ap (λ xs. take filled old ++ xs) (sym is)

pub turn-next : (way : Way) (es : List (ℕ × ℕ)) (f : ℕ → ℕ × ℕ) (old now : List (ℕ × ℕ)) (key filled count : ℕ) (next : Option ℕ) → pairs_by way key es ≡ first_of f count ++ pairs_after way next es → take (filled + count) now ≡ take filled old ++ first_of f count → filled ≤ length old → filled + count ≤ length now → IsShown way es (take filled old ++ pairs_by way key es) (filled + count) next now
turn-next way es f old now key filled count None is list room few = turn-ended f old now (pairs_by way key es) filled count is list room few
turn-next way es f old now key filled count (Some k) is list room few = turn-goes f old now (pairs_by way key es) (pairs_by way k es) filled count is list

pub pair-read : (ws first second : List ℕ) (p i place key value : ℕ) → first ≡ ws → second ≡ ws → i ≡ place → key ≡ get_or first (at p 1 + i) 0 → value ≡ get_or second (at p 32 + i) 0 → (key, value) ≡ pair_at ws p place
pair-read ws first second p i place key value e f is k v =
    ap₂ (λ (x y : ℕ). (x, y)) (k ∙ ap₂ (λ w n. get_or w (at p 1 + n) 0) e is) (v ∙ ap₂ (λ w n. get_or w (at p 32 + n) 0) f is)

-- lists that are the same from one place on are so from a later one
pub drop-later : (xs ys : List (ℕ × ℕ)) (i j : ℕ) → i ≤ j → drop i xs ≡ drop i ys → drop j xs ≡ drop j ys
drop-later xs ys i j le e =
    let is : j ≡ i + (j - i) = omega arith in
    ap (λ n. drop n xs) is ∙ step xs i (j - i) ∙ ap (drop (j - i)) e ∙ sym (step ys i (j - i)) ∙ sym (ap (λ n. drop n ys) is)
  where
    step : (zs : List (ℕ × ℕ)) (n k : ℕ) → drop (n + k) zs ≡ drop k (drop n zs)
    step [] n k = drop-none (n + k) ∙ sym (drop-none k) ∙ ap (drop k) (sym (drop-none n))
      where
        drop-none : (n : ℕ) → drop {A = ℕ × ℕ} n [] ≡ []
        drop-none zero = refl
        drop-none (suc n) = refl
    step (z ∷ zs) zero k = ap (λ n. drop n (z ∷ zs)) (let h : 0 + k ≡ k = omega arith in h)
    step (z ∷ zs) (suc n) k = ap (λ m. drop m (z ∷ zs)) (let h : suc n + k ≡ suc (n + k) = omega arith in h) ∙ step zs n k

-- What a scan in parts has left after one of them: the scan from the next key on.
use Rattle.std.proofs.Common.{◌≡◌, ℕ, zero, suc, ◌+◌, ◌-◌, ◌^◌, ◌<◌, ◌≤◌, ◌⊎◌, List, [], ◌∷◌, ◌++◌, length, take, drop, get_or, set, Option, None, Some, inl, inr, refl, ap, sym, subst, ◌∙◌, arith}
use Rattle.std.proofs.Math.Seq.{take-append-add}
use Rattle.std.proofs.lemmas.Bool.{cases_lt}
use Rattle.std.proofs.lemmas.List.{append_assoc, append-nil, drop-append-le, drop_all, get_or-take, get_or_append_left, get_or-append_right, length-append, length-map, length-take, map-set, take-append-drop, take_all, take_at, take_more, take_more_set}
use Rattle.std.proofs.lemmas.List.Elements.{All-nil, All-weaker}
use Rattle.envy_btree.specs.Answers.{IsWritten}
use Rattle.envy_btree.specs.Looking.{IsShown, pairs_after, pairs_by}
use Rattle.envy_btree.specs.Nearest.{pairs_from, pairs_to}
use Rattle.envy_btree.specs.Tree.{Rising}
use Rattle.envy_btree.specs.declared.way.Way.{Way}
use Rattle.envy_btree.specs.declared.way.Way.TheVariants.{Up, Down}
use Rattle.envy_btree.proofs.Maps.{ltb-lt, ltb-ge}
use Rattle.envy_btree.proofs.Passing.{from-parts}
use Rattle.envy_btree.proofs.Rows.{rest-more}
use Rattle.envy_btree.proofs.Trees.{Rising-within}
use Rattle.envy_index_calls.specs.Scanned.{IsAfter, left_to, pair_in, pairs_in}
use Rattle.envy_index_calls.specs.declared.pairs.EnvyPair.{EnvyPair}

-- the key of pair n
abbrev key_at : List (ℕ × ℕ) → ℕ → ℕ
key_at es n = (get_or es n (0, 0)).0

rising-at : (low high : ℕ) (es : List (ℕ × ℕ)) (n : ℕ) → Rising low high es → n < length es → low ≤ key_at es n
rising-at low high [] n r lt = absurd (omega arith)
rising-at low high (e ∷ es) zero r lt = r.0
rising-at low high (e ∷ es) (suc n) r lt = let i = rising-at (e.0 + 1) high es n r.2 (omega arith) in omega (arith, r.0, i)

-- ---- rising

drop-zero : (es : List (ℕ × ℕ)) → drop 0 es ≡ es
drop-zero [] = refl
drop-zero (e ∷ es) = refl

-- no pair of the rest has a key below this one
from-here : (low high : ℕ) (es : List (ℕ × ℕ)) → Rising low high es → pairs_from low es ≡ es
from-here low high es r = from-parts low [] es (All-nil (λ (x : ℕ × ℕ). x.0 < low)) (All-weaker (λ (x : ℕ × ℕ). (low ≤ x.0) × (x.0 < high)) (λ (x : ℕ × ℕ). low ≤ x.0) (λ x h. h.0) es (Rising-within low high es r))

from-skip : (k : ℕ) (e : ℕ × ℕ) (es : List (ℕ × ℕ)) → e.0 < k → pairs_from k (e ∷ es) ≡ pairs_from k es
from-skip k e es lt = rw (ltb-lt e.0 k lt) refl

from-stay : (k : ℕ) (e : ℕ × ℕ) (es : List (ℕ × ℕ)) → k ≤ e.0 → pairs_from k (e ∷ es) ≡ e ∷ es
from-stay k e es ge = rw (ltb-ge e.0 k ge) refl

-- the pairs after pair n are those above its key
from-rest : (low high : ℕ) (es : List (ℕ × ℕ)) (n : ℕ) → Rising low high es → n < length es → drop (suc n) es ≡ pairs_from (key_at es n + 1) es
from-rest low high [] n r lt = absurd (omega arith)
from-rest low high (e ∷ es) zero r lt = drop-zero es ∙ sym (from-skip (e.0 + 1) e es (omega arith) ∙ from-here (e.0 + 1) high es r.2)
from-rest low high (e ∷ es) (suc n) r lt =
    let i = rising-at (e.0 + 1) high es n r.2 (omega arith) in
    from-rest (e.0 + 1) high es n r.2 (omega arith) ∙ sym (from-skip (key_at es n + 1) e es (omega (arith, i)))

abbrev GoesUp : ℕ → ℕ → List (ℕ × ℕ) → List (ℕ × ℕ) → Type 0
GoesUp low n es ps = n < length ps → (low ≤ key_at ps n) × (drop (suc n) ps ≡ pairs_from (key_at ps n + 1) es)

goes-up : (key low high : ℕ) (es : List (ℕ × ℕ)) (n : ℕ) → Rising low high es → GoesUp low n es (pairs_from key es)
goes-up key low high [] n r = λ lt. absurd (omega arith)
goes-up key low high (e ∷ es) n r = elim (cases_lt e.0 key) [
  | inl less ↦ subst (GoesUp low n (e ∷ es)) (sym (from-skip key e es less)) (λ lt.
      let i = goes-up key (e.0 + 1) high es n r.2 lt in
      (omega (arith, r.0, i.0), i.1 ∙ sym (from-skip (key_at (pairs_from key es) n + 1) e es (omega (arith, i.0)))))
  | inr ge ↦ subst (GoesUp low n (e ∷ es)) (sym (from-stay key e es ge)) (λ lt. (rising-at low high (e ∷ es) n r lt, from-rest low high (e ∷ es) n r lt))
]

-- no key is so great
from-none : (k low high : ℕ) (es : List (ℕ × ℕ)) → Rising low high es → high ≤ k → pairs_from k es ≡ []
from-none k low high [] r le = refl
from-none k low high (e ∷ es) r le = from-skip k e es (omega (arith, r.1, le)) ∙ from-none k (e.0 + 1) high es r.2 le

-- ---- falling

to-none : (k : ℕ) (e : ℕ × ℕ) (es : List (ℕ × ℕ)) → k < e.0 → pairs_to k (e ∷ es) ≡ []
to-none k e es lt = rw (ltb-lt k e.0 lt) refl

to-more : (k : ℕ) (e : ℕ × ℕ) (es : List (ℕ × ℕ)) → e.0 ≤ k → pairs_to k (e ∷ es) ≡ pairs_to k es ++ e ∷ []
to-more k e es ge = rw (ltb-ge k e.0 ge) refl

pub record GoesDown (low n : ℕ) (es ps : List (ℕ × ℕ)) : Type 0 where
  pub above : low ≤ key_at ps n
  pub more : (k : ℕ) → key_at ps n ≡ k + 1 → drop (suc n) ps ≡ pairs_to k es
  pub end : key_at ps n ≡ 0 → drop (suc n) ps ≡ []

goes-down : (key low high : ℕ) (es : List (ℕ × ℕ)) (n : ℕ) → Rising low high es → n < length (pairs_to key es) → GoesDown low n es (pairs_to key es)
goes-down key low high [] n r = λ lt. absurd (omega arith)
goes-down key low high (e ∷ es) n r = elim (cases_lt key e.0) [
  | inl less ↦ subst (λ ps. n < length ps → GoesDown low n (e ∷ es) ps) (sym (to-none key e es less)) (λ lt. absurd (omega arith))
  | inr ge ↦ subst (λ ps. n < length ps → GoesDown low n (e ∷ es) ps) (sym (to-more key e es ge)) (λ lt. elim (cases_lt n (length (pairs_to key es))) [
    | inl before ↦ (
        let i = goes-down key (e.0 + 1) high es n r.2 before in
        let at : get_or (pairs_to key es ++ e ∷ []) n (0, 0) ≡ get_or (pairs_to key es) n (0, 0) = get_or_append_left (pairs_to key es) (e ∷ []) (0, 0) n before in
        let same = ap (λ (x : ℕ × ℕ). x.0) at in
        record {
          above = omega (arith, r.0, i.above, same);
          more = λ k is. drop-append-le (suc n) (pairs_to key es) (e ∷ []) (omega arith) ∙ ap (λ xs. xs ++ e ∷ []) (i.more k (sym same ∙ is)) ∙ sym (to-more k e es (omega (arith, i.above, same, is)));
          end = λ is. absurd (omega (arith, i.above, same, is));
        })
    | inr last ↦ (
        let long = length-append (pairs_to key es) (e ∷ []) in
        let is : n - length (pairs_to key es) ≡ 0 = omega (arith, lt, last, long) in
        let at : get_or (pairs_to key es ++ e ∷ []) n (0, 0) ≡ e = get_or-append_right (pairs_to key es) (e ∷ []) (length (pairs_to key es)) n (0, 0) refl last ∙ ap (λ m. get_or (e ∷ []) m (0, 0)) is in
        let same = ap (λ (x : ℕ × ℕ). x.0) at in
        let none = drop_all (suc n) (pairs_to key es ++ e ∷ []) (omega (arith, last, long)) in
        record {
          above = omega (arith, r.0, same);
          more = λ k is. none ∙ sym (to-none k e es (omega (arith, same, is)));
          end = λ is. none;
        })
  ])
]

-- ---- either way

onward : (way : Way) (key n : ℕ) (next : Option ℕ) (es : List (ℕ × ℕ)) → Rising 0 (2 ^ 64) es → n < length (pairs_by way key es) → IsAfter way (key_at (pairs_by way key es) n) next → drop (suc n) (pairs_by way key es) ≡ pairs_after way next es
onward Up key n None es r lt end = (goes-up key 0 (2 ^ 64) es n r lt).1 ∙ from-none (key_at (pairs_from key es) n + 1) 0 (2 ^ 64) es r (omega (arith, end))
onward Up key n (Some k) es r lt more = (goes-up key 0 (2 ^ 64) es n r lt).1 ∙ ap (λ m. pairs_from m es) (sym more.1)
onward Down key n None es r lt end = (goes-down key 0 (2 ^ 64) es n r lt).end (omega (arith, end))
onward Down key n (Some k) es r lt more = (goes-down key 0 (2 ^ 64) es n r lt).more k (omega (arith, more.0, more.1))

-- ---- what a part writes

-- all that there is
pub part-ended : (old now all : List (ℕ × ℕ)) (filled count : ℕ) → take (filled + count) now ≡ take filled old ++ all → count ≡ length all → filled + count ≤ length now → filled ≤ length old → take (filled + count) now ≡ take (length now) (take filled old ++ all)
part-ended old now all filled count list long few room = list ∙ sym (take_all (length now) (take filled old ++ all) (omega (arith, length-append (take filled old) all, length-take filled old, long, few, room)))

-- all that there is room for
pub part-full : (old now all : List (ℕ × ℕ)) (filled count : ℕ) → take (filled + count) now ≡ take filled old ++ take count all → filled + count ≡ length now → filled ≤ length old → take (filled + count) now ≡ take (length now) (take filled old ++ all)
part-full old now all filled count list full room =
    list
    ∙ sym (take-append-add (take filled old) all count)
    ∙ ap (λ m. take m (take filled old ++ all)) (let h : length (take filled old) + count ≡ length now = omega (arith, length-take filled old, full, room) in h)

-- and what goes on
pub part-onward : (way : Way) (es old now : List (ℕ × ℕ)) (key filled n : ℕ) (next : Option ℕ) → Rising 0 (2 ^ 64) es → take (filled + suc n) now ≡ take filled old ++ take (suc n) (pairs_by way key es) → n < length (pairs_by way key es) → IsAfter way (key_at (pairs_by way key es) n) next → filled + suc n ≤ length now → filled ≤ length old → IsShown way es (take filled old ++ pairs_by way key es) (filled + suc n) next now
part-onward way es old now key filled n None r list lt after few room =
    let rest = onward way key n None es r lt after in
    let all : take (suc n) (pairs_by way key es) ≡ pairs_by way key es = sym (append-nil (take (suc n) (pairs_by way key es))) ∙ ap (λ xs. take (suc n) (pairs_by way key es) ++ xs) (sym rest) ∙ take-append-drop (suc n) (pairs_by way key es) in
    part-ended old now (pairs_by way key es) filled (suc n) (list ∙ ap (λ xs. take filled old ++ xs) all) (omega (arith, lt, ap length all, length-take (suc n) (pairs_by way key es))) few room
part-onward way es old now key filled n (Some k) r list lt after few room =
    let rest = onward way key n (Some k) es r lt after in
    ap (λ xs. xs ++ pairs_by way k es) list
    ∙ append_assoc (take filled old) (take (suc n) (pairs_by way key es)) (pairs_by way k es)
    ∙ ap (λ xs. take filled old ++ (take (suc n) (pairs_by way key es) ++ xs)) (sym rest)
    ∙ ap (λ xs. take filled old ++ xs) (take-append-drop (suc n) (pairs_by way key es))

-- what the tree's scan wrote
written-front : (all was now : List (ℕ × ℕ)) (n : ℕ) → IsWritten all was now n → take n now ≡ take (length was) all
written-front all was now n w = ap (take n) w.1 ∙ take_at (take (length was) all) (drop n was) n (sym w.0)

-- how many of the pairs are shown by a part with room for so many
shown-long : (all : List (ℕ × ℕ)) (count room : ℕ) → count ≡ length (take room all) → (count ≤ room) × (count ≤ length all) × (count < room → count ≡ length all)
shown-long all count room is = let long = length-take room all in (omega (arith, is, long), omega (arith, is, long), λ lt. omega (arith, is, long, lt))

-- the pairs of a part that was copied
copied : (all was new part old now : List (ℕ × ℕ)) (filled count : ℕ) → IsWritten all was new count → part ≡ take count new → take (filled + length part) now ≡ take filled old ++ part → take (filled + count) now ≡ take filled old ++ take (length was) all
copied all was new part old now filled count w is list =
    let same : part ≡ take (length was) all = is ∙ written-front all was new count w in
    subst (λ n. take (filled + n) now ≡ take filled old ++ take (length was) all) (sym w.0) (subst (λ xs. take (filled + length xs) now ≡ take filled old ++ xs) same list)

-- a part after which none follows
pub part-last : (all was new part old now : List (ℕ × ℕ)) (filled count room : ℕ) → IsWritten all was new count → length was ≡ room → part ≡ take count new → take (filled + length part) now ≡ take filled old ++ part → filled + room ≤ length now → filled ≤ length old → (count < room) ⊎ (filled + count ≡ length now) → take (filled + count) now ≡ take (length now) (take filled old ++ all)
part-last all was new part old now filled count room w size is list fits in_old why =
    let row = copied all was new part old now filled count w is list in
    let long = shown-long all count room (subst (λ n. count ≡ length (take n all)) size w.0) in
    elim why [
      | inl less ↦ (
          let every : take (length was) all ≡ all = take_all (length was) all (omega (arith, size, long.2 less, less)) in
          part-ended old now all filled count (row ∙ ap (λ xs. take filled old ++ xs) every) (long.2 less) (omega (arith, fits, long.0)) in_old)
      | inr full ↦ (
          let same : length was ≡ count = omega (arith, size, full, fits, long.0) in
          part-full old now all filled count (row ∙ ap (λ n. take filled old ++ take n all) same) full in_old)
    ]

-- a part after which another one may follow
pub part-next : (way : Way) (es was new part old now : List (ℕ × ℕ)) (key filled count room : ℕ) (next : Option ℕ) → Rising 0 (2 ^ 64) es → IsWritten (pairs_by way key es) was new count → length was ≡ room → part ≡ take count new → take (filled + length part) now ≡ take filled old ++ part → filled + room ≤ length now → filled ≤ length old → room ≤ count → 0 < room → IsAfter way (get_or new (count - 1) (0, 0)).0 next → IsShown way es (take filled old ++ pairs_by way key es) (filled + count) next now
part-next way es was new part old now key filled count room next r w size is list fits in_old full some after =
    let all = pairs_by way key es in
    let row = copied all was new part old now filled count w is list in
    let long = shown-long all count room (subst (λ n. count ≡ length (take n all)) size w.0) in
    let same : length was ≡ count = omega (arith, size, full, long.0) in
    let n : ℕ = count - 1 in
    let more : count ≡ suc n = omega (arith, full, some) in
    let at : get_or new n (0, 0) ≡ get_or all n (0, 0) =
    ap (λ xs. get_or xs n (0, 0)) w.1
    ∙ get_or_append_left (take (length was) all) (drop count was) (0, 0) n (omega (arith, w.0, full, some))
    ∙ get_or-take (length was) all n (0, 0) (omega (arith, same, full, some)) in
    subst (λ m. IsShown way es (take filled old ++ all) (filled + m) next now) (sym more)
    (part-onward way es old now key filled n next r
    (subst (λ m. take (filled + m) now ≡ take filled old ++ take m all) more (row ∙ ap (λ m. take filled old ++ take m all) same))
    (omega (arith, long.1, full, some)) (subst (λ (e : ℕ × ℕ). IsAfter way e.0 next) at after) (omega (arith, fits, long.0, more)) in_old)

pub left-less : (next : Option ℕ) (m n : ℕ) → m < n → left_to next m ≤ n
left-less None m n lt = omega arith
left-less (Some k) m n lt = omega (arith, lt)

-- ---- copying

-- one pair more
pub copied-more : (old now : List EnvyPair) (pairs : List (ℕ × ℕ)) (filled i : ℕ) (e : EnvyPair) → filled + i < length now → i < length pairs → pair_in e ≡ get_or pairs i (0, 0) → take (filled + i) (pairs_in now) ≡ take filled (pairs_in old) ++ take i pairs → take (filled + (i + 1)) (pairs_in (set now (filled + i) e)) ≡ take filled (pairs_in old) ++ take (i + 1) pairs
copied-more old now pairs filled i e lt within is list =
    ap (λ xs. take (filled + (i + 1)) xs) (map-set pair_in now (filled + i) e)
    ∙ ap (λ n. take n (set (pairs_in now) (filled + i) (pair_in e))) (let h : filled + (i + 1) ≡ (filled + i) + 1 = omega arith in h)
    ∙ take_more_set (pairs_in now) (filled + i) (pair_in e) (omega (arith, lt, length-map now pair_in))
    ∙ ap (λ xs. xs ++ pair_in e ∷ []) list
    ∙ append_assoc (take filled (pairs_in old)) (take i pairs) (pair_in e ∷ [])
    ∙ ap (λ x. take filled (pairs_in old) ++ (take i pairs ++ x ∷ [])) is
    ∙ ap (λ xs. take filled (pairs_in old) ++ xs) (sym (take_more pairs i (0, 0) within))

pub copied-rest : (old now : List EnvyPair) (filled i : ℕ) (e : EnvyPair) → filled + i < length now → length now ≡ length old → drop (filled + i) (pairs_in now) ≡ drop (filled + i) (pairs_in old) → drop (filled + (i + 1)) (pairs_in (set now (filled + i) e)) ≡ drop (filled + (i + 1)) (pairs_in old)
copied-rest old now filled i e lt long rest =
    ap (λ xs. drop (filled + (i + 1)) xs) (map-set pair_in now (filled + i) e)
    ∙ rest-more (pairs_in old) (pairs_in now) filled i (pair_in e) (omega (arith, lt, length-map now pair_in)) (length-map now pair_in ∙ long ∙ sym (length-map old pair_in)) rest

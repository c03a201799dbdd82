-- The calls at the root, as one relation by cases.
use Rattle.std.proofs.Common.{◌≡◌, ℕ, zero, suc, ◌+◌, ◌-◌, ◌*◌, ◌/◌, ◌^◌, ◌<◌, ◌≤◌, false, List, [], ◌∷◌, length, get_or, set, Option, None, Some, Result, Ok, Err, OnOk, IsErrAnd, MatchOption, ap, sym, subst, ◌∙◌, inl, inr, arith}
use Rattle.std.specs.List.{flat_map}
use Rattle.std.proofs.lemmas.Bool.{cases_lt, cases_eq}
use Rattle.std.proofs.lemmas.List.{append-nil, get_or-set_same}
use Rattle.envy_base.specs.declared.board.Trouble.{Trouble}
use Rattle.envy_array.specs.Words.{Sheet, IsSheet, Fails}
use Rattle.envy_base.specs.Counting.{Rose}
use Rattle.envy_btree.specs.declared.fault.TreeFault.{TreeFault}
use Rattle.envy_btree.specs.declared.fault.TreeFault.TheVariants.{Off as FaultOff, Full, Bad}
use Rattle.envy_btree.specs.Pairs.{assoc, with_pair, without}
use Rattle.envy_btree.specs.Tree.{Tree, Fans, Rising, Ordered, pairs_of}
use Rattle.envy_btree.specs.Index.{IsIndex, IsPlanted, Rooted, most_pairs}
use Rattle.envy_btree.specs.Answers.{Inserts, Removes, IsFull, Ends, Settles}
use Rattle.envy_btree.proofs.Maps.{assoc-none, eqb-same, eqb-gt, eqb-lt, ltb-lt, ltb-ge}
use Rattle.envy_btree.proofs.Trees.{Rising-join, Rising-within, Above-from}
use Rattle.envy_btree.proofs.Planting.{planted-aside}

-- the pairs of a map rise
Fans-rising : {C : Type 0} (P : ℕ → ℕ → C → Type 0) (F : C → List (ℕ × ℕ)) → ((l h : ℕ) (c : C) → P l h c → Rising l h (F c)) → (low high : ℕ) (ks : List ℕ) (cs : List C) → Fans P low high ks cs → Rising low high (flat_map F cs)
Fans-rising P F w low high [] [] f = absurd f
Fans-rising P F w low high [] (c ∷ []) f = subst (λ x. Rising low high x) (sym (append-nil (F c))) (w low high c f)
Fans-rising P F w low high [] (c ∷ e ∷ cs) f = absurd f
Fans-rising P F w low high (k ∷ ks) [] f = absurd f
Fans-rising P F w low high (k ∷ ks) (c ∷ cs) f = Rising-join low k high (F c) (flat_map F cs) (w low k c f.2) (Fans-rising P F w k high ks cs f.3) (omega (arith, f.1))

pub Ordered-rising : (d low high : ℕ) (t : Tree d) → Ordered d low high t → Rising low high (pairs_of d t)
Ordered-rising zero low high t o = o
Ordered-rising (suc d) low high t o = Fans-rising (Ordered d) (pairs_of d) (λ l h c p. Ordered-rising d l h c p) low high t.keys t.kids o

rising-of : (ws free : List ℕ) (es : List (ℕ × ℕ)) → Rooted ws free es → Rising 0 (2 ^ 64) es
rising-of ws free es (inl n) = subst (λ x. Rising 0 (2 ^ 64) x) (sym n.1) (let h : 0 ≤ 2 ^ 64 = omega arith in h)
rising-of ws free es (inr t) = subst (λ x. Rising 0 (2 ^ 64) x) (sym t.3) (Ordered-rising t.0 0 (2 ^ 64) t.1 t.2.stands.ordered)

pub planted-rising : (ws : List ℕ) (es : List (ℕ × ℕ)) → IsPlanted ws es → Rising 0 (2 ^ 64) es
planted-rising ws es x = rising-of ws x.free es x.tree

-- how many pairs there are with the key
pub with_pair-missing : (key value : ℕ) (es : List (ℕ × ℕ)) → assoc key es ≡ None → length (with_pair key value es) ≡ length es + 1
with_pair-missing key value [] none = omega arith
with_pair-missing key value (e ∷ es) none = elim (cases_lt e.0 key) [
  | inl l ↦ rw (ltb-lt e.0 key l) (let rest : assoc key es ≡ None = (rw (eqb-lt e.0 key l) at none) in let h = with_pair-missing key value es rest in omega arith)
  | inr ge ↦ elim (cases_eq e.0 key) [
    | inl same ↦ absurd (let no = (rw (same, eqb-same key) at none) in cc)
    | inr ne ↦ (let gt : key < e.0 = omega arith in rw (ltb-ge e.0 key ge, eqb-gt e.0 key gt) (omega arith))
  ]
]

pub with_pair-present : (low high key value v : ℕ) (es : List (ℕ × ℕ)) → Rising low high es → assoc key es ≡ Some v → length (with_pair key value es) ≡ length es
with_pair-present low high key value v [] r some = absurd (cc)
with_pair-present low high key value v (e ∷ es) r some = elim (cases_lt e.0 key) [
  | inl l ↦ rw (ltb-lt e.0 key l) (let rest : assoc key es ≡ Some v = (rw (eqb-lt e.0 key l) at some) in let h = with_pair-present (e.0 + 1) high key value v es r.2 rest in omega arith)
  | inr ge ↦ elim (cases_eq e.0 key) [
    | inl same ↦ rw (ltb-ge e.0 key ge, same, eqb-same key) (omega arith)
    | inr ne ↦ (let gt : key < e.0 = omega arith in
        let rest : assoc key es ≡ Some v = (rw (eqb-gt e.0 key gt) at some) in
        let none : assoc key es ≡ None = assoc-none key es (Above-from (e.0 + 1) high key es (omega arith) (Rising-within (e.0 + 1) high es r.2)) in
        absurd (cc))
  ]
]

pub count-of : (ws : List ℕ) (key value n : ℕ) (es : List (ℕ × ℕ)) (was : Option ℕ) → IsPlanted ws es → was ≡ assoc key es → MatchOption was (n ≡ length es + 1) (λ _. n ≡ length es) → n ≡ length (with_pair key value es)
count-of ws key value n es None x is m = m ∙ sym (with_pair-missing key value es (sym is))
count-of ws key value n es (Some v) x is m = m ∙ sym (with_pair-present 0 (2 ^ 64) key value v es (planted-rising ws es x) (sym is))

pub full-of : (key n most : ℕ) (es : List (ℕ × ℕ)) (was : Option ℕ) → was ≡ assoc key es → length es ≤ most → most < n → MatchOption was (n ≡ length es + 1) (λ _. n ≡ length es) → (assoc key es ≡ None) × (length es ≡ most)
full-of key n most es None is few many m = (sym is, omega (arith, m))
full-of key n most es (Some v) is few many m = absurd (omega (arith, m))

-- the number of pairs is put, and then the pair
pub inside-ok : (old mid new : List ℕ) (es : List (ℕ × ℕ)) (key value n : ℕ) (r : Result Unit Trouble) → IsPlanted old es → length es ≤ most_pairs old → mid ≡ set old 3 n → length mid ≡ length old → 640 ≤ length old
    → ((es : List (ℕ × ℕ)) → IsPlanted mid es → length es ≤ most_pairs mid → OnOk r (IsPlanted new (with_pair key value es) × (get_or new 3 0 ≡ get_or mid 3 0))) → OnOk r (IsPlanted new (with_pair key value es) × (get_or new 3 0 ≡ n))
inside-ok old mid new es key value n (Ok done) x few is long many f =
    let a = f es (subst (λ w. IsPlanted w es) (sym is) (planted-aside old es n x)) (omega (arith, long)) in
    (a.0, a.1 ∙ ap (λ w. get_or w 3 0) is ∙ get_or-set_same old 3 n 0 (omega arith))
inside-ok old mid new es key value n (Err e) x few is long many f = tt

-- counts that rose on the way
pub rose-over : (a b c d : ℕ) → a ≤ b → Rose b c → b ≤ c → c ≤ d → Rose a d
rose-over a b c d ab bc le cd lt = elim (cases_lt b (2 ^ 64 - 1)) [ inl l ↦ (let h : b < c = bc l in omega arith) | inr g ↦ omega arith ]

-- what the end of its transaction makes of a change
pub settles-of : (es after : List (ℕ × ℕ)) (old begun mid new : Sheet) (done : Result Unit Trouble) (r : Result Unit TreeFault) → IsSheet new → old.words ≡ old.kept → IsIndex old.words es → begun.kept ≡ old.kept → mid.kept ≡ begun.kept
    → old.bads ≤ begun.bads → begun.bads ≤ mid.bads → mid.bads ≤ new.bads → Fails begun done mid → OnOk done (IsIndex mid.words after) → new.started ≡ false → Ends done mid r new → Settles es after old r new
settles-of es after old begun mid new done (Ok u) law shut x k l ob bm mn fails made closed ends =
    (ends.0, subst (λ w. IsIndex w after) (sym (law.shut closed ∙ ends.2)) (subst (λ z. OnOk z (IsIndex mid.words after)) ends.1 made))
settles-of es after old begun mid new done (Err FaultOff) law shut x k l ob bm mn fails made closed ends = (
  ends.0,
  elim ends.1 [
    | inl e ↦ inl (subst (λ w. IsIndex w es) (shut ∙ sym (e ∙ l ∙ k)) x)
    | inr e ↦ inr (subst (λ w. IsIndex w after) (sym e.1) (subst (λ z. OnOk z (IsIndex mid.words after)) e.0 made))
  ],
)
settles-of es after old begun mid new done (Err Full) law shut x k l ob bm mn fails made closed ends = ends
settles-of es after old begun mid new done (Err Bad) law shut x k l ob bm mn fails made closed ends =
    let f = subst (λ z. Fails begun z mid) ends.1 fails in
    (ends.0, rose-over old.bads begun.bads mid.bads new.bads ob f.1 bm mn, subst (λ w. IsIndex w es) (shut ∙ sym (law.shut closed ∙ ends.2 ∙ l ∙ k)) x)

-- the pairs and their number together are a map
pub index-of : (old mid : List ℕ) (es : List (ℕ × ℕ)) (n : ℕ) (r : Result Unit Trouble) → length mid ≡ length old → n ≡ length es → n ≤ most_pairs old → OnOk r (IsPlanted mid es × (get_or mid 3 0 ≡ n)) → OnOk r (IsIndex mid es)
index-of old mid es n (Ok done) long count few made = record { planted = made.0; count = made.1 ∙ count; few = omega (arith, long) }
index-of old mid es n (Err e) long count few made = tt

-- a change that failed, after look-ups
pub inserts-err : (key value : ℕ) (es : List (ℕ × ℕ)) (old mid new : Sheet) (f : TreeFault) → old.bads ≤ mid.bads → mid.bads ≤ new.bads → (IsFull old.words key es → ⊥) → Settles es (with_pair key value es) mid (Err f) new → Inserts key value es old (Err f) new
inserts-err key value es old mid new FaultOff le more room s = s
inserts-err key value es old mid new Full le more room s = absurd s
inserts-err key value es old mid new Bad le more room s = (s.0, rose-over old.bads mid.bads new.bads new.bads le s.1 more (omega arith), room, s.2)

-- the pairs with the key are no more than there may be
pub has-room : (old two : List ℕ) (key value n : ℕ) (es : List (ℕ × ℕ)) → length two ≡ length old → n ≡ length (with_pair key value es) → n ≤ most_pairs two → IsFull old key es → ⊥
has-room old two key value n es long count few f = omega (arith, with_pair-missing key value es f.0, f.1, long, few, count)

-- a map that isn't full took the key
pub not-full : (old new : List ℕ) (key value : ℕ) (es : List (ℕ × ℕ)) → length new ≡ length old → IsIndex new (with_pair key value es) → IsFull old key es → ⊥
not-full old new key value es long x f = omega (arith, x.few, with_pair-missing key value es f.0, f.1, long)

pub removes-err : (key : ℕ) (es : List (ℕ × ℕ)) (old mid new : Sheet) (f : TreeFault) → old.bads ≤ mid.bads → mid.bads ≤ new.bads → Settles es (without key es) mid (Err f) new → Removes key es old (Err f) new
removes-err key es old mid new FaultOff le more s = s
removes-err key es old mid new Full le more s = absurd s
removes-err key es old mid new Bad le more s = (s.0, rose-over old.bads mid.bads new.bads new.bads le s.1 more (omega arith), s.2)

-- a look-up that failed leaves the map
pub inserts-off : (key value : ℕ) (es : List (ℕ × ℕ)) (old new : Sheet) (r : Result (Option ℕ) TreeFault) → IsErrAnd r (λ e. e ≡ FaultOff) → new.on ≡ false → IsIndex new.kept es → Inserts key value es old r new
inserts-off key value es old new (Ok x) h off i = absurd h
inserts-off key value es old new (Err e) h off i = subst (λ z. Inserts key value es old (Err z) new) (sym h) (off, inl i)

pub removes-off : (key : ℕ) (es : List (ℕ × ℕ)) (old new : Sheet) (r : Result (Option ℕ) TreeFault) → IsErrAnd r (λ e. e ≡ FaultOff) → new.on ≡ false → IsIndex new.kept es → Removes key es old r new
removes-off key es old new (Ok x) h off i = absurd h
removes-off key es old new (Err e) h off i = subst (λ z. Removes key es old (Err z) new) (sym h) (off, inl i)

pub kept-index : (es : List (ℕ × ℕ)) (old new : Sheet) → old.words ≡ old.kept → new.kept ≡ old.kept → IsIndex old.words es → IsIndex new.kept es
kept-index es old new shut kept x = subst (λ w. IsIndex w es) (shut ∙ sym kept) x

-- the number of pairs has a word, and fits in 32 bits
pub third-within : (ws : List ℕ) (es : List (ℕ × ℕ)) → IsIndex ws es → 3 < length ws
third-within ws es x = omega (arith, x.planted.heap.size)

pub count-fits : (ws : List ℕ) (es : List (ℕ × ℕ)) (n : ℕ) → IsIndex ws es → n ≡ get_or ws 3 0 → length ws ≤ 2 ^ 29 → n < 2 ^ 32
count-fits ws es n x is size = omega (arith, x.few, x.count)

-- more pairs than there may be
pub is-full : (ws : List ℕ) (key size most n : ℕ) (es : List (ℕ × ℕ)) (was : Option ℕ) → IsIndex ws es → was ≡ assoc key es → size ≡ length ws → most ≡ 14 * ((size - 64) / 64 - 8) → most < n → MatchOption was (n ≡ length es + 1) (λ _. n ≡ length es) → IsFull ws key es
is-full ws key size most n es was x is long count many m = full-of key n (most_pairs ws) es was is x.few (omega arith) m

-- no transaction could begin
pub settles-off : (es after : List (ℕ × ℕ)) (old new : Sheet) (r : Result Unit TreeFault) → IsErrAnd r (λ e. e ≡ FaultOff) → new.on ≡ false → IsIndex new.kept es → Settles es after old r new
settles-off es after old new (Ok x) h off i = absurd h
settles-off es after old new (Err e) h off i = subst (λ z. Settles es after old (Err z) new) (sym h) (off, inl i)

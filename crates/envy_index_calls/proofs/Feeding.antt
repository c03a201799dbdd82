-- A bulk load, leaf by leaf.
use Rattle.std.proofs.Common.{◌≡◌, ◌⊎◌, ℕ, zero, suc, ◌+◌, ◌-◌, ◌*◌, ◌/◌, ◌^◌, ◌<◌, ◌≤◌, IsTrue, false, List, [], ◌∷◌, ◌++◌, length, take, drop, get_or, set, Result, Ok, Err, IsErrAnd, refl, ap, sym, subst, ◌∙◌, inl, inr, arith}
use Rattle.std.proofs.Math.Nat.{mul-le-mul_right}
use Rattle.std.proofs.lemmas.Bool.{cases_lt}
use Rattle.std.proofs.lemmas.List.{drop_all, drop_more, get_or-drop, get_or-map, length-drop, length-map, length-take, take_all, take_more, take_more_set}
use Rattle.envy_array.specs.Words.{IsSheet, Sheet, Keeps, Spends}
use Rattle.envy_base.specs.Counting.{Rose}
use Rattle.envy_array.proofs.Working.{Works-refl, Spends-refl, Spends-more, Spends-then}
use Rattle.envy_btree.specs.declared.fault.TreeFault.{TreeFault}
use Rattle.envy_btree.specs.declared.fault.TreeFault.TheVariants.{Off as FaultOff, Full, Bad}
use Rattle.envy_btree.specs.Answers.{Settles, insert_puts}
use Rattle.envy_btree.specs.Bulk.{MayFollow}
use Rattle.envy_btree.specs.Index.{IsIndex, most_pairs}
use Rattle.envy_index_calls.specs.Loading.{IsLoaded, IsFirst, LoadsLeaf, Loads, LoadsNew, Marks, leaves_of, leaf_puts, marking_puts}
use Rattle.envy_index_calls.specs.Ranged.{marked}
use Rattle.envy_index_calls.specs.Scanned.{pair_in, pairs_in}
use Rattle.envy_index_calls.specs.declared.pairs.EnvyPair.{EnvyPair}
use Rattle.envy_btree.specs.Pairs.{Below}
use Rattle.envy_btree.specs.Tree.{Rising, keys_of}
use Rattle.envy_index_calls.proofs.Blanking.{marked-index, marked-root}
use Rattle.envy_btree.proofs.Calls.{rose-over}
use Rattle.envy_btree.proofs.Descent.{Rising-below}
use Rattle.envy_btree.proofs.Keeping.{keeps-works, keeps-through}

Rising-low : (low high : ℕ) (es : List (ℕ × ℕ)) → Rising low high es → low ≤ high
Rising-low low high [] r = r
Rising-low low high (e ∷ es) r = omega (arith, r.0, r.1)

Rising-drop : (low high : ℕ) (es : List (ℕ × ℕ)) (i : ℕ) → i < length es → Rising low high es → Rising (get_or es i (0, 0)).0 high (drop i es)
Rising-drop low high [] i lt r = absurd (omega arith)
Rising-drop low high (e ∷ es) zero lt r = (omega arith, r.1, r.2)
Rising-drop low high (e ∷ es) (suc i) lt r = Rising-drop (e.0 + 1) high es i (omega arith) r.2

Rising-take : (low high : ℕ) (es : List (ℕ × ℕ)) (n : ℕ) → Rising low high es → Rising low high (take n es)
Rising-take low high [] zero r = r
Rising-take low high [] (suc n) r = r
Rising-take low high (e ∷ es) zero r = Rising-low low high (e ∷ es) r
Rising-take low high (e ∷ es) (suc n) r = (r.0, r.1, Rising-take (e.0 + 1) high es n r.2)

abbrev none : List (ℕ × ℕ)
none = []

take-none : (m : ℕ) → take m none ≡ none
take-none zero = refl
take-none (suc m) = refl

take-plus : (xs : List (ℕ × ℕ)) (i n : ℕ) → take i xs ++ take n (drop i xs) ≡ take (i + n) xs
take-plus [] zero n = let e : n ≡ 0 + n = omega arith in ap (λ m. take m []) e
take-plus [] (suc i) n = take-none n ∙ sym (take-none (suc i + n))
take-plus (x ∷ xs) zero n = let e : n ≡ 0 + n = omega arith in ap (λ m. take m (x ∷ xs)) e
take-plus (x ∷ xs) (suc i) n = let e : suc (i + n) ≡ suc i + n = omega arith in ap (λ y. x ∷ y) (take-plus xs i n) ∙ ap (λ m. take m (x ∷ xs)) e

-- the pairs of the next leaf, of which there are so many
pub record IsNext (ps : List (ℕ × ℕ)) (done count : ℕ) : Type 0 where
  pub some : 1 ≤ count
  pub within : count ≤ length ps - done
  pub enough : count < length ps - done → 15 ≤ count
  pub rest : count < length ps - done → 15 ≤ length ps - done - count

-- a leaf that has pairs before it is full enough
leaf-enough : (ws : List ℕ) (ps : List (ℕ × ℕ)) (done count : ℕ) → IsLoaded ws ps done → IsNext ps done count → done < length ps → (done ≡ 0) ⊎ (15 ≤ count)
leaf-enough ws ps done count l n more = elim (cases_lt count (length ps - done)) [
  | inl lt ↦ inr (n.enough lt)
  | inr ge ↦ elim (l.rear more) [ inl none ↦ inl none | inr many ↦ inr (let h = n.within in omega arith) ]
]

follow-enough : (ws : List ℕ) (ps : List (ℕ × ℕ)) (done count : ℕ) → IsLoaded ws ps done → IsNext ps done count → done < length ps → (get_or ws 0 0 ≡ 0) ⊎ ((15 ≤ length (take done ps)) × (15 ≤ length (take count (drop done ps))))
follow-enough ws ps done count l n more = elim (l.front more) [
  | inl none ↦ inl none
  | inr many ↦ elim (leaf-enough ws ps done count l n more) [
    | inl zero_done ↦ absurd (omega arith)
    | inr enough ↦ inr (omega (arith, length-take done ps), omega (arith, length-take count (drop done ps), length-drop done ps, n.within))
  ]
]

pub follow-made : (ws : List ℕ) (ps : List (ℕ × ℕ)) (done count key : ℕ) → IsLoaded ws ps done → IsNext ps done count → Rising 0 (2 ^ 64) ps → done < length ps → key ≡ (get_or ps done (0, 0)).0 → MayFollow ws key (take count (drop done ps)) (take done ps)
follow-made ws ps done count key l n rising more is =
    let here : get_or (keys_of ps) done 0 ≡ key = get_or-map (λ (x : ℕ × ℕ). x.0) ps done (0, 0) 0 more ∙ sym is in
    record {
      before = subst (λ k. Below k (take done ps)) here (Rising-below 0 (2 ^ 64) ps done more rising);
      rising = Rising-take key (2 ^ 64) (drop done ps) count (subst (λ k. Rising k (2 ^ 64) (drop done ps)) (sym is) (Rising-drop 0 (2 ^ 64) ps done more rising));
      enough = follow-enough ws ps done count l n more;
    }

pub part-long : (ps : List (ℕ × ℕ)) (done count : ℕ) → done < length ps → IsNext ps done count → length (take done ps ++ take count (drop done ps)) ≡ done + count
part-long ps done count more n = ap length (take-plus ps done count) ∙ omega (arith, length-take (done + count) ps, n.within)

loaded-next : (new : List ℕ) (ps : List (ℕ × ℕ)) (done count : ℕ) → IsNext ps done count → done < length ps → IsIndex new (take done ps ++ take count (drop done ps)) → IsLoaded new ps (done + count)
loaded-next new ps done count n more x = record {
  index = subst (λ e. IsIndex new e) (take-plus ps done count) x;
  within = omega (arith, n.within);
  front = λ lt. inr (let h : 15 ≤ count = n.enough (omega arith) in omega arith);
  rear = λ lt. inr (let h : 15 ≤ length ps - done - count = n.rest (omega arith) in omega arith);
}

-- the next leaf, as the function has it at hand
pub next-of : (xs : List EnvyPair) (done count : ℕ) → 1 ≤ count → count ≤ length xs - done → (count < length xs - done → 15 ≤ count) → (count < length xs - done → 15 ≤ length xs - done - count) → IsNext (pairs_in xs) done count
next-of xs done count some within enough rest =
    let same = length-map xs pair_in in
    record {
      some = some;
      within = omega (arith, within, same);
      enough = λ lt. enough (omega (arith, lt, same));
      rest = λ lt. let r = rest (omega (arith, lt, same)) in omega (arith, r, same);
    }

pub key-of : (xs : List EnvyPair) (done : ℕ) (d : EnvyPair) → done < length xs → (get_or xs done d).key ≡ (get_or (pairs_in xs) done (0, 0)).0
key-of xs done d more = ap (λ (e : ℕ × ℕ). e.0) (sym (get_or-map pair_in xs done d (0, 0) more))

pub next-follows : (ws : List ℕ) (ps part : List (ℕ × ℕ)) (done count key : ℕ) → IsLoaded ws ps done → IsNext ps done count → Rising 0 (2 ^ 64) ps → done < length ps → key ≡ (get_or ps done (0, 0)).0 → part ≡ take count (drop done ps) → MayFollow ws key part (take done ps)
next-follows ws ps part done count key l n rising more key_is part_is = subst (λ (x : List (ℕ × ℕ)). MayFollow ws key x (take done ps)) (sym part_is) (follow-made ws ps done count key l n rising more key_is)

pub next-settles : (ps part : List (ℕ × ℕ)) (done count key : ℕ) (old new : Sheet) (r : Result Unit TreeFault) → IsLoaded old.words ps done → IsNext ps done count → Rising 0 (2 ^ 64) ps → done < length ps → length ps ≤ most_pairs old.words → key ≡ (get_or ps done (0, 0)).0 → part ≡ take count (drop done ps)
    → ((es : List (ℕ × ℕ)) → IsIndex old.words es → MayFollow old.words key part es → done + count ≡ length (es ++ part) → done + count ≤ most_pairs old.words → Settles es (es ++ part) old r new)
    → Settles (take done ps) (take done ps ++ take count (drop done ps)) old r new
next-settles ps part done count key old new r l n rising more few key_is part_is f =
    let long = ap (λ (x : List (ℕ × ℕ)). length (take done ps ++ x)) part_is ∙ part-long ps done count more n in
    subst (λ (x : List (ℕ × ℕ)). Settles (take done ps) (take done ps ++ x) old r new) part_is (f (take done ps) l.index (next-follows old.words ps part done count key l n rising more key_is part_is) (sym long) (omega (arith, n.within)))

-- one pair more is copied
pub part-more : (xs : List EnvyPair) (part : List (ℕ × ℕ)) (done i : ℕ) (d : EnvyPair) → done + i < length xs → i < length part → take i part ≡ take i (drop done (pairs_in xs)) → take (i + 1) (set part i (pair_in (get_or xs (done + i) d))) ≡ take (i + 1) (drop done (pairs_in xs))
part-more xs part done i d lt more same =
    let ps = pairs_in xs in
    let here : pair_in (get_or xs (done + i) d) ≡ get_or (drop done ps) i (0, 0) = sym (get_or-map pair_in xs (done + i) d (0, 0) lt) ∙ sym (get_or-drop done ps i (0, 0)) in
    take_more_set part i (pair_in (get_or xs (done + i) d)) more
    ∙ ap (λ (x : List (ℕ × ℕ)). x ++ pair_in (get_or xs (done + i) d) ∷ []) same
    ∙ ap (λ (y : ℕ × ℕ). take i (drop done ps) ++ y ∷ []) here
    ∙ sym (take_more (drop done ps) i (0, 0) (omega (arith, length-drop done ps, length-map xs pair_in)))

-- what a leaf's transaction comes to
pub leaf-done : (ps : List (ℕ × ℕ)) (done count : ℕ) (old new : Sheet) → IsLoaded old.words ps done → IsNext ps done count → done < length ps → Settles (take done ps) (take done ps ++ take count (drop done ps)) old (Ok tt) new → LoadsLeaf ps done old (Ok (done + count)) new
leaf-done ps done count old new l n more s = (
  s.0,
  (let h = n.some in omega arith),
  elim (leaf-enough old.words ps done count l n more) [ inl none ↦ inl none | inr many ↦ inr (omega arith) ],
  loaded-next new.words ps done count n more s.1,
)

pub leaf-failed : (ps : List (ℕ × ℕ)) (done count : ℕ) (old new : Sheet) (f : TreeFault) → IsLoaded old.words ps done → IsNext ps done count → done < length ps → Settles (take done ps) (take done ps ++ take count (drop done ps)) old (Err f) new → LoadsLeaf ps done old (Err f) new
leaf-failed ps done count old new FaultOff l n more s = (
  s.0,
  elim s.1 [
    | inl x ↦ (done, l.within, x)
    | inr x ↦ (done + count, (let h = n.within in omega arith), subst (λ e. IsIndex new.kept e) (take-plus ps done count) x)
  ],
)
leaf-failed ps done count old new Full l n more s = s
leaf-failed ps done count old new Bad l n more s = (s.0, s.1, (done, l.within, s.2))

-- a load that ends with the failure of a leaf
pub loads-failed : (ps : List (ℕ × ℕ)) (done : ℕ) (old mid new : Sheet) (r : Result Unit TreeFault) (f : TreeFault) → old.bads ≤ mid.bads → mid.bads ≤ new.bads → LoadsLeaf ps done mid (Err f) new → IsErrAnd r (λ x. x ≡ f) → Loads ps old r new
loads-failed ps done old mid new (Ok u) f before after s h = absurd h
loads-failed ps done old mid new (Err e) FaultOff before after s h = subst (λ z. Loads ps old (Err z) new) (sym h) s
loads-failed ps done old mid new (Err e) Full before after s h = absurd s
loads-failed ps done old mid new (Err e) Bad before after s h = subst (λ z. Loads ps old (Err z) new) (sym h) (s.0, rose-over old.bads mid.bads new.bads new.bads before s.1 after (omega arith), s.2)

pub Keeps-refl : (s : Sheet) → Keeps s s
Keeps-refl s = keeps-works 0 s s (Works-refl s)

pub Keeps-trans : (a b c : Sheet) → Keeps a b → Keeps b c → Keeps a c
Keeps-trans a b c u v = keeps-through 0 a b b c u (Works-refl b) v

-- one leaf more is worth as much as another
pub leaf-spends : (done end each : ℕ) (a b c : Sheet) → done < end → (done ≡ 0) ⊎ (15 ≤ end - done) → Spends (leaves_of done * each) a b → Spends each b c → Spends (leaves_of end * each) a c
leaf-spends done end each a b c lt steps v w =
    let more : leaves_of done + 1 ≤ leaves_of end = elim steps [ inl none ↦ omega arith | inr many ↦ omega arith ] in
    let whole : (leaves_of done + 1) * each ≡ leaves_of done * each + each = omega arith in
    Spends-then (leaves_of done * each) each (leaves_of end * each) a b c (omega (arith, mul-le-mul_right each more, whole)) v w

take-zero : (ps : List (ℕ × ℕ)) → take 0 ps ≡ none
take-zero [] = refl
take-zero (p ∷ ps) = refl

-- before the first leaf
pub loaded-none : (ws : List ℕ) (ps : List (ℕ × ℕ)) → IsIndex ws none → get_or ws 0 0 ≡ 0 → IsLoaded ws ps 0
loaded-none ws ps x root = record { index = subst (λ e. IsIndex ws e) (sym (take-zero ps)) x; within = omega arith; front = λ lt. inl root; rear = λ lt. inl refl }

pub spends-none : (each : ℕ) (s : Sheet) → Spends (leaves_of 0 * each) s s
spends-none each s = Spends-more 0 (leaves_of 0 * each) s s (omega arith) (Spends-refl s)

-- after the last
pub loaded-all : (ws : List ℕ) (ps : List (ℕ × ℕ)) (done : ℕ) → IsLoaded ws ps done → length ps ≤ done → IsIndex ws ps
loaded-all ws ps done l all = subst (λ e. IsIndex ws e) (take_all done ps all) l.index

-- ---- a map of none, and then the pairs

pub new-of : (ps : List (ℕ × ℕ)) (old mid new : Sheet) (r : Result Unit TreeFault) → IsSheet new → old.bads ≤ mid.bads → mid.bads ≤ new.bads → new.started ≡ false → Loads ps mid r new → LoadsNew ps old r new
new-of ps old mid new (Ok u) law before after shut s = s
new-of ps old mid new (Err FaultOff) law before after shut s = (s.0, inr s.1)
new-of ps old mid new (Err Full) law before after shut s = s
new-of ps old mid new (Err Bad) law before after shut s = (s.0, rose-over old.bads mid.bads new.bads new.bads before s.1 after (omega arith), inr (subst (λ (w : List ℕ). IsFirst w ps) (law.shut shut) s.2))

pub new-off : (ps : List (ℕ × ℕ)) (old new : Sheet) → old.words ≡ old.kept → 640 ≤ length old.words → (new.on ≡ false) × ((new.kept ≡ old.kept) ⊎ (new.kept ≡ marked old.kept)) → LoadsNew ps old (Err FaultOff) new
new-off ps old new same size e = (
  e.0,
  elim e.1 [
    | inl none_made ↦ inl none_made
    | inr made ↦ inr (0, omega arith, subst (λ (w : List ℕ). IsIndex w (take 0 ps)) (sym made) (subst (λ (es : List (ℕ × ℕ)). IsIndex (marked old.kept) es) (sym (take-zero ps)) (subst (λ (w : List ℕ). IsIndex (marked w) []) same (marked-index old.words size))))
  ],
)

pub new-bad : (ps : List (ℕ × ℕ)) (old new : Sheet) → IsTrue new.on × Rose old.bads new.bads × (new.kept ≡ old.kept) → LoadsNew ps old (Err Bad) new
new-bad ps old new e = (e.0, e.1, inl e.2)

-- what the leaves ask of the map of none
pub record Begins (old mid : Sheet) : Type 0 where
  pub map : IsIndex mid.words []
  pub root : get_or mid.words 0 0 ≡ 0

pub begins : (old mid : Sheet) → old.words ≡ old.kept → 640 ≤ length old.words → IsSheet mid → mid.started ≡ false → mid.kept ≡ marked old.kept → Begins old mid
begins old mid same size law shut made =
    let now : mid.words ≡ marked old.words = law.shut shut ∙ made ∙ ap marked (sym same) in
    record {
      map = subst (λ (w : List ℕ). IsIndex w []) (sym now) (marked-index old.words size);
      root = ap (λ (w : List ℕ). get_or w 0 0) now ∙ marked-root old.words size;
    }

-- ---- whether keys rise

drop-zero : (ps : List (ℕ × ℕ)) → drop 0 ps ≡ ps
drop-zero [] = refl
drop-zero (p ∷ ps) = refl

-- the pairs from place i on rise from a key on exactly if all rise
pub record Rises (least i : ℕ) (ps : List (ℕ × ℕ)) : Type 0 where
  pub few : least ≤ 2 ^ 64
  pub forth : Rising least (2 ^ 64) (drop i ps) → Rising 0 (2 ^ 64) ps
  pub back : Rising 0 (2 ^ 64) ps → Rising least (2 ^ 64) (drop i ps)

pub rises-first : (ps : List (ℕ × ℕ)) → Rises 0 0 ps
rises-first ps = record { few = omega arith; forth = λ r. subst (λ (x : List (ℕ × ℕ)). Rising 0 (2 ^ 64) x) (drop-zero ps) r; back = λ r. subst (λ (x : List (ℕ × ℕ)). Rising 0 (2 ^ 64) x) (sym (drop-zero ps)) r }

pub rises-more : (least i key : ℕ) (ps : List (ℕ × ℕ)) → Rises least i ps → i < length ps → key ≡ (get_or ps i (0, 0)).0 → least ≤ key → key < 2 ^ 64 → Rises (key + 1) (i + 1) ps
rises-more least i key ps h lt is ge fits =
    let split = drop_more ps i (0, 0) lt in
    record {
      few = omega arith;
      forth = λ r. h.forth (subst (λ (x : List (ℕ × ℕ)). Rising least (2 ^ 64) x) (sym split) (omega (arith, is), omega (arith, is), subst (λ (k : ℕ). Rising (k + 1) (2 ^ 64) (drop (i + 1) ps)) is r));
      back = λ r. subst (λ (k : ℕ). Rising (k + 1) (2 ^ 64) (drop (i + 1) ps)) (sym is) (subst (λ (x : List (ℕ × ℕ)). Rising least (2 ^ 64) x) split (h.back r)).2;
    }

pub rises-not : (least i key : ℕ) (ps : List (ℕ × ℕ)) → Rises least i ps → i < length ps → key ≡ (get_or ps i (0, 0)).0 → key < least → Rising 0 (2 ^ 64) ps → ⊥
rises-not least i key ps h lt is less r =
    let here = (subst (λ (x : List (ℕ × ℕ)). Rising least (2 ^ 64) x) (drop_more ps i (0, 0) lt) (h.back r)).0 in
    omega (arith, here, is)

pub rises-last : (least i : ℕ) (ps : List (ℕ × ℕ)) → Rises least i ps → length ps ≤ i → Rising 0 (2 ^ 64) ps
rises-last least i ps h all = h.forth (subst (λ (x : List (ℕ × ℕ)). Rising least (2 ^ 64) x) (sym (drop_all i ps all)) h.few)

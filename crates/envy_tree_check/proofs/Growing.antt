-- Trees made of the words of their nodes.
use Rattle.std.proofs.Common.{◌≡◌, ◌⊎◌, ℕ, zero, suc, ◌+◌, ◌*◌, ◌-◌, ◌/◌, ◌%◌, ◌<◌, ◌≤◌, Bool, true, false, IsTrue, List, [], ◌∷◌, length, map, take, drop, get_or, refl, ap, sym, subst, ◌∙◌, inl, inr, eqb, arith}
use Rattle.std.specs.List.{All, sum_by}
use Rattle.std.proofs.lemmas.Bool.{cases_eq, cases_lt}
use Rattle.std.proofs.lemmas.List.{get_or-map, length-drop, length-map, length-take}
use Rattle.std.proofs.lemmas.List.Elements.{All-cons, All-nil}
use Rattle.std.proofs.lemmas.List.Sums.{sum_by-cons}
use Rattle.envy_heap.specs.Pieces.{IsHeap, at, handed, head, one}
use Rattle.envy_heap.proofs.Heaps.{one-apart, one-same}
use Rattle.envy_btree.specs.Tree.{Tree, Fans, Holds, Ordered, Rising, Shows, Sized, keys_of, piece_of, uses, values_of, window}
use Rattle.envy_btree.specs.Rules.{key_at, key_count, kind_at, slot_at}
use Rattle.envy_btree.proofs.Trees.{high_of, low_of}
use Rattle.envy_btree.proofs.Writing.{window-at, window-is}
use Rattle.envy_tree_check.specs.Bounds.{floor_at, high_at, low_at}
use Rattle.envy_tree_check.specs.Faults.{fewest_keys}
use Rattle.envy_tree_check.specs.Grown.{Grows}
use Rattle.envy_tree_check.proofs.Bounding.{high-same, low-same}

pub window-long : (ws : List ℕ) (a n : ℕ) → a + n ≤ length ws → length (window ws a n) ≡ n
window-long ws a n le = omega (arith, length-take n (drop a ws), length-drop a ws)

-- the keys of a node are in order
pub record InOrder (ws : List ℕ) (low high p n : ℕ) : Type 0 where
  pub order : (i : ℕ) → i < n → (floor_at ws low p i ≤ key_at ws p i) × (key_at ws p i < high)

-- whose it is: a piece handed out, with a first word of this kind
pub record IsHead (ws free : List ℕ) (root : Bool) (p n kind : ℕ) : Type 0 where
  pub within : at p 63 < length ws
  pub word : get_or ws (head p) 0 ≡ 2 * n + kind
  pub few : n ≤ 31
  pub least : fewest_keys root kind ≤ n
  pub out : handed ws free p ≡ 1

-- A leaf

abbrev row : (ℕ → ℕ × ℕ) → ℕ → ℕ → List (ℕ × ℕ)
row f i zero = []
row f i (suc n) = f i ∷ row f (suc i) n

row-long : (f : ℕ → ℕ × ℕ) (i n : ℕ) → length (row f i n) ≡ n
row-long f i zero = refl
row-long f i (suc n) = omega (arith, row-long f (suc i) n)

row-at : (f : ℕ → ℕ × ℕ) (i n j : ℕ) → j < n → get_or (row f i n) j (0, 0) ≡ f (i + j)
row-at f i zero j lt = absurd (omega arith)
row-at f i (suc n) zero lt = ap f (let e : i ≡ i + 0 = omega arith in e)
row-at f i (suc n) (suc j) lt = row-at f (suc i) n j (omega arith) ∙ ap f (let e : suc i + j ≡ i + suc j = omega arith in e)

row-keys : (ws : List ℕ) (p n : ℕ) (f : ℕ → ℕ × ℕ) → ((i : ℕ) → (f i).0 ≡ key_at ws p i) → at p 63 < length ws → n ≤ 31 → window ws (at p 1) n ≡ keys_of (row f 0 n)
row-keys ws p n f same within few =
    let long : length (keys_of (row f 0 n)) ≡ n = length-map (row f 0 n) (λ (e : ℕ × ℕ). e.0) ∙ row-long f 0 n in
    window-is ws (at p 1) n (keys_of (row f 0 n)) (sym long) (omega arith) (λ j lt.
    let m = get_or-map (λ (e : ℕ × ℕ). e.0) (row f 0 n) j (0, 0) 0 (omega (arith, row-long f 0 n)) in
    sym (m ∙ ap (λ (e : ℕ × ℕ). e.0) (row-at f 0 n j lt) ∙ same (0 + j) ∙ ap (key_at ws p) (let e : 0 + j ≡ j = omega arith in e)))

row-values : (ws : List ℕ) (p n : ℕ) (f : ℕ → ℕ × ℕ) → ((i : ℕ) → (f i).1 ≡ slot_at ws p i) → at p 63 < length ws → n ≤ 31 → window ws (at p 32) n ≡ values_of (row f 0 n)
row-values ws p n f same within few =
    let long : length (values_of (row f 0 n)) ≡ n = length-map (row f 0 n) (λ (e : ℕ × ℕ). e.1) ∙ row-long f 0 n in
    window-is ws (at p 32) n (values_of (row f 0 n)) (sym long) (omega arith) (λ j lt.
    let m = get_or-map (λ (e : ℕ × ℕ). e.1) (row f 0 n) j (0, 0) 0 (omega (arith, row-long f 0 n)) in
    sym (m ∙ ap (λ (e : ℕ × ℕ). e.1) (row-at f 0 n j lt) ∙ same (0 + j) ∙ ap (slot_at ws p) (let e : 0 + j ≡ j = omega arith in e)))

row-rises : (f : ℕ → ℕ × ℕ) (low high i n : ℕ) → low ≤ high → (0 < n → low ≤ (f i).0) → ((j : ℕ) → j < n → (f (i + j)).0 < high) → ((j : ℕ) → suc j < n → (f (i + j)).0 + 1 ≤ (f (i + suc j)).0) → Rising low high (row f i n)
row-rises f low high i zero le first below next = le
row-rises f low high i (suc n) le first below next =
    let here : (f i).0 < high = subst (λ x. (f x).0 < high) (let e : i + 0 ≡ i = omega arith in e) (below 0 (omega arith)) in (
      first (omega arith),
      here,
      row-rises f ((f i).0 + 1) high (suc i) n (omega arith)
          (λ some. let up = next 0 (omega arith) in subst (λ x. (f i).0 + 1 ≤ (f x).0) (let e : i + 1 ≡ suc i = omega arith in e) (subst (λ x. (f x).0 + 1 ≤ (f (i + 1)).0) (let e : i + 0 ≡ i = omega arith in e) up))
          (λ j lt. subst (λ x. (f x).0 < high) (let e : i + suc j ≡ suc i + j = omega arith in e) (below (suc j) (omega arith)))
          (λ j lt. let up = next (suc j) (omega arith) in subst (λ x. (f (suc i + j)).0 + 1 ≤ (f x).0) (let e : i + suc (suc j) ≡ suc i + suc j = omega arith in e) (subst (λ x. (f x).0 + 1 ≤ (f (i + suc (suc j))).0) (let e : i + suc j ≡ suc i + j = omega arith in e) up)),
    )

leaf-sized : (root : Bool) (p : ℕ) (es : List (ℕ × ℕ)) → fewest_keys root 0 ≤ length es → length es ≤ 31 → Sized root zero (record { piece = p; pairs = es })
leaf-sized true p es least few = (omega arith, few)
leaf-sized false p es least few = (least, few)

one-is : (q p : ℕ) → 1 ≤ one (eqb q p) → p ≡ q
one-is q p some = elim (cases_eq q p) [ inl e ↦ sym e | inr ne ↦ absurd (omega (arith, one-apart q p ne)) ]

pub leaf-grows : (ws free : List ℕ) (root : Bool) (low high p n : ℕ) → IsHead ws free root p n 0 → InOrder ws low high p n → low ≤ high → Grows ws free root low high zero p
leaf-grows ws free root low high p n h o le =
    let f : ℕ → ℕ × ℕ = λ i. (key_at ws p i, slot_at ws p i) in
    let long : length (row f 0 n) ≡ n = row-long f 0 n in
    let keys = row-keys ws p n f (λ i. refl) h.within h.few in
    let values = row-values ws p n f (λ i. refl) h.within h.few in
    let ks : length (keys_of (row f 0 n)) ≡ n = length-map (row f 0 n) (λ (e : ℕ × ℕ). e.0) ∙ long in
    let vs : length (values_of (row f 0 n)) ≡ n = length-map (row f 0 n) (λ (e : ℕ × ℕ). e.1) ∙ long in
    record {
      tree = record { piece = p; pairs = row f 0 n };
      is = refl;
      holds = record {
        count = omega (arith, h.word);
        front = subst (λ x. window ws (at p 1) x ≡ keys_of (row f 0 n)) (sym ks) keys;
        back = subst (λ x. window ws (at p 32) x ≡ values_of (row f 0 n)) (sym vs) values;
      };
      ordered = row-rises f low high 0 n le
          (λ some. omega (arith, (o.order 0 some).0))
          (λ j lt. subst (λ x. key_at ws p x < high) (let e : j ≡ 0 + j = omega arith in e) (o.order j lt).1)
          (λ j lt. let up : key_at ws p j + 1 ≤ key_at ws p (suc j) = (o.order (suc j) lt).0 in subst (λ x. key_at ws p x + 1 ≤ key_at ws p (0 + suc j)) (let e : j ≡ 0 + j = omega arith in e) (subst (λ x. key_at ws p j + 1 ≤ key_at ws p x) (let e : suc j ≡ 0 + suc j = omega arith in e) up));
      sized = leaf-sized root p (row f 0 n) (subst (λ x. fewest_keys root 0 ≤ x) (sym long) h.least) (omega (arith, long, h.few));
      owned = λ q some. subst (λ x. handed ws free x ≡ 1) (one-is q p some) h.out;
    }

-- An inner node

-- keys above low, below high, and rising
abbrev Mounts : ℕ → ℕ → List ℕ → Type 0
Mounts low high [] = Unit {0}
Mounts low high (k ∷ ks) = (low < k) × (k < high) × Mounts k high ks

mounts : (low high : ℕ) (ks : List ℕ) → (0 < length ks → low < get_or ks 0 0) → ((i : ℕ) → i < length ks → get_or ks i 0 < high) → ((i : ℕ) → suc i < length ks → get_or ks i 0 < get_or ks (suc i) 0) → Mounts low high ks
mounts low high [] first below next = tt
mounts low high (k ∷ ks) first below next =
    (first (omega arith), below 0 (omega arith), mounts k high ks (λ some. next 0 (omega arith)) (λ i lt. below (suc i) (omega arith)) (λ i lt. next (suc i) (omega arith)))

-- the children of a node that has these keys, in these pieces
record Kids (ws free : List ℕ) (low high d : ℕ) (ks ss : List ℕ) : Type 0 where
  kids : List (Tree d)
  fans : Fans (Ordered d) low high ks kids
  places : map (piece_of d) kids ≡ ss
  holds : All (Holds ws d) kids
  sized : All (Sized false d) kids
  long : length kids ≡ length ks + 1
  owned : (q : ℕ) → 1 ≤ sum_by (λ c. uses d c q) kids → handed ws free q ≡ 1

kids-made : (ws free : List ℕ) (low high d : ℕ) (ks ss : List ℕ) → Mounts low high ks → length ss ≡ length ks + 1 → ((j : ℕ) → j ≤ length ks → Grows ws free false (low_of low ks j) (high_of high ks j) d (get_or ss j 0)) → Kids ws free low high d ks ss
kids-made ws free low high d [] [] m long each = absurd (omega arith)
kids-made ws free low high d [] (s ∷ []) m long each =
    let g : Grows ws free false low high d s = each 0 (omega arith) in
    record {
      kids = g.tree ∷ [];
      fans = g.ordered;
      places = ap (λ x. x ∷ []) g.is;
      holds = All-cons (Holds ws d) g.tree [] g.holds (All-nil (Holds ws d));
      sized = All-cons (Sized false d) g.tree [] g.sized (All-nil (Sized false d));
      long = omega arith;
      owned = λ q some. g.owned q (omega (arith, sum_by-cons (λ c. uses d c q) g.tree []));
    }
kids-made ws free low high d [] (s ∷ r ∷ ss) m long each = absurd (omega arith)
kids-made ws free low high d (k ∷ ks) [] m long each = absurd (omega arith)
kids-made ws free low high d (k ∷ ks) (s ∷ ss) m long each =
    let g : Grows ws free false low k d s = each 0 (omega arith) in
    let r = kids-made ws free k high d ks ss m.2 (omega arith) (λ j le. each (suc j) (omega arith)) in
    record {
      kids = g.tree ∷ r.kids;
      fans = (m.0, m.1, g.ordered, r.fans);
      places = ap (λ x. x ∷ map (piece_of d) r.kids) g.is ∙ ap (λ x. s ∷ x) r.places;
      holds = All-cons (Holds ws d) g.tree r.kids g.holds r.holds;
      sized = All-cons (Sized false d) g.tree r.kids g.sized r.sized;
      long = omega (arith, r.long);
      owned = λ q some. elim (cases_lt 0 (uses d g.tree q)) [
        | inl here ↦ g.owned q here
        | inr none ↦ r.owned q (omega (arith, none, sum_by-cons (λ c. uses d c q) g.tree r.kids))
      ];
    }

inner-sized : (root : Bool) (d p : ℕ) (ks : List ℕ) (cs : List (Tree d)) → fewest_keys root 1 ≤ length ks → length ks ≤ 31 → length cs ≡ length ks + 1 → All (Sized false d) cs → Sized root (suc d) (record { piece = p; keys = ks; kids = cs })
inner-sized true d p ks cs least few long sized = (omega arith, omega arith, sized)
inner-sized false d p ks cs least few long sized = (omega arith, omega arith, sized)

window-get : (ws : List ℕ) (a n i : ℕ) → i < n → get_or (window ws a n) i 0 ≡ get_or ws (a + i) 0
window-get ws a n i lt = sym (window-at ws a n i (window ws a n) refl lt)

pub inner-grows : (ws free : List ℕ) (root : Bool) (low high d p n : ℕ) → IsHead ws free root p n 1 → InOrder ws low high p n → ((j : ℕ) → j ≤ n → Grows ws free false (low_at ws low p j) (high_at ws high p j) d (slot_at ws p j)) → Grows ws free root low high (suc d) p
inner-grows ws free root low high d p n h o each =
    let ks = window ws (at p 1) n in
    let ss = window ws (at p 32) (n + 1) in
    let lk : length ks ≡ n = window-long ws (at p 1) n (omega (arith, h.within, h.few)) in
    let ls : length ss ≡ n + 1 = window-long ws (at p 32) (n + 1) (omega (arith, h.within, h.few)) in
    let key : (i : ℕ) → i < length ks → key_at ws p i ≡ get_or ks i 0 = λ i lt. sym (window-get ws (at p 1) n i (omega (arith, lk))) in
    let count : key_count ws p ≡ length ks = omega (arith, h.word, lk) in
    let odd : kind_at ws p ≡ 1 = omega (arith, h.word) in
    let m : Mounts low high ks = mounts low high ks
    (λ some. let a = (o.order 0 (omega (arith, lk))).0 in omega (arith, a, key 0 some, odd))
    (λ i lt. let a = (o.order i (omega (arith, lk))).1 in omega (arith, a, key i lt))
    (λ i lt. let a : key_at ws p i + 1 ≤ key_at ws p (suc i) = (o.order (suc i) (omega (arith, lk))).0 in omega (arith, a, key i (omega arith), key (suc i) lt)) in
    let k = kids-made ws free low high d ks ss m (omega (arith, lk, ls)) (λ j le.
    let a : low_of low ks j ≡ low_at ws low p j = low-same low ws ks p j key le in
    let b : high_of high ks j ≡ high_at ws high p j = high-same high ws ks p j key count in
    let s : get_or ss j 0 ≡ slot_at ws p j = window-get ws (at p 32) (n + 1) j (omega (arith, lk)) in
    subst (λ x. Grows ws free false x (high_of high ks j) d (get_or ss j 0)) (sym a) (subst (λ x. Grows ws free false (low_at ws low p j) x d (get_or ss j 0)) (sym b) (subst (λ x. Grows ws free false (low_at ws low p j) (high_at ws high p j) d x) (sym s) (each j (omega (arith, lk)))))) in
    let lp : length (map (piece_of d) k.kids) ≡ n + 1 = length-map k.kids (piece_of d) ∙ (omega (arith, k.long, lk)) in
    record {
      tree = record { piece = p; keys = ks; kids = k.kids };
      is = refl;
      holds = (
        record {
          count = omega (arith, h.word, lk);
          front = ap (window ws (at p 1)) lk;
          back = ap (window ws (at p 32)) lp ∙ sym k.places;
        },
        k.holds,
      );
      ordered = k.fans;
      sized = inner-sized root d p ks k.kids (subst (λ x. fewest_keys root 1 ≤ x) (sym lk) h.least) (omega (arith, lk, h.few)) k.long k.sized;
      owned = λ q some. elim (cases_lt 0 (one (eqb q p))) [
        | inl here ↦ subst (λ x. handed ws free x ≡ 1) (one-is q p here) h.out
        | inr none ↦ k.owned q (omega (arith, none, some))
      ];
    }

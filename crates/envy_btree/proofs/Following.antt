-- Pairs that follow all others, as a leaf of their own.
use Rattle.std.proofs.Common.{◌≡◌, ◌≢◌, ℕ, zero, suc, ◌+◌, ◌<◌, ◌≤◌, Bool, true, false, cond, List, [], ◌∷◌, ◌++◌, length, take, get_or, refl, ap, sym, subst, ◌∙◌, inl, inr, eqb, ltb, arith}
use Rattle.std.specs.List.{All, flat_map}
use Rattle.std.proofs.lemmas.Bool.{cases_lt}
use Rattle.std.proofs.lemmas.List.{append_assoc, append-nil}
use Rattle.std.proofs.lemmas.List.Elements.{All-cons, All-nil, All-head, All-tail, All-get_or}
use Rattle.envy_heap.specs.Pieces.{IsHeap, Takes, handed, at, one}
use Rattle.envy_heap.proofs.Heaps.{one-same}
use Rattle.envy_btree.specs.Pairs.{Below, Above}
use Rattle.envy_btree.specs.Tree.{Tree, Rising, Ordered, Sized, Shows, keys_of, values_of, pairs_of, piece_of}
use Rattle.envy_btree.specs.Nodes.{OnlyPiece, Ranks}
use Rattle.envy_btree.specs.Index.{Stands}
use Rattle.envy_btree.specs.Bulk.{with_pairs, Leafed}
use Rattle.envy_btree.specs.Changes.{Parted}
use Rattle.envy_btree.proofs.Maps.{ltb-lt, ltb-ge}
use Rattle.envy_btree.proofs.Trees.{Fans-long, Fans-at, Ordered-within, low-next, low_of, high_of}
use Rattle.envy_btree.proofs.Descent.{bare}
use Rattle.envy_btree.proofs.Counting.{nodes, nodes-pairs}
use Rattle.envy_btree.proofs.Framing.{other-piece}
use Rattle.envy_btree.proofs.Setting.{heap-kept}
use Rattle.envy_btree.proofs.Planting.{Holds-kept}
use Rattle.envy_btree.proofs.Spreading.{Local}

with_pairs-below : (key : ℕ) (ps es fs : List (ℕ × ℕ)) → Below key es → with_pairs key ps (es ++ fs) ≡ es ++ with_pairs key ps fs
with_pairs-below key ps [] fs b = refl
with_pairs-below key ps (e ∷ es) fs b = rw (ltb-lt e.0 key (All-head (λ (x : ℕ × ℕ). x.0 < key) e es b)) (ap (λ x. e ∷ x) (with_pairs-below key ps es fs (All-tail (λ (x : ℕ × ℕ). x.0 < key) e es b)))

with_pairs-first : (key : ℕ) (ps fs : List (ℕ × ℕ)) → Above key fs → with_pairs key ps fs ≡ ps ++ fs
with_pairs-first key ps [] b = sym (append-nil ps)
with_pairs-first key ps (e ∷ es) b = rw (ltb-ge e.0 key (let h : key < e.0 = All-head (λ (x : ℕ × ℕ). key < x.0) e es b in omega arith)) refl

with_pairs-above : (key : ℕ) (ps es fs : List (ℕ × ℕ)) → Above key fs → with_pairs key ps (es ++ fs) ≡ with_pairs key ps es ++ fs
with_pairs-above key ps [] fs b = with_pairs-first key ps fs b
with_pairs-above key ps (e ∷ es) fs b =
    elim (ltb e.0 key) as (λ x. cond x (e ∷ with_pairs key ps (es ++ fs)) (ps ++ e ∷ (es ++ fs)) ≡ cond x (e ∷ with_pairs key ps es) (ps ++ e ∷ es) ++ fs) [
      | true ↦ ap (λ x. e ∷ x) (with_pairs-above key ps es fs b)
      | false ↦ sym (append_assoc ps (e ∷ es) fs)
    ]

pub with_pairs-local : (key : ℕ) (ps : List (ℕ × ℕ)) → Local (with_pairs key ps) key
with_pairs-local key ps = record { within = λ ls ms bs b a. with_pairs-below key ps ls (ms ++ bs) b ∙ ap (λ x. ls ++ x) (with_pairs-above key ps ms bs a) }

-- after pairs that are all below their key
pub with_pairs-last : (key : ℕ) (ps es : List (ℕ × ℕ)) → Below key es → with_pairs key ps es ≡ es ++ ps
with_pairs-last key ps es b = ap (with_pairs key ps) (sym (append-nil es)) ∙ with_pairs-below key ps es [] b

All-left : {X : Type 0} (P : X → Type 0) (xs ys : List X) → All P (xs ++ ys) → All P xs
All-left P [] ys a = All-nil P
All-left P (x ∷ xs) ys a = All-cons P x xs (All-head P x (xs ++ ys) a) (All-left P xs ys (All-tail P x (xs ++ ys) a))

All-right : {X : Type 0} (P : X → Type 0) (xs ys : List X) → All P (xs ++ ys) → All P ys
All-right P [] ys a = a
All-right P (x ∷ xs) ys a = All-right P xs ys (All-tail P x (xs ++ ys) a)

-- what holds of all pairs holds of a child's
pub All-child : {C : Type 0} (P : (ℕ × ℕ) → Type 0) (F : C → List (ℕ × ℕ)) (cs : List C) (i : ℕ) (e : C) → i < length cs → All P (flat_map F cs) → All P (F (get_or cs i e))
All-child P F [] i e lt a = absurd (omega arith)
All-child P F (c ∷ cs) zero e lt a = All-left P (F c) (flat_map F cs) a
All-child P F (c ∷ cs) (suc i) e lt a = All-child P F cs i e (omega arith) (All-right P (F c) (flat_map F cs) a)

-- a child has pairs enough for a leaf
pub child-enough : (d : ℕ) (t : Tree d) → Sized false d t → 15 ≤ length (pairs_of d t)
child-enough d t s = omega (arith, nodes-pairs d t s, nodes-some d t)
  where
    nodes-some : (d : ℕ) (t : Tree d) → 1 ≤ nodes d t
    nodes-some zero t = omega arith
    nodes-some (suc d) t = omega arith

-- a key above all pairs belongs under the last child
pub last-child : (key low high i d : ℕ) (t : Tree (suc d)) → Ordered (suc d) low high t → All (Sized false d) t.kids → Ranks key t.keys i → Below key (flat_map (pairs_of d) t.kids) → length t.keys ≤ i
last-child key low high i d t o sized r below = elim (cases_lt i (length t.keys)) [
  | inl lt ↦ (
      let lj : suc i < length t.kids = omega (arith, Fans-long (Ordered d) low high t.keys t.kids o) in
      let c = get_or t.kids (suc i) (bare d) in
      let some : 0 < length (pairs_of d c) = omega (arith, child-enough d c (All-get_or (Sized false d) t.kids (suc i) (bare d) lj sized)) in
      let within = Ordered-within d (low_of low t.keys (suc i)) (high_of high t.keys (suc i)) c (Fans-at (Ordered d) low high t.keys t.kids (suc i) (bare d) (omega arith) o) in
      let above = All-get_or (λ (e : ℕ × ℕ). (low_of low t.keys (suc i) ≤ e.0) × (e.0 < high_of high t.keys (suc i))) (pairs_of d c) 0 (0, 0) some within in
      let under = All-get_or (λ (e : ℕ × ℕ). e.0 < key) (pairs_of d c) 0 (0, 0) some (All-child (λ (e : ℕ × ℕ). e.0 < key) (pairs_of d) t.kids (suc i) (bare d) lj below) in
      absurd (omega (arith, above.0, under, low-next low t.keys i lt, r.above lt)))
  | inr ge ↦ ge
]

-- pairs below a key rise up to it
Rising-up-to : (low high key : ℕ) (es : List (ℕ × ℕ)) → low ≤ key → Below key es → Rising low high es → Rising low key es
Rising-up-to low high key [] le b r = le
Rising-up-to low high key (e ∷ es) le b r =
    let here : e.0 < key = All-head (λ (x : ℕ × ℕ). x.0 < key) e es b in
    (r.0, here, Rising-up-to (e.0 + 1) high key es (omega arith) (All-tail (λ (x : ℕ × ℕ). x.0 < key) e es b) r.2)

pub Rising-under : (low high key : ℕ) (es : List (ℕ × ℕ)) → 0 < length es → Below key es → Rising low high es → low < key
Rising-under low high key [] some b r = absurd (omega arith)
Rising-under low high key (e ∷ es) some b r = let here : e.0 < key = All-head (λ (x : ℕ × ℕ). x.0 < key) e es b in omega (arith, r.0)

pub Rising-some : (low high : ℕ) (es : List (ℕ × ℕ)) → 0 < length es → Rising low high es → low < high
Rising-some low high [] some r = absurd (omega arith)
Rising-some low high (e ∷ es) some r = omega (arith, r.0, r.1)

-- a leaf, and another after it
pub leaf-follows : (ws new free : List ℕ) (root : Bool) (low high key q : ℕ) (t : Tree 0) (ps : List (ℕ × ℕ)) → IsHeap ws free → Stands ws free root low high 0 t → Leafed ws new free q ps → 15 ≤ length ps → length ps ≤ 31 → 15 ≤ length t.pairs → Below key t.pairs → Rising key high ps
    → (p : Parted ws new free (with_pairs key ps t.pairs) low high 0 t) × (key ≡ p.key) × (q ≡ piece_of 0 p.right)
leaf-follows ws new free root low high key q t ps heap s l many few enough below rising =
    let takes = l.takes in
    let q_out : 1 ≤ handed l.mid l.rest q = omega (arith, takes.now q, one-same q) in
    let k = heap-kept l.mid new l.rest q takes.heap q_out l.only in
    let now : (x : ℕ) → handed new l.rest x ≡ handed ws free x + one (eqb x q) = λ x. omega (arith, takes.now x, k.1 x) in
    let long : length new ≡ length ws = l.only.long ∙ takes.touches.long in
    let others : (x i : ℕ) → i < 64 → 1 ≤ handed ws free x → get_or new (at x i) 0 ≡ get_or ws (at x i) 0 = λ x i lt some.
    let ne : x ≢ q = λ e. absurd (let z : handed ws free x ≡ 0 = subst (λ y. handed ws free y ≡ 0) (sym e) takes.was in omega arith) in
    other-piece l.mid new q x i lt (λ e. absurd (ne e)) l.only ∙ takes.touches.others (at x i) (omega arith) (omega arith) (omega arith) in
    let under : low < key = Rising-under low high key t.pairs (omega arith) below s.ordered in (
      record {
        next = l.rest;
        heap = k.0;
        left = t;
        right = record { piece = q; pairs = ps };
        key = key;
        above = under;
        below = Rising-some key high ps (omega arith) rising;
        is = refl;
        front = record {
          holds = Holds-kept ws new free root low high 0 t heap long others s;
          ordered = Rising-up-to low high key t.pairs (omega arith) below s.ordered;
          sized = (enough, s.sized.1);
          owned = λ x. omega (arith, s.owned x, now x);
        };
        rear = record { holds = l.shows; ordered = rising; sized = (many, few); owned = λ x. omega (arith, now x) };
        pairs = sym (with_pairs-last key ps t.pairs below);
        share = λ x. omega (arith, now x);
        spares = omega (arith, takes.spares, k.2);
        elsewhere = record {
          long = long;
          first = λ a lt n1 n2. l.only.before a (omega arith) ∙ takes.touches.others a n1 n2 (omega arith);
          others = λ x i lt out none. others x i lt out;
        };
      },
      refl,
      refl,
    )

-- a piece taken, and the leaf written into it
pub leafed-of : (old first new free rest : List ℕ) (q : ℕ) (ks ss : List ℕ) (ps : List (ℕ × ℕ)) → Takes q old first free rest → ks ≡ keys_of ps → ss ≡ values_of ps → Shows new q 0 ks ss → OnlyPiece q first new → Leafed old new free q ps
leafed-of old first new free rest q ks ss ps takes ke se shows only =
    record { mid = first; rest = rest; takes = takes; shows = subst (λ x. Shows new q 0 (keys_of ps) x) se (subst (λ x. Shows new q 0 x ss) ke shows); only = only }

-- one pair more
keys-suc : (ps : List (ℕ × ℕ)) (i : ℕ) → i < length ps → keys_of (take (suc i) ps) ≡ keys_of (take i ps) ++ (get_or ps i (0, 0)).0 ∷ []
keys-suc [] i lt = absurd (omega arith)
keys-suc (p ∷ ps) zero lt = refl
keys-suc (p ∷ ps) (suc i) lt = ap (λ x. p.0 ∷ x) (keys-suc ps i (omega arith))

values-suc : (ps : List (ℕ × ℕ)) (i : ℕ) → i < length ps → values_of (take (suc i) ps) ≡ values_of (take i ps) ++ (get_or ps i (0, 0)).1 ∷ []
values-suc [] i lt = absurd (omega arith)
values-suc (p ∷ ps) zero lt = refl
values-suc (p ∷ ps) (suc i) lt = ap (λ x. p.1 ∷ x) (values-suc ps i (omega arith))

pub keys-more : (ps : List (ℕ × ℕ)) (i key : ℕ) (ks : List ℕ) → i < length ps → ks ≡ keys_of (take i ps) → key ≡ (get_or ps i (0, 0)).0 → ks ++ key ∷ [] ≡ keys_of (take (i + 1) ps)
keys-more ps i key ks lt is here =
    let next : suc i ≡ i + 1 = omega arith in
    ap (λ x. x ++ key ∷ []) is ∙ ap (λ x. keys_of (take i ps) ++ x ∷ []) here ∙ sym (keys-suc ps i lt) ∙ ap (λ n. keys_of (take n ps)) next

pub values-more : (ps : List (ℕ × ℕ)) (i value : ℕ) (ss : List ℕ) → i < length ps → ss ≡ values_of (take i ps) → value ≡ (get_or ps i (0, 0)).1 → ss ++ value ∷ [] ≡ values_of (take (i + 1) ps)
values-more ps i value ss lt is here =
    let next : suc i ≡ i + 1 = omega arith in
    ap (λ x. x ++ value ∷ []) is ∙ ap (λ x. values_of (take i ps) ++ x ∷ []) here ∙ sym (values-suc ps i lt) ∙ ap (λ n. values_of (take n ps)) next

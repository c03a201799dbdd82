-- A tree in hand, written whole or as two.
use Rattle.std.proofs.Common.{◌≡◌, ◌≢◌, ℕ, ◌+◌, ◌-◌, ◌/◌, ◌<◌, ◌≤◌, Bool, false, List, length, take, drop, get_or, Option, Some, None, Result, Ok, Err, IsErrAnd, refl, ap, sym, subst, ◌∙◌, eqb, arith}
use Rattle.std.proofs.lemmas.List.{length-drop}
use Rattle.envy_base.specs.declared.board.Trouble.{Trouble}
use Rattle.envy_heap.specs.Pieces.{IsHeap, Takes, handed, at, one}
use Rattle.envy_heap.proofs.Heaps.{one-same}
use Rattle.envy_btree.specs.Tree.{Tree, Rising, Ordered, uses, piece_of, Shows, keys_of, values_of, fewest}
use Rattle.envy_btree.specs.Nodes.{OnlyPiece, Halves, half, kind_of, keys_in, slots_in, width, IsNode, Loose, KidsSized}
use Rattle.envy_btree.specs.Index.{Stands}
use Rattle.envy_btree.specs.Changes.{Became, Parted, InHand, Elsewhere, Saved, Outcome}
use Rattle.envy_btree.proofs.Descent.{uses-root, owned-within}
use Rattle.envy_btree.proofs.Setting.{heap-kept}
use Rattle.envy_btree.proofs.Framing.{Shows-same, other-piece}
use Rattle.envy_btree.proofs.Halving.{loose-kept, keys-long, slots-long, kind-le, one-kind, Sized-of, Holds-of, fore, hind, fore-piece, hind-piece, halves-pairs, halves-uses, Twins, twins}

-- a leaf's pairs have changed in hand
pub leaf-hand : (ws free : List ℕ) (es : List (ℕ × ℕ)) (root : Bool) (low high : ℕ) (t : Tree 0) (keys slots : List ℕ) → IsHeap ws free → Stands ws free root low high 0 t → Rising low high es → keys ≡ keys_of es → slots ≡ values_of es → InHand ws ws free es low high 0 t false keys slots
leaf-hand ws free es root low high t keys slots heap s r ke se = record {
  next = free;
  heap = heap;
  tree = record { piece = t.piece; pairs = es };
  is = refl;
  lists = record { kind = refl; front = ke; back = se };
  loose = tt;
  ordered = r;
  kids = tt;
  owned = s.owned;
  pairs = refl;
  share = λ q. refl;
  spares = omega arith;
  elsewhere = record { long = refl; first = λ a lt n1 n2. refl; others = λ q i lt out none. refl };
}

-- the root's piece is handed out
pub hand-out : (old mid free : List ℕ) (es : List (ℕ × ℕ)) (low high d : ℕ) (t : Tree d) (inner : Bool) (keys slots : List ℕ) → (h : InHand old mid free es low high d t inner keys slots) → 1 ≤ handed mid h.next (piece_of d h.tree)
hand-out old mid free es low high d t inner keys slots h = omega (arith, h.owned (piece_of d h.tree), uses-root d h.tree)

-- a change within the root's piece, after one elsewhere
pub elsewhere-then : (old mid new free : List ℕ) (used : ℕ → ℕ) (p : ℕ) → Elsewhere old mid free used → OnlyPiece p mid new → 1 ≤ used p → Elsewhere old new free used
elsewhere-then old mid new free used p e o some = record {
  long = o.long ∙ e.long;
  first = λ a lt n1 n2. o.before a (omega arith) ∙ e.first a lt n1 n2;
  others = λ q i lt out none. other-piece mid new p q i lt (λ same. absurd (let z : used p ≡ 0 = subst (λ x. used x ≡ 0) same none in omega arith)) o ∙ e.others q i lt out none;
}

-- what is read of lists, as the tree has them
pub shows-tree : (new : List ℕ) (p d : ℕ) (t : Tree d) (inner : Bool) (keys slots : List ℕ) → IsNode d t inner keys slots → Shows new p (one inner) keys slots → Shows new p (kind_of d) (keys_in d t) (slots_in d t)
shows-tree new p d t inner keys slots n s =
    subst (λ k. Shows new p k (keys_in d t) (slots_in d t)) (ap one n.kind ∙ one-kind d) (subst (λ x. Shows new p (one inner) (keys_in d t) x) n.back (subst (λ x. Shows new p (one inner) x slots) n.front s))

-- the root is written whole
pub settled : (old mid new free : List ℕ) (es : List (ℕ × ℕ)) (root : Bool) (low high d : ℕ) (t : Tree d) (inner : Bool) (keys slots : List ℕ) → (h : InHand old mid free es low high d t inner keys slots) → fewest root d ≤ width d h.tree → length keys ≤ 31
    → Shows new (piece_of d t) (one inner) keys slots → OnlyPiece (piece_of d t) mid new → Became old new free es root low high d t
settled old mid new free es root low high d t inner keys slots h enough few shows only =
    let p = piece_of d h.tree in
    let only_here : OnlyPiece p mid new = subst (λ x. OnlyPiece x mid new) (sym h.is) only in
    let shown : Shows new p (kind_of d) (keys_in d h.tree) (slots_in d h.tree) = shows-tree new p d h.tree inner keys slots h.lists (subst (λ x. Shows new x (one inner) keys slots) (sym h.is) shows) in
    let out : 1 ≤ handed mid h.next p = hand-out old mid free es low high d t inner keys slots h in
    let k = heap-kept mid new h.next p h.heap out only_here in
    let loose = loose-kept mid new h.next low high d h.tree h.heap only_here.long h.loose h.ordered h.kids h.owned (λ x i lt some ne. other-piece mid new p x i lt (λ e. absurd (ne e)) only_here) in
    let wide : width d h.tree ≤ 31 + kind_of d = omega (arith, keys-long low high d h.tree h.ordered, ap length h.lists.front) in
    record {
      next = h.next;
      heap = k.0;
      tree = h.tree;
      is = h.is;
      stands = record {
        holds = Holds-of new d h.tree shown loose;
        ordered = h.ordered;
        sized = Sized-of root d h.tree enough wide h.kids;
        owned = λ q. omega (arith, h.owned q, k.1 q);
      };
      pairs = h.pairs;
      share = λ q. omega (arith, h.share q, k.1 q);
      spares = omega (arith, h.spares, k.2);
      elsewhere = elsewhere-then old mid new free (uses d t) (piece_of d t) h.elsewhere only (uses-root d t);
    }

-- what is written as two are two trees
pub halves-twins : (old new : List ℕ) (low high d q key : ℕ) (t : Tree d) (inner : Bool) (keys slots : List ℕ) → IsNode d t inner keys slots → Halves old new (piece_of d t) q (one inner) key keys slots → q ≢ piece_of d t → at q 63 < length new
    → Loose new d t → Ordered d low high t → KidsSized d t → 32 ≤ length keys → length keys ≤ 46 → Twins new low high key d (fore d (half slots) t) (hind d (half slots) q t)
halves-twins old new low high d q key t inner keys slots lists halves apart within loose o sized many few =
    let p : ℕ = piece_of d t in
    let m : ℕ = half slots in
    let kind : one inner ≡ kind_of d = ap one lists.kind ∙ one-kind d in
    let wide : length keys + kind_of d ≡ width d t = ap (λ x. length x + kind_of d) lists.front ∙ keys-long low high d t o in
    let slots_wide : length slots ≡ width d t = ap length lists.back ∙ slots-long d t in
    let m_is : m ≡ width d t / 2 = ap (λ x. x / 2) slots_wide in
    let le_one : kind_of d ≤ 1 = kind-le d in
    let rear_now : Shows new q (one inner) (drop m keys) (drop m slots) = Shows-same halves.mid new q (one inner) (drop m keys) (drop m slots) within (omega (arith, length-drop m keys)) (omega (arith, length-drop m slots)) (λ i lt. other-piece halves.mid new p q i lt (λ e. absurd (apart e)) halves.first) halves.rear in
    let rear_tree : Shows new q (kind_of d) (drop m (keys_in d t)) (drop m (slots_in d t)) = subst (λ x. Shows new q x (drop m (keys_in d t)) (drop m (slots_in d t))) kind (subst (λ x. Shows new q (one inner) (drop m (keys_in d t)) (drop m x)) lists.back (subst (λ x. Shows new q (one inner) (drop m x) (drop m slots)) lists.front rear_now)) in
    let front_kind : Shows new p (kind_of d) (take (m - kind_of d) keys) (take m slots) = subst (λ x. Shows new p x (take (m - x) keys) (take m slots)) kind halves.front in
    let front_tree : Shows new p (kind_of d) (take (m - kind_of d) (keys_in d t)) (take m (slots_in d t)) = subst (λ x. Shows new p (kind_of d) (take (m - kind_of d) (keys_in d t)) (take m x)) lists.back (subst (λ x. Shows new p (kind_of d) (take (m - kind_of d) x) (take m slots)) lists.front front_kind) in
    let parts : key ≡ get_or (keys_in d t) (m - kind_of d) 0 = halves.parts ∙ ap (λ x. get_or keys (m - x) 0) kind ∙ ap (λ x. get_or x (m - kind_of d) 0) lists.front in
    twins new low high key d m q t front_tree rear_tree loose o sized (omega arith) (omega arith) (omega arith) (omega arith) parts

-- the root is written as two
pub parted : (old mid first new free rest : List ℕ) (es : List (ℕ × ℕ)) (low high d q key : ℕ) (t : Tree d) (inner : Bool) (keys slots : List ℕ) → (h : InHand old mid free es low high d t inner keys slots)
    → Takes q mid first h.next rest → Halves first new (piece_of d t) q (one inner) key keys slots → 32 ≤ length keys → length keys ≤ 46 → (p : Parted old new free es low high d t) × (key ≡ p.key) × (q ≡ piece_of d p.right)
parted old mid first new free rest es low high d q key t inner keys slots h takes halves many few =
    let p : ℕ = piece_of d t in
    let m : ℕ = half slots in
    let p_was : 1 ≤ handed mid h.next p = subst (λ x. 1 ≤ handed mid h.next x) h.is (hand-out old mid free es low high d t inner keys slots h) in
    let apart : q ≢ p = λ e. absurd (let z : handed mid h.next p ≡ 0 = subst (λ x. handed mid h.next x ≡ 0) e takes.was in omega arith) in
    let q_out : 1 ≤ handed first rest q = omega (arith, takes.now q, one-same q) in
    let k = heap-kept first halves.mid rest q takes.heap q_out halves.second in
    let p_out : 1 ≤ handed halves.mid rest p = omega (arith, takes.now p, k.1 p) in
    let n = heap-kept halves.mid new rest p k.0 p_out halves.first in
    let now : (x : ℕ) → handed new rest x ≡ handed mid h.next x + one (eqb x q) = λ x. omega (arith, takes.now x, k.1 x, n.1 x) in
    let long : length new ≡ length mid = halves.first.long ∙ halves.second.long ∙ takes.touches.long in
    let kept : (x i : ℕ) → i < 64 → 1 ≤ handed mid h.next x → x ≢ p → get_or new (at x i) 0 ≡ get_or mid (at x i) 0 = λ x i lt some ne.
    let other : x ≢ q = λ e. absurd (let z : handed mid h.next x ≡ 0 = subst (λ y. handed mid h.next y ≡ 0) (sym e) takes.was in omega arith) in
    other-piece halves.mid new p x i lt (λ e. absurd (ne e)) halves.first ∙ other-piece first halves.mid q x i lt (λ e. absurd (other e)) halves.second ∙ takes.touches.others (at x i) (omega arith) (omega arith) (omega arith) in
    let loose = loose-kept mid new h.next low high d h.tree h.heap long h.loose h.ordered h.kids h.owned (λ x i lt some ne. kept x i lt (omega (arith, h.owned x)) (λ e. ne (e ∙ sym h.is))) in
    let within : at q 63 < length new = omega (arith, (owned-within first rest q takes.heap q_out).0, halves.first.long, halves.second.long) in
    let w = halves-twins first new low high d q key h.tree inner keys slots h.lists (subst (λ x. Halves first new x q (one inner) key keys slots) (sym h.is) halves) (λ e. apart (e ∙ h.is)) within loose h.ordered h.kids many few in
    let used : (x : ℕ) → uses d (fore d m h.tree) x + uses d (hind d m q h.tree) x ≡ uses d h.tree x + one (eqb x q) = λ x. halves-uses d m q x h.tree in (
      record {
        next = rest;
        heap = n.0;
        left = fore d m h.tree;
        right = hind d m q h.tree;
        key = key;
        above = w.above;
        below = w.below;
        is = fore-piece d m h.tree ∙ h.is;
        front = record { holds = w.front; ordered = w.front_ordered; sized = w.front_sized; owned = λ x. omega (arith, h.owned x, now x, used x) };
        rear = record { holds = w.rear; ordered = w.rear_ordered; sized = w.rear_sized; owned = λ x. omega (arith, h.owned x, now x, used x) };
        pairs = halves-pairs d m q h.tree ∙ h.pairs;
        share = λ x. omega (arith, h.share x, now x, used x);
        spares = omega (arith, h.spares, takes.spares, k.2, n.2);
        elsewhere = record {
          long = long ∙ h.elsewhere.long;
          first = λ a lt n1 n2. halves.first.before a (omega arith) ∙ halves.second.before a (omega arith) ∙ takes.touches.others a n1 n2 (omega arith) ∙ h.elsewhere.first a lt n1 n2;
          others = λ x i lt out none.
              let here : 1 ≤ handed mid h.next x = omega (arith, h.share x) in
              let ne : x ≢ p = λ e. absurd (let z : uses d t p ≡ 0 = subst (λ y. uses d t y ≡ 0) e none in omega (arith, uses-root d t)) in
              kept x i lt here ne ∙ h.elsewhere.others x i lt out none;
        };
      },
      refl,
      sym (hind-piece d m q h.tree),
    )

-- the root is written back
pub saved-outcome : (old mid new free : List ℕ) (es : List (ℕ × ℕ)) (root : Bool) (low high d p : ℕ) (t : Tree d) (inner : Bool) (keys slots : List ℕ) (r : Option (ℕ × ℕ)) → (h : InHand old mid free es low high d t inner keys slots)
    → p ≡ piece_of d t → fewest root d ≤ width d h.tree → length keys ≤ 46 → Saved mid h.next p inner keys slots (Ok r) new → Outcome old new free es root low high d t r
saved-outcome old mid new free es root low high d p t inner keys slots None h is enough few s =
    settled old mid new free es root low high d t inner keys slots h enough s.0 (subst (λ x. Shows new x (one inner) keys slots) is s.1) (subst (λ x. OnlyPiece x mid new) is s.2)
saved-outcome old mid new free es root low high d p t inner keys slots (Some s) h is enough few w =
    parted old mid w.0 new free w.1 es low high d s.1 s.0 t inner keys slots h w.3 (subst (λ x. Halves w.0 new x s.1 (one inner) s.0 keys slots) is w.4) w.2 few

-- nothing is said of a node whose writing failed
pub saved-failed : (old free new : List ℕ) (p : ℕ) (inner : Bool) (keys slots : List ℕ) (r : Result (Option (ℕ × ℕ)) Trouble) (Q : Trouble → Type 0) → IsErrAnd r Q → Saved old free p inner keys slots r new
saved-failed old free new p inner keys slots (Ok x) Q h = absurd h
saved-failed old free new p inner keys slots (Err e) Q h = tt

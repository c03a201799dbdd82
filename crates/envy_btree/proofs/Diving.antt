-- A removal at an inner node: what goes on at the child and comes back.
use Rattle.std.proofs.Common.{◌≡◌, ◌≢◌, ◌⊎◌, ℕ, zero, suc, ◌+◌, ◌-◌, ◌^◌, ◌<◌, ◌≤◌, Bool, true, false, List, ◌++◌, length, map, take, drop, get_or, set, refl, ap, sym, subst, ◌∙◌, inl, inr, IfOk, IfSome, Option, None, Some, Result, Ok, Err, arith}
use Rattle.std.specs.List.{flat_map}
use Rattle.std.proofs.lemmas.List.{length-map, length-set, set-get_or, get_or-map, get_or-set_same, get_or-set_other}
use Rattle.std.proofs.lemmas.List.Edits.{length-remove}
use Rattle.std.proofs.lemmas.List.Sums.{get_or-le-sum_by}
use Rattle.std.proofs.lemmas.List.Elements.{All-get_or}
use Rattle.envy_base.specs.declared.board.Trouble.{Trouble}
use Rattle.envy_array.specs.Words.{Sheet, Works}
use Rattle.envy_array.proofs.Working.{Works-trans, Works-more}
use Rattle.envy_heap.specs.Pieces.{IsHeap, handed, spare, one}
use Rattle.envy_btree.specs.declared.node.Node.{Node}
use Rattle.envy_btree.specs.Pairs.{assoc, without}
use Rattle.envy_btree.specs.Tree.{Tree, Ordered, Rising, Sized, Holds, Shows, uses, piece_of, pairs_of, keys_of, values_of, fewest}
use Rattle.envy_btree.specs.Nodes.{Ranks, IsRead, width, is_inner, kind_of, keys_in, slots_in, IsNode}
use Rattle.envy_btree.specs.Index.{Stands}
use Rattle.envy_btree.specs.Changes.{Rests, InHand, Pair, Beside, Mended, joined_keys}
use Rattle.envy_btree.specs.Shrinking.{Back, MendedBack, Short, Shrinks}
use Rattle.envy_btree.proofs.Trees.{low_of, high_of, Fans-long, Fans-at, Fans-before, Fans-after, Ordered-within}
use Rattle.envy_btree.proofs.Descent.{bare, read-shows, around, assoc-mid, Rests-within}
use Rattle.envy_btree.proofs.Framing.{sister, parent, handed-le, pieces-same}
use Rattle.envy_btree.proofs.Halving.{keys-long, slots-long, one-kind}
use Rattle.envy_btree.proofs.Holding.{leaf-hand}
use Rattle.envy_btree.proofs.Joining.{joined, joined-keys, joined-slots, Rising-without, without-long, without-short}
use Rattle.envy_btree.proofs.Spreading.{without-local, inner-became, spread}
use Rattle.envy_btree.proofs.Families.{Couple, joint, family}
use Rattle.envy_btree.proofs.Lessening.{Above, couple, above-hand, back-shrinks, beside-of}

fewest-two : (root : Bool) (d : ℕ) → 2 ≤ fewest root (suc d)
fewest-two true d = omega arith
fewest-two false d = omega arith

-- the pieces of two children
pair-of : (mid next : List ℕ) (low high d j p : ℕ) (ks : List ℕ) (cs : List (Tree d)) → Couple mid next low high d j p ks cs → Pair mid (get_or (map (piece_of d) cs) j 0) (get_or (map (piece_of d) cs) (j + 1) 0)
pair-of mid next low high d j p ks cs k =
    let t = joint mid next low high d j p ks cs k in
    let later : suc j < length cs = t.later in
    let f_is : piece_of d (get_or cs j (bare d)) ≡ get_or (map (piece_of d) cs) j 0 = sym (get_or-map (piece_of d) cs j (bare d) 0 (omega arith)) in
    let next_is : suc j ≡ j + 1 = omega arith in
    let s_is : piece_of d (get_or cs (suc j) (bare d)) ≡ get_or (map (piece_of d) cs) (j + 1) 0 = sym (get_or-map (piece_of d) cs (suc j) (bare d) 0 later) ∙ ap (λ x. get_or (map (piece_of d) cs) x 0) next_is in
    let first : handed mid next (piece_of d (get_or cs j (bare d))) ≡ 1 = omega (arith, t.first_out, handed-le mid next (piece_of d (get_or cs j (bare d)))) in
    let second : handed mid next (piece_of d (get_or cs (suc j) (bare d))) ≡ 1 = omega (arith, t.second_out, handed-le mid next (piece_of d (get_or cs (suc j) (bare d)))) in
    record {
      free = next;
      heap = k.heap;
      first = subst (λ x. handed mid next x ≡ 1) f_is first;
      second = subst (λ x. handed mid next x ≡ 1) s_is second;
      apart = λ e. t.apart (f_is ∙ e ∙ sym s_is);
    }

mended-few : (old new free : List ℕ) (j : ℕ) (keys slots : List ℕ) (inner : Bool) (jk js after after_slots : List ℕ) → j < length keys → length keys ≤ 31 → Mended old new free j keys slots inner jk js after after_slots → length after ≤ 31
mended-few old new free j keys slots inner jk js after after_slots lt few (inl e) = omega (arith, ap length e.front, length-remove keys j lt)
mended-few old new free j keys slots inner jk js after after_slots lt few (inr e) = omega (arith, ap length e.front, length-set keys j e.key)

-- the node above a short child that was settled with a neighbour
done-at : (ws mid new : List ℕ) (p level key i j d : ℕ) (t : Tree (suc d)) (free next : List ℕ) (root : Bool) (low high : ℕ) (heap : IsHeap ws free) (few : suc d ≤ level) (is : t.piece ≡ p) (s : Stands ws free root low high (suc d) t) (c : Tree d) (inner : Bool) (jk js : List ℕ) (r : Option Node)
    → Ranks key t.keys i → (a : Above ws mid free next root low high d i t c) → j < length t.keys → (i ≡ j) ⊎ (i ≡ suc j) → spare ws free ≤ spare mid next + d → pairs_of d c ≡ without key (pairs_of d (get_or t.kids i (bare d)))
    → IsNode d (joined d (get_or t.keys j 0) (get_or (set t.kids i c) j (bare d)) (get_or (set t.kids i c) (suc j) (bare d))) inner jk js → MendedBack mid new next p j t.keys (map (piece_of d) t.kids) inner jk js r
    → Shrinks ws new p level key (record { free = free; heap = heap; root = root; low = low; high = high; depth = suc d; tree = t; few = few; is = is; stands = s }) r
done-at ws mid new p level key i j d t free next root low high heap few is s c inner jk js r rank a lt side spares pairs node m =
    let rests : Rests ws p level = record { free = free; heap = heap; root = root; low = low; high = high; depth = suc d; tree = t; few = few; is = is; stands = s } in
    let k = couple ws mid free next root low high d i j t c a lt side in
    let mended = subst (λ x. Mended mid m.mid next j t.keys x inner jk js m.after m.after_slots) (sym (pieces-same d t.kids i c a.is)) m.mended in
    let f = family mid m.mid next low high d j t.piece t.keys (set t.kids i c) inner jk js m.after m.after_slots k node mended in
    let whole = ap (λ x. flat_map (pairs_of d) (take i t.kids) ++ (x ++ flat_map (pairs_of d) (drop (suc i) t.kids))) pairs ∙ spread (without key) key i low high d t (without-local key) s.ordered rank in
    let h = above-hand (without key) ws mid m.mid free next root low high d i t c m.after m.after_slots a spares whole f in
    let long : length t.kids ≡ length t.keys + 1 = Fans-long (Ordered d) low high t.keys t.kids s.ordered in
    back-shrinks ws m.mid new p level key rests true m.after m.after_slots r h.0 (mended-few mid m.mid next j t.keys (map (piece_of d) t.kids) inner jk js m.after m.after_slots lt (omega (arith, s.sized.1)) m.mended) (omega (arith, h.1, s.sized.0)) m.back

-- what was said of the child, by its words, its piece and its answer as they were found
pub child-told : (old now mid : List ℕ) (p q below key : ℕ) (x r : Option Node) (t : Rests old q below) → now ≡ old → p ≡ q → x ≡ r → ((h : Rests now p below) → Shrinks now mid p below key h x) → Shrinks old mid q below key t r
child-told old now mid p q below key x r t same at is said =
    let a = subst (λ w. (h : Rests w p below) → Shrinks w mid p below key h x) same said in
    let b = subst (λ n. (h : Rests old n below) → Shrinks old mid n below key h x) at a in
    subst (λ o. Shrinks old mid q below key t o) is (b t)

-- what goes on at the child, and comes back from it
pub record Dives (ws : List ℕ) (p level key i : ℕ) (ks ss : List ℕ) (t : Rests ws p level) : Type 0 where
  pub lower : 1 ≤ level
  pub few : length ks ≤ 31
  pub some : 1 ≤ length ks
  pub long : length ss ≡ length ks + 1
  pub place : i ≤ length ks
  pub child : Rests ws (get_or ss i 0) (level - 1)
  pub deeper : t.depth ≡ child.depth + 1
  pub looks : assoc key (pairs_of t.depth t.tree) ≡ assoc key (pairs_of child.depth child.tree)
  pub same : (new : List ℕ) → Shrinks ws new (get_or ss i 0) (level - 1) key child None → Shrinks ws new p level key t None
  pub stays : (mid : List ℕ) (n : Node) → Shrinks ws mid (get_or ss i 0) (level - 1) key child (Some n) → Shows mid p 1 ks ss
  pub sizes : (mid : List ℕ) (n : Node) → Shrinks ws mid (get_or ss i 0) (level - 1) key child (Some n) → (length n.keys.items ≤ 14) × (length n.slots.items ≡ length n.keys.items + one n.inner)
  pub front : (mid : List ℕ) (n : Node) (j : ℕ) → i ≡ suc j → Shrinks ws mid (get_or ss i 0) (level - 1) key child (Some n) → Pair mid (get_or ss j 0) (get_or ss (j + 1) 0) × Beside mid (get_or ss j 0) n.inner
  pub rear : (mid : List ℕ) (n : Node) (j : ℕ) → i ≡ j → j < length ks → Shrinks ws mid (get_or ss i 0) (level - 1) key child (Some n) → Pair mid (get_or ss j 0) (get_or ss (j + 1) 0) × Beside mid (get_or ss (j + 1) 0) n.inner
  pub front_done : (mid new : List ℕ) (n : Node) (j : ℕ) (r : Option Node) → i ≡ suc j → Shrinks ws mid (get_or ss i 0) (level - 1) key child (Some n)
      → ((free : List ℕ) → IsHeap mid free → (b : Beside mid (get_or ss j 0) n.inner) → MendedBack mid new free p j ks ss n.inner (joined_keys n.inner b.keys (get_or ks j 0) n.keys.items) (b.slots ++ n.slots.items) r) → Shrinks ws new p level key t r
  pub rear_done : (mid new : List ℕ) (n : Node) (j : ℕ) (r : Option Node) → i ≡ j → j < length ks → Shrinks ws mid (get_or ss i 0) (level - 1) key child (Some n)
      → ((free : List ℕ) → IsHeap mid free → (b : Beside mid (get_or ss (j + 1) 0) n.inner) → MendedBack mid new free p j ks ss n.inner (joined_keys n.inner n.keys.items (get_or ks j 0) b.keys) (n.slots.items ++ b.slots) r) → Shrinks ws new p level key t r

-- a short child is in hand above its node
above-of : (ws mid : List ℕ) (key i d : ℕ) (t : Tree (suc d)) (free : List ℕ) (root : Bool) (low high : ℕ) (inner : Bool) (keys slots : List ℕ) → IsHeap ws free → Stands ws free root low high (suc d) t → i < length t.kids
    → (h : InHand ws mid free (without key (pairs_of d (get_or t.kids i (bare d)))) (low_of low t.keys i) (high_of high t.keys i) d (get_or t.kids i (bare d)) inner keys slots) → length keys ≤ 14 → fewest false d ≤ width d h.tree + 1 → Above ws mid free h.next root low high d i t h.tree
above-of ws mid key i d t free root low high inner keys slots heap s li h few least = record {
  heap = heap;
  stands = s;
  place = li;
  mid_heap = h.heap;
  is = h.is;
  loose = h.loose;
  ordered = h.ordered;
  kids = h.kids;
  share = h.share;
  elsewhere = h.elsewhere;
  least = least;
  most = omega (arith, keys-long (low_of low t.keys i) (high_of high t.keys i) d h.tree h.ordered, ap length h.lists.front);
}

-- a key is under the child where it belongs
kid-looks : (key i low high d : ℕ) (t : Tree (suc d)) → Ordered (suc d) low high t → Ranks key t.keys i → assoc key (pairs_of (suc d) t) ≡ assoc key (pairs_of d (get_or t.kids i (bare d)))
kid-looks key i low high d t o r =
    let long = Fans-long (Ordered d) low high t.keys t.kids o in
    let lt : i < length t.kids = omega (arith, r.within) in
    let c = get_or t.kids i (bare d) in
    let split = sym (ap (flat_map (pairs_of d)) (set-get_or t.kids i (bare d))) ∙ around (pairs_of d) t.kids i c lt in
    let before = Fans-before (Ordered d) (pairs_of d) (Ordered-within d) key low high t.keys t.kids i r o in
    let after = Fans-after (Ordered d) (pairs_of d) (Ordered-within d) key low high t.keys t.kids i r o in
    ap (assoc key) split ∙ assoc-mid key (flat_map (pairs_of d) (take i t.kids)) (pairs_of d c) (flat_map (pairs_of d) (drop (suc i) t.kids)) before after

dives-inner : (ws : List ℕ) (p level key i d : ℕ) (t : Tree (suc d)) (free : List ℕ) (root : Bool) (low high : ℕ) (heap : IsHeap ws free) (few : suc d ≤ level) (is : t.piece ≡ p) (s : Stands ws free root low high (suc d) t) → Ranks key t.keys i
    → Dives ws p level key i t.keys (map (piece_of d) t.kids) (record { free = free; heap = heap; root = root; low = low; high = high; depth = suc d; tree = t; few = few; is = is; stands = s })
dives-inner ws p level key i d t free root low high heap few is s rank =
    let long = Fans-long (Ordered d) low high t.keys t.kids s.ordered in
    let li : i < length t.kids = omega (arith, rank.within) in
    let c = get_or t.kids i (bare d) in
    let kids = length-map t.kids (piece_of d) in
    let child : Rests ws (get_or (map (piece_of d) t.kids) i 0) (level - 1) = record {
      free = free;
      heap = heap;
      root = false;
      low = low_of low t.keys i;
      high = high_of high t.keys i;
      depth = d;
      tree = c;
      few = omega (arith, few);
      is = sym (get_or-map (piece_of d) t.kids i (bare d) 0 li);
      stands = record {
        holds = All-get_or (Holds ws d) t.kids i (bare d) li s.holds.1;
        ordered = Fans-at (Ordered d) low high t.keys t.kids i (bare d) rank.within s.ordered;
        sized = All-get_or (Sized false d) t.kids i (bare d) li s.sized.2;
        owned = λ q. omega (arith, s.owned q, get_or-le-sum_by (λ x. uses d x q) t.kids i (bare d) li);
      };
    } in
    let around_at : (mid : List ℕ) (n : Node) → Short ws mid (get_or (map (piece_of d) t.kids) i 0) (level - 1) key child n.inner n.keys.items n.slots.items → (k : ℕ) → k < length t.kids → k ≢ i
    → (b : Beside mid (piece_of d (get_or t.kids k (bare d))) n.inner) × (b.keys ≡ keys_in d (get_or t.kids k (bare d))) × (b.slots ≡ slots_in d (get_or t.kids k (bare d))) = λ mid n h k lk ne.
    beside-of mid (low_of low t.keys k) (high_of high t.keys k) d (get_or t.kids k (bare d)) n.inner h.hand.lists.kind (sister ws mid free root low high d i k t heap s li lk ne h.hand.elsewhere) (Fans-at (Ordered d) low high t.keys t.kids k (bare d) (omega arith) s.ordered) (All-get_or (Sized false d) t.kids k (bare d) lk s.sized.2) in
    let next_is : (j : ℕ) → j + 1 ≡ suc j = λ j. omega arith in
    record {
      lower = omega (arith, few);
      few = omega (arith, s.sized.1);
      some = omega (arith, s.sized.0, fewest-two root d);
      long = omega arith;
      place = rank.within;
      child = child;
      deeper = omega arith;
      looks = kid-looks key i low high d t s.ordered rank;
      same = λ new b. inner-became (without key) ws new free key i root low high d t (without-local key) heap s rank b;
      stays = λ mid n h. subst (λ x. Shows mid x 1 t.keys (map (piece_of d) t.kids)) is (parent ws mid free root low high d i t heap s li h.hand.elsewhere);
      sizes = λ mid n h. (h.few, ap length h.hand.lists.back ∙ slots-long d h.hand.tree ∙ sym (keys-long (low_of low t.keys i) (high_of high t.keys i) d h.hand.tree h.hand.ordered) ∙ ap (λ x. length x + kind_of d) (sym h.hand.lists.front) ∙ ap (λ x. length n.keys.items + x) (sym (one-kind d) ∙ ap one (sym h.hand.lists.kind)));
      front = λ mid n j e h.
          let a = above-of ws mid key i d t free root low high n.inner n.keys.items n.slots.items heap s li h.hand h.few h.least in
          let lt : j < length t.keys = omega (arith, rank.within) in
          let k = couple ws mid free h.hand.next root low high d i j t h.hand.tree a lt (inr e) in (
            subst (λ x. Pair mid (get_or x j 0) (get_or x (j + 1) 0)) (pieces-same d t.kids i h.hand.tree h.hand.is) (pair-of mid h.hand.next low high d j t.piece t.keys (set t.kids i h.hand.tree) k),
            subst (λ x. Beside mid x n.inner) (sym (get_or-map (piece_of d) t.kids j (bare d) 0 (omega arith))) (around_at mid n h j (omega arith) (omega arith)).0,
          );
      rear = λ mid n j e lt h.
          let a = above-of ws mid key i d t free root low high n.inner n.keys.items n.slots.items heap s li h.hand h.few h.least in
          let k = couple ws mid free h.hand.next root low high d i j t h.hand.tree a lt (inl e) in (
            subst (λ x. Pair mid (get_or x j 0) (get_or x (j + 1) 0)) (pieces-same d t.kids i h.hand.tree h.hand.is) (pair-of mid h.hand.next low high d j t.piece t.keys (set t.kids i h.hand.tree) k),
            subst (λ x. Beside mid x n.inner) (sym (ap (λ x. get_or (map (piece_of d) t.kids) x 0) (next_is j) ∙ get_or-map (piece_of d) t.kids (suc j) (bare d) 0 (omega arith))) (around_at mid n h (suc j) (omega arith) (omega arith)).0,
          );
      front_done = λ mid new n j r e h made.
          let a = above-of ws mid key i d t free root low high n.inner n.keys.items n.slots.items heap s li h.hand h.few h.least in
          let lt : j < length t.keys = omega (arith, rank.within) in
          let cs = set t.kids i h.hand.tree in
          let b = around_at mid n h j (omega arith) (omega arith) in
          let made_at = subst (λ x. (free : List ℕ) → IsHeap mid free → (b : Beside mid x n.inner) → MendedBack mid new free p j t.keys (map (piece_of d) t.kids) n.inner (joined_keys n.inner b.keys (get_or t.keys j 0) n.keys.items) (b.slots ++ n.slots.items) r) (get_or-map (piece_of d) t.kids j (bare d) 0 (omega arith)) made in
          let here : h.hand.tree ≡ get_or cs (suc j) (bare d) = sym (ap (λ x. get_or cs x (bare d)) (sym e) ∙ get_or-set_same t.kids i h.hand.tree (bare d) li) in
          let there : get_or t.kids j (bare d) ≡ get_or cs j (bare d) = sym (get_or-set_other t.kids i j h.hand.tree (bare d) (omega arith)) in
          let keys : joined_keys n.inner b.0.keys (get_or t.keys j 0) n.keys.items ≡ keys_in d (joined d (get_or t.keys j 0) (get_or cs j (bare d)) (get_or cs (suc j) (bare d))) =
          ap (λ x. joined_keys x b.0.keys (get_or t.keys j 0) n.keys.items) h.hand.lists.kind ∙ ap (λ x. joined_keys (is_inner d) x (get_or t.keys j 0) n.keys.items) (b.1 ∙ ap (keys_in d) there) ∙ ap (λ x. joined_keys (is_inner d) (keys_in d (get_or cs j (bare d))) (get_or t.keys j 0) x) (h.hand.lists.front ∙ ap (keys_in d) here) ∙ joined-keys d (get_or t.keys j 0) (get_or cs j (bare d)) (get_or cs (suc j) (bare d)) in
          let slots : b.0.slots ++ n.slots.items ≡ slots_in d (joined d (get_or t.keys j 0) (get_or cs j (bare d)) (get_or cs (suc j) (bare d))) =
          ap (λ x. x ++ n.slots.items) (b.2 ∙ ap (slots_in d) there) ∙ ap (λ x. slots_in d (get_or cs j (bare d)) ++ x) (h.hand.lists.back ∙ ap (slots_in d) here) ∙ joined-slots d (get_or t.keys j 0) (get_or cs j (bare d)) (get_or cs (suc j) (bare d)) in
          done-at ws mid new p level key i j d t free h.hand.next root low high heap few is s h.hand.tree n.inner (joined_keys n.inner b.0.keys (get_or t.keys j 0) n.keys.items) (b.0.slots ++ n.slots.items) r rank a lt (inr e) h.hand.spares h.hand.pairs (record { kind = h.hand.lists.kind; front = keys; back = slots }) (made_at h.hand.next h.hand.heap b.0);
      rear_done = λ mid new n j r e lt h made.
          let a = above-of ws mid key i d t free root low high n.inner n.keys.items n.slots.items heap s li h.hand h.few h.least in
          let cs = set t.kids i h.hand.tree in
          let b = around_at mid n h (suc j) (omega arith) (omega arith) in
          let made_at = subst (λ x. (free : List ℕ) → IsHeap mid free → (b : Beside mid x n.inner) → MendedBack mid new free p j t.keys (map (piece_of d) t.kids) n.inner (joined_keys n.inner n.keys.items (get_or t.keys j 0) b.keys) (n.slots.items ++ b.slots) r) (ap (λ x. get_or (map (piece_of d) t.kids) x 0) (next_is j) ∙ get_or-map (piece_of d) t.kids (suc j) (bare d) 0 (omega arith)) made in
          let here : h.hand.tree ≡ get_or cs j (bare d) = sym (ap (λ x. get_or cs x (bare d)) (sym e) ∙ get_or-set_same t.kids i h.hand.tree (bare d) li) in
          let there : get_or t.kids (suc j) (bare d) ≡ get_or cs (suc j) (bare d) = sym (get_or-set_other t.kids i (suc j) h.hand.tree (bare d) (omega arith)) in
          let keys : joined_keys n.inner n.keys.items (get_or t.keys j 0) b.0.keys ≡ keys_in d (joined d (get_or t.keys j 0) (get_or cs j (bare d)) (get_or cs (suc j) (bare d))) =
          ap (λ x. joined_keys x n.keys.items (get_or t.keys j 0) b.0.keys) h.hand.lists.kind ∙ ap (λ x. joined_keys (is_inner d) n.keys.items (get_or t.keys j 0) x) (b.1 ∙ ap (keys_in d) there) ∙ ap (λ x. joined_keys (is_inner d) x (get_or t.keys j 0) (keys_in d (get_or cs (suc j) (bare d)))) (h.hand.lists.front ∙ ap (keys_in d) here) ∙ joined-keys d (get_or t.keys j 0) (get_or cs j (bare d)) (get_or cs (suc j) (bare d)) in
          let slots : n.slots.items ++ b.0.slots ≡ slots_in d (joined d (get_or t.keys j 0) (get_or cs j (bare d)) (get_or cs (suc j) (bare d))) =
          ap (λ x. n.slots.items ++ x) (b.2 ∙ ap (slots_in d) there) ∙ ap (λ x. x ++ slots_in d (get_or cs (suc j) (bare d))) (h.hand.lists.back ∙ ap (slots_in d) here) ∙ joined-slots d (get_or t.keys j 0) (get_or cs j (bare d)) (get_or cs (suc j) (bare d)) in
          done-at ws mid new p level key i j d t free h.hand.next root low high heap few is s h.hand.tree n.inner (joined_keys n.inner n.keys.items (get_or t.keys j 0) b.0.keys) (n.slots.items ++ b.0.slots) r rank a lt (inl e) h.hand.spares h.hand.pairs (record { kind = h.hand.lists.kind; front = keys; back = slots }) (made_at h.hand.next h.hand.heap b.0);
    }

dives-at : (ws : List ℕ) (p level key i d : ℕ) (t : Tree d) (free : List ℕ) (root : Bool) (low high : ℕ) (ks ss : List ℕ) (heap : IsHeap ws free) (few : d ≤ level) (is : piece_of d t ≡ p) (s : Stands ws free root low high d t) → IsRead ws p true ks ss → Ranks key ks i
    → Dives ws p level key i ks ss (record { free = free; heap = heap; root = root; low = low; high = high; depth = d; tree = t; few = few; is = is; stands = s })
dives-at ws p level key i zero t free root low high ks ss heap few is s read r =
    let e = read-shows ws t.piece 0 (keys_of t.pairs) (values_of t.pairs) ks ss true s.holds (omega arith) (omega (arith, length-map t.pairs (λ (e : ℕ × ℕ). e.0), length-map t.pairs (λ (e : ℕ × ℕ). e.1))) (subst (λ x. IsRead ws x true ks ss) (sym is) read) in
    absurd (let no : true ≡ false = e.2 in cc)
dives-at ws p level key i (suc d) t free root low high ks ss heap few is s read r =
    let e = read-shows ws t.piece 1 t.keys (map (piece_of d) t.kids) ks ss true s.holds.0 (omega arith) (omega (arith, length-map t.kids (piece_of d), Fans-long (Ordered d) low high t.keys t.kids s.ordered)) (subst (λ x. IsRead ws x true ks ss) (sym is) read) in
    let rank : Ranks key t.keys i = subst (λ x. Ranks key x i) e.0 r in
    let t' : Rests ws p level = record { free = free; heap = heap; root = root; low = low; high = high; depth = suc d; tree = t; few = few; is = is; stands = s } in
    subst (λ x. Dives ws p level key i x ss t') (sym e.0) (subst (λ x. Dives ws p level key i t.keys x t') (sym e.1) (dives-inner ws p level key i d t free root low high heap few is s rank))

pub Rests-dives : (ws : List ℕ) (p level key i : ℕ) (ks xs ss : List ℕ) (inner : Bool) (t : Rests ws p level) → IsRead ws p inner ks ss → inner ≡ true → xs ≡ ks → Ranks key xs i → Dives ws p level key i ks ss t
Rests-dives ws p level key i ks xs ss inner t read yes_inner e r =
    dives-at ws p level key i t.depth t.tree t.free t.root t.low t.high ks ss t.heap t.few t.is t.stands (subst (λ b. IsRead ws p b ks ss) yes_inner read) (subst (λ x. Ranks key x i) e r)

-- the way's end
pub record Lands (ws : List ℕ) (p level key : ℕ) (ks ss : List ℕ) (t : Rests ws p level) : Type 0 where
  pub flat : t.depth ≡ 0
  pub few : length ks ≤ 31
  pub long : length ss ≡ length ks
  pub done : (new : List ℕ) (r : Option Node) → ((low high : ℕ) (es : List (ℕ × ℕ)) → Rising low high es → ks ≡ keys_of es → ss ≡ values_of es → Back ws new p false (keys_of (without key es)) (values_of (without key es)) r) → Shrinks ws new p level key t r

lands-at : (ws : List ℕ) (p level key d : ℕ) (t : Tree d) (free : List ℕ) (root : Bool) (low high : ℕ) (ks ss : List ℕ) (heap : IsHeap ws free) (few : d ≤ level) (is : piece_of d t ≡ p) (s : Stands ws free root low high d t) → IsRead ws p false ks ss
    → Lands ws p level key ks ss (record { free = free; heap = heap; root = root; low = low; high = high; depth = d; tree = t; few = few; is = is; stands = s })
lands-at ws p level key zero t free root low high ks ss heap few is s read =
    let e = read-shows ws t.piece 0 (keys_of t.pairs) (values_of t.pairs) ks ss false s.holds (omega arith) (omega (arith, length-map t.pairs (λ (e : ℕ × ℕ). e.0), length-map t.pairs (λ (e : ℕ × ℕ). e.1))) (subst (λ x. IsRead ws x false ks ss) (sym is) read) in
    let es = without key t.pairs in
    let rests : Rests ws p level = record { free = free; heap = heap; root = root; low = low; high = high; depth = zero; tree = t; few = few; is = is; stands = s } in
    let h = leaf-hand ws free es root low high t (keys_of es) (values_of es) heap s (Rising-without low high key t.pairs s.ordered) refl refl in
    let wider : width 0 h.tree ≡ length es = sym (slots-long 0 h.tree) ∙ sym (ap length h.lists.back) ∙ length-map es (λ (e : ℕ × ℕ). e.1) in
    record {
      flat = refl;
      few = omega (arith, ap length e.0, length-map t.pairs (λ (e : ℕ × ℕ). e.0), s.sized.1);
      long = omega (arith, ap length e.0, ap length e.1, length-map t.pairs (λ (e : ℕ × ℕ). e.0), length-map t.pairs (λ (e : ℕ × ℕ). e.1));
      done = λ new r w. back-shrinks ws ws new p level key rests false (keys_of es) (values_of es) r h (omega (arith, length-map es (λ (e : ℕ × ℕ). e.0), without-short key t.pairs, s.sized.1)) (omega (arith, wider, without-long key t.pairs, s.sized.0)) (w low high t.pairs s.ordered e.0 e.1);
    }
lands-at ws p level key (suc d) t free root low high ks ss heap few is s read =
    let e = read-shows ws t.piece 1 t.keys (map (piece_of d) t.kids) ks ss false s.holds.0 (omega arith) (omega (arith, length-map t.kids (piece_of d), Fans-long (Ordered d) low high t.keys t.kids s.ordered)) (subst (λ x. IsRead ws x false ks ss) (sym is) read) in
    absurd (let no : false ≡ true = e.2 in cc)

pub Rests-lands : (ws : List ℕ) (p level key : ℕ) (ks ss : List ℕ) (inner : Bool) (t : Rests ws p level) → IsRead ws p inner ks ss → inner ≡ false → Lands ws p level key ks ss t
Rests-lands ws p level key ks ss inner t read no_inner =
    lands-at ws p level key t.depth t.tree t.free t.root t.low t.high ks ss t.heap t.few t.is t.stands (subst (λ b. IsRead ws p b ks ss) no_inner read)

-- the same, of results that the functions have at hand
pub leaf-shrinks : (ws new : List ℕ) (p level key : ℕ) (ks ss : List ℕ) (t : Rests ws p level) (r : Result (Option Node) Trouble) → Lands ws p level key ks ss t
    → ((low high : ℕ) (es : List (ℕ × ℕ)) → Rising low high es → ks ≡ keys_of es → ss ≡ values_of es → IfOk r (λ x. Back ws new p false (keys_of (without key es)) (values_of (without key es)) x)) → IfOk r (λ x. Shrinks ws new p level key t x)
leaf-shrinks ws new p level key ks ss t (Ok x) l w = l.done new x w
leaf-shrinks ws new p level key ks ss t (Err e) l w = tt

pub front-shrinks : (ws mid new : List ℕ) (p level key i j : ℕ) (ks ss : List ℕ) (t : Rests ws p level) (n : Node) (r : Result (Option Node) Trouble) → (h : Dives ws p level key i ks ss t) → i ≡ suc j → Shrinks ws mid (get_or ss i 0) (level - 1) key h.child (Some n)
    → ((free : List ℕ) → IsHeap mid free → (b : Beside mid (get_or ss j 0) n.inner) → IfOk r (λ x. MendedBack mid new free p j ks ss n.inner (joined_keys n.inner b.keys (get_or ks j 0) n.keys.items) (b.slots ++ n.slots.items) x)) → IfOk r (λ x. Shrinks ws new p level key t x)
front-shrinks ws mid new p level key i j ks ss t n (Ok x) h e s w = h.front_done mid new n j x e s w
front-shrinks ws mid new p level key i j ks ss t n (Err e) h _ s w = tt

pub rear-shrinks : (ws mid new : List ℕ) (p level key i j : ℕ) (ks ss : List ℕ) (t : Rests ws p level) (n : Node) (r : Result (Option Node) Trouble) → (h : Dives ws p level key i ks ss t) → i ≡ j → Shrinks ws mid (get_or ss i 0) (level - 1) key h.child (Some n)
    → ((free : List ℕ) → IsHeap mid free → (b : Beside mid (get_or ss (j + 1) 0) n.inner) → IfOk r (λ x. MendedBack mid new free p j ks ss n.inner (joined_keys n.inner n.keys.items (get_or ks j 0) b.keys) (n.slots.items ++ b.slots) x)) → j < length ks → IfOk r (λ x. Shrinks ws new p level key t x)
rear-shrinks ws mid new p level key i j ks ss t n (Ok x) h e s w lt = h.rear_done mid new n j x e lt s w
rear-shrinks ws mid new p level key i j ks ss t n (Err e) h _ s w lt = tt

pub dive-fits : (ws : List ℕ) (p level key i : ℕ) (ks ss : List ℕ) (t : Rests ws p level) → length ws < 2 ^ 32 → Dives ws p level key i ks ss t → get_or ss i 0 < 2 ^ 32
dive-fits ws p level key i ks ss t few s = omega (arith, (Rests-within ws (get_or ss i 0) (level - 1) s.child).0)

pub mended-back : (old mid new free : List ℕ) (p j : ℕ) (keys slots : List ℕ) (inner : Bool) (jk js after after_slots : List ℕ) (kind : Bool) (r : Result (Option Node) Trouble) → Mended old mid free j keys slots inner jk js after after_slots → kind ≡ true
    → IfOk r (λ x. Back mid new p kind after after_slots x) → IfOk r (λ x. MendedBack old new free p j keys slots inner jk js x)
mended-back old mid new free p j keys slots inner jk js after after_slots kind (Ok x) m e b = record { mid = mid; after = after; after_slots = after_slots; mended = m; back = subst (λ k. Back mid new p k after after_slots x) e b }
mended-back old mid new free p j keys slots inner jk js after after_slots kind (Err f) m e b = tt

-- a node that stays in hand costs no page of its own
pub hand-more : (k m n : ℕ) (a b c : Sheet) (r : Result (Option Node) Trouble) → Works k a b → k + m ≤ n → IfOk r (λ x. IfSome x (λ _. Works m b c)) → IfOk r (λ x. IfSome x (λ _. Works n a c))
hand-more k m n a b c (Ok None) w le h = tt
hand-more k m n a b c (Ok (Some x)) w le h = Works-more (k + m) n a c le (Works-trans k m a b c w h)
hand-more k m n a b c (Err e) w le h = tt

pub hand-as : (k : ℕ) (a b c : Sheet) (r : Result (Option Node) Trouble) → Works k a b → IfOk r (λ x. IfSome x (λ _. Works 0 b c)) → IfOk r (λ x. IfSome x (λ _. Works k a c))
hand-as k a b c r w h = hand-more k 0 k a b c r w (omega arith) h

-- A change of pairs about one key, under the child where the key belongs.
use Rattle.std.proofs.Common.{◌≡◌, ℕ, suc, ◌+◌, ◌<◌, Bool, true, false, List, ◌++◌, length, map, take, drop, get_or, set, refl, ap, sym, subst, ◌∙◌, arith}
use Rattle.std.specs.List.{flat_map, sum_by, insert}
use Rattle.std.proofs.lemmas.List.{length-set, set-get_or}
use Rattle.std.proofs.lemmas.List.Sums.{get_or-le-sum_by, sum_by-set, sum_by-insert}
use Rattle.std.proofs.lemmas.List.Elements.{All-set}
use Rattle.envy_heap.specs.Pieces.{IsHeap}
use Rattle.envy_btree.specs.Pairs.{with_pair, without, Below, Above}
use Rattle.envy_btree.specs.Tree.{Tree, Ordered, Sized, Holds, Shows, uses, piece_of, pairs_of}
use Rattle.envy_btree.specs.Nodes.{Ranks}
use Rattle.envy_btree.specs.Index.{Stands}
use Rattle.envy_btree.specs.Changes.{Became, Parted, InHand}
use Rattle.envy_btree.proofs.Maps.{with_pair-below, with_pair-above, without-below, without-above}
use Rattle.envy_btree.proofs.Trees.{Fans-long, Fans-set, Fans-insert, Fans-before, Fans-after, Ordered-within, low_of, high_of}
use Rattle.envy_btree.proofs.Descent.{bare, around}
use Rattle.envy_btree.proofs.Framing.{sister, parent, kids-hold, pieces-same, map-insert, All-insert, flat_map-insert}

-- the change leaves what stands before and after its key
pub record Local (F : List (ℕ × ℕ) → List (ℕ × ℕ)) (key : ℕ) : Type 0 where
  pub within : (ls ms bs : List (ℕ × ℕ)) → Below key ls → Above key bs → F (ls ++ (ms ++ bs)) ≡ ls ++ (F ms ++ bs)

pub with_pair-local : (key value : ℕ) → Local (with_pair key value) key
with_pair-local key value = record { within = λ ls ms bs b a. with_pair-below key value ls (ms ++ bs) b ∙ ap (λ x. ls ++ x) (with_pair-above key value ms bs a) }

pub without-local : (key : ℕ) → Local (without key) key
without-local key = record { within = λ ls ms bs b a. without-below key ls (ms ++ bs) b ∙ ap (λ x. ls ++ x) (without-above key ms bs a) }

pub spread : (F : List (ℕ × ℕ) → List (ℕ × ℕ)) (key i low high d : ℕ) (t : Tree (suc d)) → Local F key → Ordered (suc d) low high t → Ranks key t.keys i
    → flat_map (pairs_of d) (take i t.kids) ++ (F (pairs_of d (get_or t.kids i (bare d))) ++ flat_map (pairs_of d) (drop (suc i) t.kids)) ≡ F (flat_map (pairs_of d) t.kids)
spread F key i low high d t l o r =
    let long = Fans-long (Ordered d) low high t.keys t.kids o in
    let lt : i < length t.kids = omega (arith, r.within) in
    let c = get_or t.kids i (bare d) in
    let before = Fans-before (Ordered d) (pairs_of d) (Ordered-within d) key low high t.keys t.kids i r o in
    let after = Fans-after (Ordered d) (pairs_of d) (Ordered-within d) key low high t.keys t.kids i r o in
    let split = sym (ap (flat_map (pairs_of d)) (set-get_or t.kids i (bare d))) ∙ around (pairs_of d) t.kids i c lt in
    sym (l.within (flat_map (pairs_of d) (take i t.kids)) (pairs_of d c) (flat_map (pairs_of d) (drop (suc i) t.kids)) before after) ∙ ap F (sym split)

-- a child has become another with the same piece: so has the node above, whose words stay
pub inner-became : (F : List (ℕ × ℕ) → List (ℕ × ℕ)) (old new free : List ℕ) (key i : ℕ) (root : Bool) (low high d : ℕ) (t : Tree (suc d)) → Local F key → IsHeap old free → Stands old free root low high (suc d) t → Ranks key t.keys i
    → Became old new free (F (pairs_of d (get_or t.kids i (bare d)))) false (low_of low t.keys i) (high_of high t.keys i) d (get_or t.kids i (bare d))
    → Became old new free (F (flat_map (pairs_of d) t.kids)) root low high (suc d) t
inner-became F old new free key i root low high d t l heap s r b =
    let long = Fans-long (Ordered d) low high t.keys t.kids s.ordered in
    let lt : i < length t.kids = omega (arith, r.within) in
    let c = get_or t.kids i (bare d) in
    let front = flat_map (pairs_of d) (take i t.kids) in
    let rear = flat_map (pairs_of d) (drop (suc i) t.kids) in
    let total : (q : ℕ) → sum_by (λ x. uses d x q) (set t.kids i b.tree) + uses d c q ≡ sum_by (λ x. uses d x q) t.kids + uses d b.tree q = λ q. sum_by-set (λ x. uses d x q) t.kids i b.tree (bare d) lt in
    record {
      next = b.next;
      heap = b.heap;
      tree = record t { kids = set t.kids i b.tree };
      is = refl;
      stands = record {
        holds = (subst (λ x. Shows new t.piece 1 t.keys x) (sym (pieces-same d t.kids i b.tree b.is)) (parent old new free root low high d i t heap s lt b.elsewhere), kids-hold new d i t.kids b.tree lt b.stands.holds (λ j lj ne. sister old new free root low high d i j t heap s lt lj ne b.elsewhere));
        ordered = Fans-set (Ordered d) low high t.keys t.kids i b.tree r.within b.stands.ordered s.ordered;
        sized = (omega (arith, length-set t.kids i b.tree, s.sized.0), omega (arith, length-set t.kids i b.tree, s.sized.1), All-set (Sized false d) t.kids i b.tree b.stands.sized s.sized.2);
        owned = λ q. omega (arith, s.owned q, b.share q, total q);
      };
      pairs = around (pairs_of d) t.kids i b.tree lt ∙ ap (λ x. front ++ (x ++ rear)) b.pairs ∙ spread F key i low high d t l s.ordered r;
      share = λ q. omega (arith, b.share q, total q);
      spares = omega (arith, b.spares);
      elsewhere = record { long = b.elsewhere.long; first = b.elsewhere.first; others = λ q j lj out none. b.elsewhere.others q j lj out (omega (arith, get_or-le-sum_by (λ x. uses d x q) t.kids i (bare d) lt)) };
    }

-- a child has parted: the node above is to have a child more
pub grown-hand : (F : List (ℕ × ℕ) → List (ℕ × ℕ)) (old mid free : List ℕ) (key i : ℕ) (root : Bool) (low high d : ℕ) (t : Tree (suc d)) → Local F key → IsHeap old free → Stands old free root low high (suc d) t → Ranks key t.keys i
    → (b : Parted old mid free (F (pairs_of d (get_or t.kids i (bare d)))) (low_of low t.keys i) (high_of high t.keys i) d (get_or t.kids i (bare d)))
    → InHand old mid free (F (flat_map (pairs_of d) t.kids)) low high (suc d) t true (insert t.keys i b.key) (insert (map (piece_of d) t.kids) (suc i) (piece_of d b.right))
grown-hand F old mid free key i root low high d t l heap s r b =
    let long = Fans-long (Ordered d) low high t.keys t.kids s.ordered in
    let lt : i < length t.kids = omega (arith, r.within) in
    let c = get_or t.kids i (bare d) in
    let front = flat_map (pairs_of d) (take i t.kids) in
    let rear = flat_map (pairs_of d) (drop (suc i) t.kids) in
    let one_kid : List (Tree d) = set t.kids i b.left in
    let kids : List (Tree d) = insert one_kid (suc i) b.right in
    let total : (q : ℕ) → sum_by (λ x. uses d x q) kids + uses d c q ≡ sum_by (λ x. uses d x q) t.kids + (uses d b.left q + uses d b.right q) = λ q. omega (arith, sum_by-insert (λ x. uses d x q) one_kid (suc i) b.right, sum_by-set (λ x. uses d x q) t.kids i b.left (bare d) lt) in
    record {
      next = b.next;
      heap = b.heap;
      tree = record { piece = t.piece; keys = insert t.keys i b.key; kids = kids };
      is = refl;
      lists = record {
        kind = refl;
        front = refl;
        back = sym (map-insert (piece_of d) one_kid (suc i) b.right ∙ ap (λ x. insert x (suc i) (piece_of d b.right)) (pieces-same d t.kids i b.left b.is));
      };
      loose = All-insert (Holds mid d) one_kid (suc i) b.right b.rear.holds (kids-hold mid d i t.kids b.left lt b.front.holds (λ j lj ne. sister old mid free root low high d i j t heap s lt lj ne b.elsewhere));
      ordered = Fans-insert (Ordered d) low high t.keys t.kids i b.key b.left b.right r.within b.above b.below b.front.ordered b.rear.ordered s.ordered;
      kids = All-insert (Sized false d) one_kid (suc i) b.right b.rear.sized (All-set (Sized false d) t.kids i b.left b.front.sized s.sized.2);
      owned = λ q. omega (arith, s.owned q, b.share q, total q);
      pairs = flat_map-insert (pairs_of d) t.kids i b.left b.right lt ∙ ap (λ x. front ++ (x ++ rear)) b.pairs ∙ spread F key i low high d t l s.ordered r;
      share = λ q. omega (arith, b.share q, total q);
      spares = omega (arith, b.spares);
      elsewhere = record { long = b.elsewhere.long; first = b.elsewhere.first; others = λ q j lj out none. b.elsewhere.others q j lj out (omega (arith, get_or-le-sum_by (λ x. uses d x q) t.kids i (bare d) lt)) };
    }

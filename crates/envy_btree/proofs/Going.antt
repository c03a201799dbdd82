-- An insertion on its way down: what goes on at the child and comes back, and what the leaf makes of it.
use Rattle.std.proofs.Common.{◌≡◌, ℕ, zero, suc, ◌+◌, ◌-◌, ◌^◌, ◌<◌, ◌≤◌, Bool, true, false, List, [], ◌∷◌, length, map, get_or, refl, ap, sym, subst, ◌∙◌, IfOk, Option, None, Some, Result, Ok, Err, arith}
use Rattle.std.specs.List.{insert}
use Rattle.std.proofs.lemmas.List.{length-map, get_or-map}
use Rattle.std.proofs.lemmas.List.Edits.{length-insert}
use Rattle.std.proofs.lemmas.List.Sums.{get_or-le-sum_by}
use Rattle.std.proofs.lemmas.List.Elements.{All-get_or}
use Rattle.envy_base.specs.declared.board.Trouble.{Trouble}
use Rattle.envy_heap.specs.Pieces.{IsHeap, handed, spare}
use Rattle.envy_btree.specs.Pairs.{with_pair}
use Rattle.envy_btree.specs.Tree.{Tree, Ordered, Rising, Sized, Holds, Shows, uses, piece_of, pairs_of, keys_of, values_of}
use Rattle.envy_btree.specs.Nodes.{Ranks, IsRead, width}
use Rattle.envy_btree.specs.Index.{Stands}
use Rattle.envy_btree.specs.Changes.{Rests, Way, Grows, Saved, InHand, Ready}
use Rattle.envy_btree.proofs.Trees.{low_of, high_of, Fans-long, Fans-at}
use Rattle.envy_btree.proofs.Descent.{bare, read-shows, Rests-within, uses-root}
use Rattle.envy_btree.proofs.Setting.{Rising-with_pair, with_pair-long, with_pair-few}
use Rattle.envy_btree.proofs.Framing.{handed-le, parent}
use Rattle.envy_btree.proofs.Halving.{slots-long}
use Rattle.envy_btree.proofs.Holding.{leaf-hand, hand-out, saved-outcome}
use Rattle.envy_btree.proofs.Spreading.{with_pair-local, inner-became, grown-hand}

pub low_of-le : (low key : ℕ) (ks : List ℕ) (i : ℕ) → low ≤ key → ((j : ℕ) → j < i → get_or ks j 0 ≤ key) → i ≤ length ks → low_of low ks i ≤ key
low_of-le low key ks zero le b h = le
low_of-le low key [] (suc i) le b h = le
low_of-le low key (k ∷ ks) (suc i) le b h = low_of-le k key ks i (b 0 (omega arith)) (λ j lt. b (suc j) (omega arith)) (omega arith)

pub lt-high_of : (high key : ℕ) (ks : List ℕ) (i : ℕ) → key < high → (i < length ks → key < get_or ks i 0) → key < high_of high ks i
lt-high_of high key [] zero lt a = lt
lt-high_of high key [] (suc i) lt a = lt
lt-high_of high key (k ∷ ks) zero lt a = a (omega arith)
lt-high_of high key (k ∷ ks) (suc i) lt a = lt-high_of high key ks i lt (λ h. a (omega arith))

-- what goes on at the child, and comes back from it
pub record Goes (ws : List ℕ) (p level key value i : ℕ) (ks ss : List ℕ) (t : Rests ws p level) : Type 0 where
  pub lower : 1 ≤ level
  pub few : length ks ≤ 31
  pub long : length ss ≡ length ks + 1
  pub place : i < length ss
  pub child : Way ws (get_or ss i 0) (level - 1) key
  pub same : (new : List ℕ) → Grows ws new (get_or ss i 0) (level - 1) key value child.rests None → Grows ws new p level key value t None
  pub ready : (mid : List ℕ) (s : ℕ × ℕ) → Grows ws mid (get_or ss i 0) (level - 1) key value child.rests (Some s) → Ready mid p
  pub stays : (mid : List ℕ) (s : ℕ × ℕ) → Grows ws mid (get_or ss i 0) (level - 1) key value child.rests (Some s) → Shows mid p 1 ks ss
  pub grown : (mid new : List ℕ) (s : ℕ × ℕ) (r : Option (ℕ × ℕ)) → Grows ws mid (get_or ss i 0) (level - 1) key value child.rests (Some s)
      → ((free : List ℕ) → IsHeap mid free → handed mid free p ≡ 1 → Saved mid free p true (insert ks i s.0) (insert ss (i + 1) s.1) (Ok r) new) → Grows ws new p level key value t r

-- a tree in hand whose root is handed out, with a piece left
pub hand-ready : (old mid free : List ℕ) (es : List (ℕ × ℕ)) (low high d p : ℕ) (t : Tree d) (inner : Bool) (keys slots : List ℕ) → InHand old mid free es low high d t inner keys slots → piece_of d t ≡ p → d + 1 ≤ spare old free → Ready mid p
hand-ready old mid free es low high d p t inner keys slots h is many =
    let out : 1 ≤ handed mid h.next p = subst (λ x. 1 ≤ handed mid h.next x) (h.is ∙ is) (hand-out old mid free es low high d t inner keys slots h) in
    (h.next, h.heap, omega (arith, handed-le mid h.next p), omega (arith, h.spares))

goes-inner : (ws : List ℕ) (p level key value i d : ℕ) (t : Tree (suc d)) (free : List ℕ) (root : Bool) (low high : ℕ) (heap : IsHeap ws free) (few : suc d ≤ level) (is : t.piece ≡ p) (s : Stands ws free root low high (suc d) t) → Ranks key t.keys i → low ≤ key → key < high → suc d + 1 ≤ spare ws free
    → Goes ws p level key value i t.keys (map (piece_of d) t.kids) (record { free = free; heap = heap; root = root; low = low; high = high; depth = suc d; tree = t; few = few; is = is; stands = s })
goes-inner ws p level key value i d t free root low high heap few is s r le lt many =
    let long = Fans-long (Ordered d) low high t.keys t.kids s.ordered in
    let li : i < length t.kids = omega (arith, r.within) in
    let c = get_or t.kids i (bare d) in
    let kids = length-map t.kids (piece_of d) in
    let F = with_pair key value in
    record {
      lower = omega (arith, few);
      few = omega (arith, s.sized.1);
      long = omega arith;
      place = omega arith;
      child = record {
        rests = record {
          free = free;
          heap = heap;
          root = false;
          low = low_of low t.keys i;
          high = high_of high t.keys i;
          depth = d;
          tree = c;
          few = omega (arith, few);
          is = sym (get_or-map (piece_of d) t.kids i (bare d) 0 li);
          stands = record {
            holds = All-get_or (Holds ws d) t.kids i (bare d) li s.holds.1;
            ordered = Fans-at (Ordered d) low high t.keys t.kids i (bare d) r.within s.ordered;
            sized = All-get_or (Sized false d) t.kids i (bare d) li s.sized.2;
            owned = λ q. omega (arith, s.owned q, get_or-le-sum_by (λ x. uses d x q) t.kids i (bare d) li);
          };
        };
        above = low_of-le low key t.keys i le r.below r.within;
        below = lt-high_of high key t.keys i lt r.above;
        spares = omega arith;
      };
      same = λ new b. inner-became F ws new free key i root low high d t (with_pair-local key value) heap s r b;
      ready = λ mid m b.
          let h = grown-hand F ws mid free key i root low high d t (with_pair-local key value) heap s r b.0 in
          hand-ready ws mid free (F (pairs_of (suc d) t)) low high (suc d) p t true (insert t.keys i b.0.key) (insert (map (piece_of d) t.kids) (suc i) (piece_of d b.0.right)) h is many;
      stays = λ mid m b. subst (λ x. Shows mid x 1 t.keys (map (piece_of d) t.kids)) is (parent ws mid free root low high d i t heap s li b.0.elsewhere);
      grown = λ mid new m x b saved.
          let h = grown-hand F ws mid free key i root low high d t (with_pair-local key value) heap s r b.0 in
          let keys = insert t.keys i b.0.key in
          let slots = insert (map (piece_of d) t.kids) (suc i) (piece_of d b.0.right) in
          let k = hand-ready ws mid free (F (pairs_of (suc d) t)) low high (suc d) p t true keys slots h is many in
          let next : i + 1 ≡ suc i = omega arith in
          let out : handed mid h.next p ≡ 1 = omega (arith, handed-le mid h.next p, subst (λ x. 1 ≤ handed mid h.next x) (h.is ∙ is) (hand-out ws mid free (F (pairs_of (suc d) t)) low high (suc d) t true keys slots h)) in
          let w = subst (λ y. Saved mid h.next p true (insert t.keys i y) (insert (map (piece_of d) t.kids) (suc i) (piece_of d b.0.right)) (Ok x) new) b.1 (subst (λ y. Saved mid h.next p true (insert t.keys i m.0) (insert (map (piece_of d) t.kids) (suc i) y) (Ok x) new) b.2 (subst (λ y. Saved mid h.next p true (insert t.keys i m.0) (insert (map (piece_of d) t.kids) y m.1) (Ok x) new) next (saved h.next h.heap out))) in
          let wider : width (suc d) h.tree ≡ length t.kids + 1 = sym (slots-long (suc d) h.tree) ∙ sym (ap length h.lists.back) ∙ omega (arith, length-insert (map (piece_of d) t.kids) (suc i) (piece_of d b.0.right) (omega arith)) in
          saved-outcome ws mid new free (F (pairs_of (suc d) t)) root low high (suc d) p t true keys slots x h (sym is) (omega (arith, s.sized.0)) (omega (arith, length-insert t.keys i b.0.key r.within, s.sized.1)) w;
    }

goes-at : (ws : List ℕ) (p level key value i d : ℕ) (t : Tree d) (free : List ℕ) (root : Bool) (low high : ℕ) (ks ss : List ℕ) (heap : IsHeap ws free) (few : d ≤ level) (is : piece_of d t ≡ p) (s : Stands ws free root low high d t) → IsRead ws p true ks ss → Ranks key ks i → low ≤ key → key < high → d + 1 ≤ spare ws free
    → Goes ws p level key value i ks ss (record { free = free; heap = heap; root = root; low = low; high = high; depth = d; tree = t; few = few; is = is; stands = s })
goes-at ws p level key value i zero t free root low high ks ss heap few is s read r le lt many =
    let e = read-shows ws t.piece 0 (keys_of t.pairs) (values_of t.pairs) ks ss true s.holds (omega arith) (omega (arith, length-map t.pairs (λ (e : ℕ × ℕ). e.0), length-map t.pairs (λ (e : ℕ × ℕ). e.1))) (subst (λ x. IsRead ws x true ks ss) (sym is) read) in
    absurd (let no : true ≡ false = e.2 in cc)
goes-at ws p level key value i (suc d) t free root low high ks ss heap few is s read r le lt many =
    let e = read-shows ws t.piece 1 t.keys (map (piece_of d) t.kids) ks ss true s.holds.0 (omega arith) (omega (arith, length-map t.kids (piece_of d), Fans-long (Ordered d) low high t.keys t.kids s.ordered)) (subst (λ x. IsRead ws x true ks ss) (sym is) read) in
    let rank : Ranks key t.keys i = subst (λ x. Ranks key x i) e.0 r in
    let t' : Rests ws p level = record { free = free; heap = heap; root = root; low = low; high = high; depth = suc d; tree = t; few = few; is = is; stands = s } in
    subst (λ x. Goes ws p level key value i x ss t') (sym e.0) (subst (λ x. Goes ws p level key value i t.keys x t') (sym e.1) (goes-inner ws p level key value i d t free root low high heap few is s rank le lt many))

pub Way-goes : (ws : List ℕ) (p level key value i : ℕ) (ks xs ss : List ℕ) (inner : Bool) (t : Way ws p level key) → IsRead ws p inner ks ss → inner ≡ true → xs ≡ ks → Ranks key xs i → Goes ws p level key value i ks ss t.rests
Way-goes ws p level key value i ks xs ss inner t read yes_inner e r =
    goes-at ws p level key value i t.rests.depth t.rests.tree t.rests.free t.rests.root t.rests.low t.rests.high ks ss t.rests.heap t.rests.few t.rests.is t.rests.stands (subst (λ b. IsRead ws p b ks ss) yes_inner read) (subst (λ x. Ranks key x i) e r) t.above t.below t.spares

-- the way's end
pub record Halts (ws : List ℕ) (p level key value : ℕ) (ks ss : List ℕ) (t : Rests ws p level) : Type 0 where
  pub few : length ks ≤ 31
  pub long : length ss ≡ length ks
  pub ready : Ready ws p
  pub saved : (new : List ℕ) (r : Option (ℕ × ℕ)) → ((low high : ℕ) (es : List (ℕ × ℕ)) (free : List ℕ) → Rising low high es → ks ≡ keys_of es → ss ≡ values_of es → IsHeap ws free → handed ws free p ≡ 1 → Saved ws free p false (keys_of (with_pair key value es)) (values_of (with_pair key value es)) (Ok r) new) → Grows ws new p level key value t r

halts-at : (ws : List ℕ) (p level key value d : ℕ) (t : Tree d) (free : List ℕ) (root : Bool) (low high : ℕ) (ks ss : List ℕ) (heap : IsHeap ws free) (few : d ≤ level) (is : piece_of d t ≡ p) (s : Stands ws free root low high d t) → IsRead ws p false ks ss → low ≤ key → key < high → d + 1 ≤ spare ws free
    → Halts ws p level key value ks ss (record { free = free; heap = heap; root = root; low = low; high = high; depth = d; tree = t; few = few; is = is; stands = s })
halts-at ws p level key value zero t free root low high ks ss heap few is s read le lt many =
    let n = length-map t.pairs (λ (e : ℕ × ℕ). e.0) in
    let m = length-map t.pairs (λ (e : ℕ × ℕ). e.1) in
    let e = read-shows ws t.piece 0 (keys_of t.pairs) (values_of t.pairs) ks ss false s.holds (omega arith) (omega arith) (subst (λ x. IsRead ws x false ks ss) (sym is) read) in
    let es = with_pair key value t.pairs in
    let h = leaf-hand ws free es root low high t (keys_of es) (values_of es) heap s (Rising-with_pair low high key value t.pairs le lt s.ordered) refl refl in
    let out : handed ws free p ≡ 1 = omega (arith, handed-le ws free p, subst (λ x. 1 ≤ handed ws free x) is (omega (arith, s.owned t.piece, uses-root 0 t))) in
    let wider : width 0 h.tree ≡ length es = sym (slots-long 0 h.tree) ∙ sym (ap length h.lists.back) ∙ length-map es (λ (e : ℕ × ℕ). e.1) in
    record {
      few = omega (arith, ap length e.0, s.sized.1);
      long = omega (arith, ap length e.0, ap length e.1);
      ready = (free, heap, out, omega arith);
      saved = λ new r w. saved-outcome ws ws new free es root low high 0 p t false (keys_of es) (values_of es) r h (sym is) (omega (arith, s.sized.0, with_pair-long key value t.pairs)) (omega (arith, length-map es (λ (e : ℕ × ℕ). e.0), with_pair-few key value t.pairs, s.sized.1)) (w low high t.pairs h.next s.ordered e.0 e.1 h.heap (omega (arith, handed-le ws h.next p, subst (λ x. 1 ≤ handed ws h.next x) (h.is ∙ is) (hand-out ws ws free es low high 0 t false (keys_of es) (values_of es) h))));
    }
halts-at ws p level key value (suc d) t free root low high ks ss heap few is s read le lt many =
    let e = read-shows ws t.piece 1 t.keys (map (piece_of d) t.kids) ks ss false s.holds.0 (omega arith) (omega (arith, length-map t.kids (piece_of d), Fans-long (Ordered d) low high t.keys t.kids s.ordered)) (subst (λ x. IsRead ws x false ks ss) (sym is) read) in
    absurd (let no : false ≡ true = e.2 in cc)

pub Way-halts : (ws : List ℕ) (p level key value : ℕ) (ks ss : List ℕ) (inner : Bool) (t : Way ws p level key) → IsRead ws p inner ks ss → inner ≡ false → Halts ws p level key value ks ss t.rests
Way-halts ws p level key value ks ss inner t read no_inner =
    halts-at ws p level key value t.rests.depth t.rests.tree t.rests.free t.rests.root t.rests.low t.rests.high ks ss t.rests.heap t.rests.few t.rests.is t.rests.stands (subst (λ b. IsRead ws p b ks ss) no_inner read) t.above t.below t.spares

pub leaf-grows : (ws new : List ℕ) (p level key value : ℕ) (ks ss : List ℕ) (t : Rests ws p level) (r : Result (Option (ℕ × ℕ)) Trouble) → Halts ws p level key value ks ss t
    → ((low high : ℕ) (es : List (ℕ × ℕ)) (free : List ℕ) → Rising low high es → ks ≡ keys_of es → ss ≡ values_of es → IsHeap ws free → handed ws free p ≡ 1 → Saved ws free p false (keys_of (with_pair key value es)) (values_of (with_pair key value es)) r new) → IfOk r (λ x. Grows ws new p level key value t x)
leaf-grows ws new p level key value ks ss t (Ok x) h w = h.saved new x w
leaf-grows ws new p level key value ks ss t (Err e) h w = tt

pub node-grows : (ws mid new : List ℕ) (p level key value i : ℕ) (ks ss : List ℕ) (t : Rests ws p level) (s : ℕ × ℕ) (r : Result (Option (ℕ × ℕ)) Trouble) → (h : Goes ws p level key value i ks ss t)
    → Grows ws mid (get_or ss i 0) (level - 1) key value h.child.rests (Some s) → ((free : List ℕ) → IsHeap mid free → handed mid free p ≡ 1 → Saved mid free p true (insert ks i s.0) (insert ss (i + 1) s.1) r new) → IfOk r (λ x. Grows ws new p level key value t x)
node-grows ws mid new p level key value i ks ss t s (Ok x) h b w = h.grown mid new s x b w
node-grows ws mid new p level key value i ks ss t s (Err e) h b w = tt

pub child-fits : (ws : List ℕ) (p level key value i : ℕ) (ks ss : List ℕ) (t : Rests ws p level) → length ws < 2 ^ 32 → Goes ws p level key value i ks ss t → get_or ss i 0 < 2 ^ 32
child-fits ws p level key value i ks ss t few s = let w = Rests-within ws (get_or ss i 0) (level - 1) s.child.rests in omega (arith, w.0)

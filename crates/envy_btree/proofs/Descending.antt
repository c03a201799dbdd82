-- Pairs that follow all others, on their way down: what goes on at the child and comes back, and what the leaf makes of it.
use Rattle.std.proofs.Common.{◌≡◌, ℕ, zero, suc, ◌+◌, ◌-◌, ◌*◌, ◌^◌, ◌<◌, ◌≤◌, Bool, true, false, List, length, map, get_or, ap, sym, subst, ◌∙◌, IfOk, Option, None, Some, Result, Ok, Err, arith}
use Rattle.std.specs.List.{insert}
use Rattle.std.proofs.lemmas.List.{length-map, get_or-map, get_or_past}
use Rattle.std.proofs.lemmas.List.Edits.{length-insert}
use Rattle.std.proofs.lemmas.List.Sums.{get_or-le-sum_by}
use Rattle.std.proofs.lemmas.List.Elements.{All-get_or}
use Rattle.envy_base.specs.declared.board.Trouble.{Trouble}
use Rattle.envy_heap.specs.Pieces.{IsHeap, handed, spare, head, at}
use Rattle.envy_btree.specs.Pairs.{Below}
use Rattle.envy_btree.specs.Tree.{Tree, Ordered, Rising, Sized, Holds, Shows, uses, piece_of, pairs_of, keys_of, values_of}
use Rattle.envy_btree.specs.Nodes.{Ranks, IsRead, width}
use Rattle.envy_btree.specs.Index.{Stands}
use Rattle.envy_btree.specs.Bulk.{with_pairs, Brim, Follows, Leafed}
use Rattle.envy_btree.specs.Changes.{Rests, Saved, Ready, GetsChild}
use Rattle.envy_btree.specs.Spots.{IsSpot, keys_at, slots_at}
use Rattle.envy_btree.proofs.Trees.{low_of, high_of, Fans-long, Fans-at}
use Rattle.envy_btree.proofs.Descent.{bare, read-shows, Rests-within}
use Rattle.envy_btree.proofs.Framing.{handed-le, parent}
use Rattle.envy_btree.proofs.Halving.{slots-long}
use Rattle.envy_btree.proofs.Holding.{hand-out, saved-outcome}
use Rattle.envy_btree.proofs.Spreading.{inner-became, grown-hand}
use Rattle.envy_btree.proofs.Going.{low_of-le, lt-high_of, hand-ready}
use Rattle.envy_btree.proofs.Spotting.{spot-read, slot-at, shows-at}
use Rattle.envy_btree.proofs.Stepping.{keys-long}
use Rattle.envy_btree.proofs.Following.{with_pairs-local, All-child, child-enough, last-child, leaf-follows}

-- what goes on at the child, and comes back from it
pub record Descends (ws : List ℕ) (p level key i : ℕ) (ps : List (ℕ × ℕ)) (ks ss : List ℕ) (t : Rests ws p level) : Type 0 where
  pub lower : 1 ≤ level
  pub few : length ks ≤ 31
  pub long : length ss ≡ length ks + 1
  pub place : i < length ss
  pub child : Brim ws (get_or ss i 0) (level - 1) key ps
  pub same : (new : List ℕ) → Follows ws new (get_or ss i 0) (level - 1) key ps child.way.rests None → Follows ws new p level key ps t None
  pub ready : (mid : List ℕ) (s : ℕ × ℕ) → Follows ws mid (get_or ss i 0) (level - 1) key ps child.way.rests (Some s) → Ready mid p
  pub stays : (mid : List ℕ) (s : ℕ × ℕ) → Follows ws mid (get_or ss i 0) (level - 1) key ps child.way.rests (Some s) → Shows mid p 1 ks ss
  pub grown : (mid new : List ℕ) (s : ℕ × ℕ) (r : Option (ℕ × ℕ)) → Follows ws mid (get_or ss i 0) (level - 1) key ps child.way.rests (Some s)
      → ((free : List ℕ) → IsHeap mid free → handed mid free p ≡ 1 → Saved mid free p true (insert ks i s.0) (insert ss (i + 1) s.1) (Ok r) new) → Follows ws new p level key ps t r

descends-inner : (ws : List ℕ) (p level key i d : ℕ) (ps : List (ℕ × ℕ)) (t : Tree (suc d)) (free : List ℕ) (root : Bool) (low high : ℕ) (heap : IsHeap ws free) (few : suc d ≤ level) (is : t.piece ≡ p) (s : Stands ws free root low high (suc d) t) → Ranks key t.keys i → low ≤ key → key < high → suc d + 1 ≤ spare ws free
    → Below key (pairs_of (suc d) t) → Rising key high ps
    → Descends ws p level key i ps t.keys (map (piece_of d) t.kids) (record { free = free; heap = heap; root = root; low = low; high = high; depth = suc d; tree = t; few = few; is = is; stands = s })
descends-inner ws p level key i d ps t free root low high heap few is s r le lt many below rising =
    let long = Fans-long (Ordered d) low high t.keys t.kids s.ordered in
    let li : i < length t.kids = omega (arith, r.within) in
    let c = get_or t.kids i (bare d) in
    let kids = length-map t.kids (piece_of d) in
    let F = with_pairs key ps in
    let sized : Sized false d c = All-get_or (Sized false d) t.kids i (bare d) li s.sized.2 in
    let high_is : high_of high t.keys i ≡ high = get_or_past t.keys i high (last-child key low high i d t s.ordered s.sized.2 r below) in
    record {
      lower = omega (arith, few);
      few = omega (arith, s.sized.1);
      long = omega arith;
      place = omega arith;
      child = record {
        way = record {
          rests = record {
            free = free;
            heap = heap;
            root = false;
            low = low_of low t.keys i;
            high = high_of high t.keys i;
            depth = d;
            tree = c;
            few = omega (arith, few);
            is = sym (get_or-map (piece_of d) t.kids i (bare d) 0 li);
            stands = record {
              holds = All-get_or (Holds ws d) t.kids i (bare d) li s.holds.1;
              ordered = Fans-at (Ordered d) low high t.keys t.kids i (bare d) r.within s.ordered;
              sized = sized;
              owned = λ q. omega (arith, s.owned q, get_or-le-sum_by (λ x. uses d x q) t.kids i (bare d) li);
            };
          };
          above = low_of-le low key t.keys i le r.below r.within;
          below = lt-high_of high key t.keys i lt r.above;
          spares = omega arith;
        };
        enough = child-enough d c sized;
        before = All-child (λ (e : ℕ × ℕ). e.0 < key) (pairs_of d) t.kids i (bare d) li below;
        rising = subst (λ x. Rising key x ps) (sym high_is) rising;
      };
      same = λ new b. inner-became F ws new free key i root low high d t (with_pairs-local key ps) heap s r b;
      ready = λ mid m b.
          let h = grown-hand F ws mid free key i root low high d t (with_pairs-local key ps) heap s r b.0 in
          hand-ready ws mid free (F (pairs_of (suc d) t)) low high (suc d) p t true (insert t.keys i b.0.key) (insert (map (piece_of d) t.kids) (suc i) (piece_of d b.0.right)) h is many;
      stays = λ mid m b. subst (λ x. Shows mid x 1 t.keys (map (piece_of d) t.kids)) is (parent ws mid free root low high d i t heap s li b.0.elsewhere);
      grown = λ mid new m x b saved.
          let h = grown-hand F ws mid free key i root low high d t (with_pairs-local key ps) heap s r b.0 in
          let keys = insert t.keys i b.0.key in
          let slots = insert (map (piece_of d) t.kids) (suc i) (piece_of d b.0.right) in
          let k = hand-ready ws mid free (F (pairs_of (suc d) t)) low high (suc d) p t true keys slots h is many in
          let next : i + 1 ≡ suc i = omega arith in
          let out : handed mid h.next p ≡ 1 = omega (arith, handed-le mid h.next p, subst (λ x. 1 ≤ handed mid h.next x) (h.is ∙ is) (hand-out ws mid free (F (pairs_of (suc d) t)) low high (suc d) t true keys slots h)) in
          let w = subst (λ y. Saved mid h.next p true (insert t.keys i y) (insert (map (piece_of d) t.kids) (suc i) (piece_of d b.0.right)) (Ok x) new) b.1 (subst (λ y. Saved mid h.next p true (insert t.keys i m.0) (insert (map (piece_of d) t.kids) (suc i) y) (Ok x) new) b.2 (subst (λ y. Saved mid h.next p true (insert t.keys i m.0) (insert (map (piece_of d) t.kids) y m.1) (Ok x) new) next (saved h.next h.heap out))) in
          let wider : width (suc d) h.tree ≡ length t.kids + 1 = sym (slots-long (suc d) h.tree) ∙ sym (ap length h.lists.back) ∙ omega (arith, length-insert (map (piece_of d) t.kids) (suc i) (piece_of d b.0.right) (omega arith)) in
          saved-outcome ws mid new free (F (pairs_of (suc d) t)) root low high (suc d) p t true keys slots x h (sym is) (omega (arith, s.sized.0)) (omega (arith, length-insert t.keys i b.0.key r.within, s.sized.1)) w;
    }

descends-at : (ws : List ℕ) (p level key i d : ℕ) (ps : List (ℕ × ℕ)) (t : Tree d) (free : List ℕ) (root : Bool) (low high : ℕ) (ks ss : List ℕ) (heap : IsHeap ws free) (few : d ≤ level) (is : piece_of d t ≡ p) (s : Stands ws free root low high d t) → IsRead ws p true ks ss → Ranks key ks i → low ≤ key → key < high → d + 1 ≤ spare ws free
    → Below key (pairs_of d t) → Rising key high ps
    → Descends ws p level key i ps ks ss (record { free = free; heap = heap; root = root; low = low; high = high; depth = d; tree = t; few = few; is = is; stands = s })
descends-at ws p level key i zero ps t free root low high ks ss heap few is s read r le lt many below rising =
    let e = read-shows ws t.piece 0 (keys_of t.pairs) (values_of t.pairs) ks ss true s.holds (omega arith) (omega (arith, length-map t.pairs (λ (e : ℕ × ℕ). e.0), length-map t.pairs (λ (e : ℕ × ℕ). e.1))) (subst (λ x. IsRead ws x true ks ss) (sym is) read) in
    absurd (let no : true ≡ false = e.2 in cc)
descends-at ws p level key i (suc d) ps t free root low high ks ss heap few is s read r le lt many below rising =
    let e = read-shows ws t.piece 1 t.keys (map (piece_of d) t.kids) ks ss true s.holds.0 (omega arith) (omega (arith, length-map t.kids (piece_of d), Fans-long (Ordered d) low high t.keys t.kids s.ordered)) (subst (λ x. IsRead ws x true ks ss) (sym is) read) in
    let rank : Ranks key t.keys i = subst (λ x. Ranks key x i) e.0 r in
    let t' : Rests ws p level = record { free = free; heap = heap; root = root; low = low; high = high; depth = suc d; tree = t; few = few; is = is; stands = s } in
    subst (λ x. Descends ws p level key i ps x ss t') (sym e.0) (subst (λ x. Descends ws p level key i ps t.keys x t') (sym e.1) (descends-inner ws p level key i d ps t free root low high heap few is s rank le lt many below rising))

descends : (ws : List ℕ) (p level key n i : ℕ) (ps : List (ℕ × ℕ)) (inner : Bool) (t : Brim ws p level key ps) → IsSpot ws p key inner n i → inner ≡ true → Descends ws p level key i ps (keys_at ws p) (slots_at ws p) t.way.rests
descends ws p level key n i ps inner t s yes_inner =
    let r = t.way.rests in
    descends-at ws p level key i r.depth ps r.tree r.free r.root r.low r.high (keys_at ws p) (slots_at ws p) r.heap r.few r.is r.stands (subst (λ b. IsRead ws p b (keys_at ws p) (slots_at ws p)) yes_inner (spot-read ws p key n i inner s)) s.rank t.way.above t.way.below t.way.spares t.before t.rising

-- the way's end
follows-at : (ws new : List ℕ) (p level key q d : ℕ) (ps : List (ℕ × ℕ)) (t : Tree d) (free : List ℕ) (root : Bool) (low high : ℕ) (ks ss : List ℕ) (heap : IsHeap ws free) (few : d ≤ level) (is : piece_of d t ≡ p) (s : Stands ws free root low high d t) → IsRead ws p false ks ss → Leafed ws new free q ps → 15 ≤ length ps → length ps ≤ 31
    → 15 ≤ length (pairs_of d t) → Below key (pairs_of d t) → Rising key high ps
    → Follows ws new p level key ps (record { free = free; heap = heap; root = root; low = low; high = high; depth = d; tree = t; few = few; is = is; stands = s }) (Some (key, q))
follows-at ws new p level key q zero ps t free root low high ks ss heap few is s read l many most enough below rising = leaf-follows ws new free root low high key q t ps heap s l many most enough below rising
follows-at ws new p level key q (suc d) ps t free root low high ks ss heap few is s read l many most enough below rising =
    let e = read-shows ws t.piece 1 t.keys (map (piece_of d) t.kids) ks ss false s.holds.0 (omega arith) (omega (arith, length-map t.kids (piece_of d), Fans-long (Ordered d) low high t.keys t.kids s.ordered)) (subst (λ x. IsRead ws x false ks ss) (sym is) read) in
    absurd (let no : false ≡ true = e.2 in cc)

pub end-follows : (ws one new : List ℕ) (p level key n i q : ℕ) (ps : List (ℕ × ℕ)) (inner : Bool) (t : Brim ws p level key ps) → IsSpot ws p key inner n i → inner ≡ false → one ≡ ws → ((free : List ℕ) → IsHeap one free → Leafed one new free q ps) → 15 ≤ length ps → length ps ≤ 31 → Follows ws new p level key ps t.way.rests (Some (key, q))
end-follows ws one new p level key n i q ps inner t s no_inner same made many few =
    let r = t.way.rests in
    let made_here = subst (λ w. (free : List ℕ) → IsHeap w free → Leafed w new free q ps) same made in
    follows-at ws new p level key q r.depth ps r.tree r.free r.root r.low r.high (keys_at ws p) (slots_at ws p) r.heap r.few r.is r.stands (subst (λ b. IsRead ws p b (keys_at ws p) (slots_at ws p)) no_inner (spot-read ws p key n i inner s)) (made_here r.free r.heap) many few t.enough t.before t.rising

pub end-heap : (ws one : List ℕ) (p level key : ℕ) (ps : List (ℕ × ℕ)) → Brim ws p level key ps → one ≡ ws → (free : List ℕ) × IsHeap one free × (1 ≤ spare one free)
end-heap ws one p level key ps t same = subst (λ w. (free : List ℕ) × IsHeap w free × (1 ≤ spare w free)) (sym same) (t.way.rests.free, t.way.rests.heap, omega (arith, t.way.spares))

-- a step down to a child that is read where it stands
pub record Step (ws mid : List ℕ) (p level key n i child : ℕ) (ps : List (ℕ × ℕ)) (t : Brim ws p level key ps) : Type 0 where
  pub goes : Descends ws p level key i ps (keys_at ws p) (slots_at ws p) t.way.rests
  pub few : n ≤ 31
  pub place : i ≤ n
  pub same : mid ≡ ws
  pub is : child ≡ get_or (slots_at ws p) i 0
  pub way : Brim mid child (level - 1) key ps
  pub fits : child < 2 ^ 32

pub place-few : (ws : List ℕ) (p level key n i : ℕ) (ps : List (ℕ × ℕ)) (inner : Bool) (t : Brim ws p level key ps) → IsSpot ws p key inner n i → inner ≡ true → i ≤ 31
place-few ws p level key n i ps inner t s found =
    let g = descends ws p level key n i ps inner t s found in
    omega (arith, g.few, s.rank.within)

pub step-made : (ws one mid : List ℕ) (p level key n i child : ℕ) (ps : List (ℕ × ℕ)) (inner : Bool) (t : Brim ws p level key ps) → length ws < 2 ^ 32 → IsSpot ws p key inner n i → inner ≡ true → one ≡ ws → child ≡ get_or one (at p 32 + i) 0 → mid ≡ one → Step ws mid p level key n i child ps t
step-made ws one mid p level key n i child ps inner t small s found first load second =
    let g = descends ws p level key n i ps inner t s found in
    let long = keys-long ws p level key n i inner t.way.rests s in
    let same : mid ≡ ws = second ∙ first in
    let is : child ≡ get_or (slots_at ws p) i 0 = load ∙ ap (λ w. get_or w (at p 32 + i) 0) first ∙ slot-at ws p i g.place in
    record {
      goes = g;
      few = omega (arith, g.few, long);
      place = omega (arith, s.rank.within, long);
      same = same;
      is = is;
      way = subst (λ w. Brim w child (level - 1) key ps) (sym same) (subst (λ x. Brim ws x (level - 1) key ps) (sym is) g.child);
      fits = omega (arith, is, (Rests-within ws (get_or (slots_at ws p) i 0) (level - 1) g.child.way.rests).0);
    }

-- what comes back from the child
brought : (ws mid new : List ℕ) (p level key n i child : ℕ) (ps : List (ℕ × ℕ)) (r : Option (ℕ × ℕ)) (t : Brim ws p level key ps) → (s : Step ws mid p level key n i child ps t) → ((h : Brim mid child (level - 1) key ps) → Follows mid new child (level - 1) key ps h.way.rests r)
    → Follows ws new (get_or (slots_at ws p) i 0) (level - 1) key ps s.goes.child.way.rests r
brought ws mid new p level key n i child ps r t s f =
    let a = subst (λ w. (h : Brim w child (level - 1) key ps) → Follows w new child (level - 1) key ps h.way.rests r) s.same f in
    let b = subst (λ q. (h : Brim ws q (level - 1) key ps) → Follows ws new q (level - 1) key ps h.way.rests r) s.is a in
    b s.goes.child

pub step-same : (ws mid new : List ℕ) (p level key n i child : ℕ) (ps : List (ℕ × ℕ)) (r : Option (ℕ × ℕ)) (t : Brim ws p level key ps) → Step ws mid p level key n i child ps t → ((h : Brim mid child (level - 1) key ps) → Follows mid new child (level - 1) key ps h.way.rests r) → r ≡ None → Follows ws new p level key ps t.way.rests None
step-same ws mid new p level key n i child ps r t s f none = s.goes.same new (subst (λ x. Follows ws new (get_or (slots_at ws p) i 0) (level - 1) key ps s.goes.child.way.rests x) none (brought ws mid new p level key n i child ps r t s f))

-- the node after its child has parted
pub record Parts (ws next : List ℕ) (p n : ℕ) : Type 0 where
  pub ready : Ready next p
  pub count : get_or next (head p) 0 ≡ 2 * n + 1
  pub keys : keys_at next p ≡ keys_at ws p
  pub slots : slots_at next p ≡ slots_at ws p

pub step-parts : (ws mid next : List ℕ) (p level key n i child : ℕ) (ps : List (ℕ × ℕ)) (inner : Bool) (r : Option (ℕ × ℕ)) (m : ℕ × ℕ) (t : Brim ws p level key ps) → IsSpot ws p key inner n i → Step ws mid p level key n i child ps t → ((h : Brim mid child (level - 1) key ps) → Follows mid next child (level - 1) key ps h.way.rests r) → r ≡ Some m → Parts ws next p n
step-parts ws mid next p level key n i child ps inner r m t spot s f some =
    let b = subst (λ x. Follows ws next (get_or (slots_at ws p) i 0) (level - 1) key ps s.goes.child.way.rests x) some (brought ws mid next p level key n i child ps r t s f) in
    let shows = s.goes.stays next m b in
    let long = keys-long ws p level key n i inner t.way.rests spot in
    let e = shows-at next p 1 (keys_at ws p) (slots_at ws p) shows (omega arith) s.goes.long in
    record { ready = s.goes.ready next m b; count = shows.count ∙ ap (λ x. 2 * x + 1) long; keys = e.0; slots = e.1 }

node-follows : (ws mid new : List ℕ) (p level key i : ℕ) (ps : List (ℕ × ℕ)) (ks ss : List ℕ) (t : Rests ws p level) (s : ℕ × ℕ) (r : Result (Option (ℕ × ℕ)) Trouble) → (h : Descends ws p level key i ps ks ss t)
    → Follows ws mid (get_or ss i 0) (level - 1) key ps h.child.way.rests (Some s) → ((free : List ℕ) → IsHeap mid free → handed mid free p ≡ 1 → Saved mid free p true (insert ks i s.0) (insert ss (i + 1) s.1) r new) → IfOk r (λ x. Follows ws new p level key ps t x)
node-follows ws mid new p level key i ps ks ss t s (Ok x) h b w = h.grown mid new s x b w
node-follows ws mid new p level key i ps ks ss t s (Err e) h b w = tt

pub step-follows : (ws mid next new : List ℕ) (p level key n i child : ℕ) (ps : List (ℕ × ℕ)) (inner : Bool) (r : Option (ℕ × ℕ)) (m : ℕ × ℕ) (t : Brim ws p level key ps) (x : Result (Option (ℕ × ℕ)) Trouble) → IsSpot ws p key inner n i → Step ws mid p level key n i child ps t → ((h : Brim mid child (level - 1) key ps) → Follows mid next child (level - 1) key ps h.way.rests r) → r ≡ Some m
    → GetsChild next p i m.0 m.1 x new → IfOk x (λ y. Follows ws new p level key ps t.way.rests y)
step-follows ws mid next new p level key n i child ps inner r m t x spot s f some gets =
    let b = subst (λ y. Follows ws next (get_or (slots_at ws p) i 0) (level - 1) key ps s.goes.child.way.rests y) some (brought ws mid next p level key n i child ps r t s f) in
    let e = step-parts ws mid next p level key n i child ps inner r m t spot s f some in
    node-follows ws next new p level key i ps (keys_at ws p) (slots_at ws p) t.way.rests m x s.goes b (λ free heap out. subst (λ ks. Saved next free p true (insert ks i m.0) (insert (slots_at ws p) (i + 1) m.1) x new) e.keys (subst (λ ss. Saved next free p true (insert (keys_at next p) i m.0) (insert ss (i + 1) m.1) x new) e.slots (gets free heap out)))

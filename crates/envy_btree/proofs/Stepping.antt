-- A step down to a child that is read where it stands, on the way of an insertion.
use Rattle.std.proofs.Common.{◌≡◌, ℕ, ◌+◌, ◌-◌, ◌*◌, ◌/◌, ◌^◌, ◌<◌, ◌≤◌, Bool, true, false, List, length, get_or, refl, ap, sym, subst, ◌∙◌, IfOk, Option, None, Some, Result, arith, Fits, w32}
use Rattle.std.specs.List.{insert}
use Rattle.envy_base.specs.declared.board.Trouble.{Trouble}
use Rattle.envy_heap.specs.Pieces.{head, at}
use Rattle.envy_btree.specs.Changes.{Rests, Saved, Way, Grows, Ready, SetsPair, GetsChild}
use Rattle.envy_btree.specs.Spots.{IsSpot, keys_at, slots_at}
use Rattle.envy_btree.proofs.Descent.{Rests-within, Rests-few}
use Rattle.envy_btree.proofs.Gaps.{window-long}
use Rattle.envy_btree.proofs.Going.{Goes, Halts, Way-goes, Way-halts, child-fits, node-grows, leaf-grows}
use Rattle.envy_btree.proofs.Spotting.{spot-read, slot-at, shows-at}

pub keys-long : (ws : List ℕ) (p level key n i : ℕ) (inner : Bool) → Rests ws p level → IsSpot ws p key inner n i → length (keys_at ws p) ≡ n
keys-long ws p level key n i inner t s =
    let few = Rests-few ws p level t in
    let within = (Rests-within ws p level t).0 in
    window-long ws (at p 1) (get_or ws (head p) 0 / 2) (omega arith) ∙ sym s.keys

pub record Step (ws mid : List ℕ) (p level key value n i child : ℕ) (t : Way ws p level key) : Type 0 where
  pub goes : Goes ws p level key value i (keys_at ws p) (slots_at ws p) t.rests
  pub few : n ≤ 31
  pub place : i ≤ n
  pub same : mid ≡ ws
  pub is : child ≡ get_or (slots_at ws p) i 0
  pub way : Way mid child (level - 1) key
  pub fits : child < 2 ^ 32

pub goes-spot : (ws : List ℕ) (p level key value n i : ℕ) (inner : Bool) (t : Way ws p level key) → IsSpot ws p key inner n i → inner ≡ true → Goes ws p level key value i (keys_at ws p) (slots_at ws p) t.rests
goes-spot ws p level key value n i inner t s found = Way-goes ws p level key value i (keys_at ws p) (keys_at ws p) (slots_at ws p) inner t (spot-read ws p key n i inner s) found refl s.rank

pub place-few : (ws : List ℕ) (p level key value n i : ℕ) (inner : Bool) (t : Way ws p level key) → IsSpot ws p key inner n i → inner ≡ true → i ≤ 31
place-few ws p level key value n i inner t s found =
    let g = goes-spot ws p level key value n i inner t s found in
    omega (arith, g.few, s.rank.within)

pub step-made : (ws one mid : List ℕ) (p level key value n i child : ℕ) (inner : Bool) (t : Way ws p level key) → length ws < 2 ^ 32 → IsSpot ws p key inner n i → inner ≡ true → one ≡ ws → child ≡ get_or one (at p 32 + i) 0 → mid ≡ one → Step ws mid p level key value n i child t
step-made ws one mid p level key value n i child inner t small s found first load second =
    let g = goes-spot ws p level key value n i inner t s found in
    let long = keys-long ws p level key n i inner t.rests s in
    let same : mid ≡ ws = second ∙ first in
    let is : child ≡ get_or (slots_at ws p) i 0 = load ∙ ap (λ w. get_or w (at p 32 + i) 0) first ∙ slot-at ws p i g.place in
    record {
      goes = g;
      few = omega (arith, g.few, long);
      place = omega (arith, s.rank.within, long);
      same = same;
      is = is;
      way = subst (λ w. Way w child (level - 1) key) (sym same) (subst (λ x. Way ws x (level - 1) key) (sym is) g.child);
      fits = omega (arith, is, child-fits ws p level key value i (keys_at ws p) (slots_at ws p) t.rests small g);
    }

-- what comes back from the child
pub brought : (ws mid new : List ℕ) (p level key value n i child : ℕ) (r : Option (ℕ × ℕ)) (t : Way ws p level key) → (s : Step ws mid p level key value n i child t) → ((h : Way mid child (level - 1) key) → Grows mid new child (level - 1) key value h.rests r)
    → Grows ws new (get_or (slots_at ws p) i 0) (level - 1) key value s.goes.child.rests r
brought ws mid new p level key value n i child r t s f =
    let a = subst (λ w. (h : Way w child (level - 1) key) → Grows w new child (level - 1) key value h.rests r) s.same f in
    let b = subst (λ q. (h : Way ws q (level - 1) key) → Grows ws new q (level - 1) key value h.rests r) s.is a in
    b s.goes.child

pub step-same : (ws mid new : List ℕ) (p level key value n i child : ℕ) (r : Option (ℕ × ℕ)) (t : Way ws p level key) → Step ws mid p level key value n i child t → ((h : Way mid child (level - 1) key) → Grows mid new child (level - 1) key value h.rests r) → r ≡ None → Grows ws new p level key value t.rests None
step-same ws mid new p level key value n i child r t s f none = s.goes.same new (subst (λ x. Grows ws new (get_or (slots_at ws p) i 0) (level - 1) key value s.goes.child.rests x) none (brought ws mid new p level key value n i child r t s f))

-- the node after its child has parted
pub record Parts (ws next : List ℕ) (p level key value n i : ℕ) (t : Way ws p level key) : Type 0 where
  pub ready : Ready next p
  pub count : get_or next (head p) 0 ≡ 2 * n + 1
  pub keys : keys_at next p ≡ keys_at ws p
  pub slots : slots_at next p ≡ slots_at ws p

pub step-parts : (ws mid next : List ℕ) (p level key value n i child : ℕ) (inner : Bool) (r : Option (ℕ × ℕ)) (m : ℕ × ℕ) (t : Way ws p level key) → IsSpot ws p key inner n i → Step ws mid p level key value n i child t → ((h : Way mid child (level - 1) key) → Grows mid next child (level - 1) key value h.rests r) → r ≡ Some m → Parts ws next p level key value n i t
step-parts ws mid next p level key value n i child inner r m t spot s f some =
    let b = subst (λ x. Grows ws next (get_or (slots_at ws p) i 0) (level - 1) key value s.goes.child.rests x) some (brought ws mid next p level key value n i child r t s f) in
    let shows = s.goes.stays next m b in
    let long = keys-long ws p level key n i inner t.rests spot in
    let e = shows-at next p 1 (keys_at ws p) (slots_at ws p) shows (omega arith) s.goes.long in
    record { ready = s.goes.ready next m b; count = shows.count ∙ ap (λ x. 2 * x + 1) long; keys = e.0; slots = e.1 }

pub step-grows : (ws mid next new : List ℕ) (p level key value n i child : ℕ) (inner : Bool) (r : Option (ℕ × ℕ)) (m : ℕ × ℕ) (t : Way ws p level key) (x : Result (Option (ℕ × ℕ)) Trouble) → IsSpot ws p key inner n i → Step ws mid p level key value n i child t → ((h : Way mid child (level - 1) key) → Grows mid next child (level - 1) key value h.rests r) → r ≡ Some m
    → GetsChild next p i m.0 m.1 x new → IfOk x (λ y. Grows ws new p level key value t.rests y)
step-grows ws mid next new p level key value n i child inner r m t x spot s f some gets =
    let b = subst (λ y. Grows ws next (get_or (slots_at ws p) i 0) (level - 1) key value s.goes.child.rests y) some (brought ws mid next p level key value n i child r t s f) in
    let e = step-parts ws mid next p level key value n i child inner r m t spot s f some in
    node-grows ws next new p level key value i (keys_at ws p) (slots_at ws p) t.rests m x s.goes b (λ free heap out. subst (λ ks. Saved next free p true (insert ks i m.0) (insert (slots_at ws p) (i + 1) m.1) x new) e.keys (subst (λ ss. Saved next free p true (insert (keys_at next p) i m.0) (insert ss (i + 1) m.1) x new) e.slots (gets free heap out)))

-- the way's end
pub record Stop (ws one : List ℕ) (p level key value n : ℕ) (t : Way ws p level key) : Type 0 where
  pub halts : Halts ws p level key value (keys_at ws p) (slots_at ws p) t.rests
  pub few : n ≤ 31
  pub ready : Ready one p

pub stop-made : (ws one : List ℕ) (p level key value n i : ℕ) (inner : Bool) (t : Way ws p level key) → IsSpot ws p key inner n i → inner ≡ false → one ≡ ws → Stop ws one p level key value n t
stop-made ws one p level key value n i inner t s missing same =
    let h = Way-halts ws p level key value (keys_at ws p) (slots_at ws p) inner t (spot-read ws p key n i inner s) missing in
    record { halts = h; few = omega (arith, h.few, keys-long ws p level key n i inner t.rests s); ready = subst (λ w. Ready w p) (sym same) h.ready }

pub stop-grows : (ws one new : List ℕ) (p level key value n i : ℕ) (inner : Bool) (t : Way ws p level key) (r : Result (Option (ℕ × ℕ)) Trouble) → IsSpot ws p key inner n i → inner ≡ false → one ≡ ws → SetsPair one p key value r new → IfOk r (λ x. Grows ws new p level key value t.rests x)
stop-grows ws one new p level key value n i inner t r s missing same sets =
    leaf-grows ws new p level key value (keys_at ws p) (slots_at ws p) t.rests r (stop-made ws one p level key value n i inner t s missing same).halts (subst (λ w. SetsPair w p key value r new) same sets)

pub slot-fits32 : (p i n : ℕ) → at p 63 < n → n < 2 ^ 32 → i ≤ 31 → Fits w32 (at p 32 + i)
slot-fits32 p i n within small few = omega arith

-- A step down to a child that is read where it stands, on the way of a removal.
use Rattle.std.proofs.Common.{◌≡◌, ℕ, suc, ◌+◌, ◌-◌, ◌^◌, ◌<◌, ◌≤◌, Bool, true, false, List, ◌++◌, length, get_or, refl, ap, sym, subst, ◌∙◌, IfOk, Option, None, Some, Result, arith}
use Rattle.envy_base.specs.declared.board.Trouble.{Trouble}
use Rattle.envy_heap.specs.Pieces.{IsHeap, head, at, one}
use Rattle.envy_btree.specs.declared.node.Node.{Node}
use Rattle.envy_btree.specs.Nodes.{IsRead}
use Rattle.envy_btree.specs.Changes.{Rests, Beside, HasPair, IsShort, joined_keys}
use Rattle.envy_btree.specs.Shrinking.{Back, LosesPair, MendedBack, Shrinks}
use Rattle.envy_btree.specs.Spots.{IsSpot, keys_at, slots_at}
use Rattle.envy_btree.proofs.Descent.{read-shows}
use Rattle.envy_btree.proofs.Diving.{Dives, Rests-dives, Rests-lands, leaf-shrinks, front-shrinks, rear-shrinks, dive-fits, child-told}
use Rattle.envy_btree.proofs.Spotting.{spot-read, slot-at}
use Rattle.envy_btree.proofs.Stepping.{keys-long}

pub record Dip (ws mid : List ℕ) (p level key n i child : ℕ) (t : Rests ws p level) : Type 0 where
  pub goes : Dives ws p level key i (keys_at ws p) (slots_at ws p) t
  pub few : n ≤ 31
  pub place : i ≤ n
  pub same : mid ≡ ws
  pub is : child ≡ get_or (slots_at ws p) i 0
  pub rests : Rests mid child (level - 1)
  pub fits : child < 2 ^ 32

dives-spot : (ws : List ℕ) (p level key n i : ℕ) (inner : Bool) (t : Rests ws p level) → IsSpot ws p key inner n i → inner ≡ true → Dives ws p level key i (keys_at ws p) (slots_at ws p) t
dives-spot ws p level key n i inner t s found = Rests-dives ws p level key i (keys_at ws p) (keys_at ws p) (slots_at ws p) inner t (spot-read ws p key n i inner s) found refl s.rank

pub dip-place : (ws : List ℕ) (p level key n i : ℕ) (inner : Bool) (t : Rests ws p level) → IsSpot ws p key inner n i → inner ≡ true → i ≤ 31
dip-place ws p level key n i inner t s found =
    let g = dives-spot ws p level key n i inner t s found in
    omega (arith, g.few, g.place)

pub dip-made : (ws one mid : List ℕ) (p level key n i child : ℕ) (inner : Bool) (t : Rests ws p level) → length ws < 2 ^ 32 → IsSpot ws p key inner n i → inner ≡ true → one ≡ ws → child ≡ get_or one (at p 32 + i) 0 → mid ≡ one → Dip ws mid p level key n i child t
dip-made ws one mid p level key n i child inner t small s found first load second =
    let g = dives-spot ws p level key n i inner t s found in
    let long = keys-long ws p level key n i inner t s in
    let same : mid ≡ ws = second ∙ first in
    let is : child ≡ get_or (slots_at ws p) i 0 = load ∙ ap (λ w. get_or w (at p 32 + i) 0) first ∙ slot-at ws p i (omega (arith, g.place, g.long)) in
    record {
      goes = g;
      few = omega (arith, g.few, long);
      place = omega (arith, g.place, long);
      same = same;
      is = is;
      rests = subst (λ w. Rests w child (level - 1)) (sym same) (subst (λ x. Rests ws x (level - 1)) (sym is) g.child);
      fits = omega (arith, is, dive-fits ws p level key i (keys_at ws p) (slots_at ws p) t small g);
    }

pub dip-told : (ws mid next : List ℕ) (p level key n i child : ℕ) (x r : Option Node) (t : Rests ws p level) → (s : Dip ws mid p level key n i child t) → ((h : Rests mid child (level - 1)) → Shrinks mid next child (level - 1) key h x) → x ≡ r → Shrinks ws next (get_or (slots_at ws p) i 0) (level - 1) key s.goes.child r
dip-told ws mid next p level key n i child x r t s f e = child-told ws mid next child (get_or (slots_at ws p) i 0) (level - 1) key x r s.goes.child s.same s.is e f

pub dip-same : (ws mid next : List ℕ) (p level key n i child : ℕ) (x : Option Node) (t : Rests ws p level) → Dip ws mid p level key n i child t → ((h : Rests mid child (level - 1)) → Shrinks mid next child (level - 1) key h x) → x ≡ None → Shrinks ws next p level key t None
dip-same ws mid next p level key n i child x t s f e = s.goes.same next (dip-told ws mid next p level key n i child x None t s f e)

-- the node above a short child is read after the child's change
pub dip-few : (ws next : List ℕ) (p level key i : ℕ) (m : Node) (t : Rests ws p level) → (s : Dives ws p level key i (keys_at ws p) (slots_at ws p) t) → Shrinks ws next (get_or (slots_at ws p) i 0) (level - 1) key s.child (Some m) → get_or next (head p) 0 < 64
dip-few ws next p level key i m t s d =
    let shows = s.stays next m d in
    omega (arith, shows.count, s.few)

pub record DipRead (ws next after : List ℕ) (p : ℕ) (inner : Bool) (nk ns : List ℕ) : Type 0 where
  pub keys : nk ≡ keys_at ws p
  pub slots : ns ≡ slots_at ws p
  pub kind : inner ≡ true
  pub same : after ≡ next

pub dip-read : (ws next after : List ℕ) (p level key i : ℕ) (inner : Bool) (nk ns : List ℕ) (m : Node) (t : Rests ws p level) → (s : Dives ws p level key i (keys_at ws p) (slots_at ws p) t) → Shrinks ws next (get_or (slots_at ws p) i 0) (level - 1) key s.child (Some m) → IsRead next p inner nk ns → after ≡ next → DipRead ws next after p inner nk ns
dip-read ws next after p level key i inner nk ns m t s d r same =
    let e = read-shows next p 1 (keys_at ws p) (slots_at ws p) nk ns inner (s.stays next m d) (omega arith) s.long r in
    record { keys = e.0; slots = e.1; kind = e.2; same = same }

pub front-children : (ws next after : List ℕ) (p level key i : ℕ) (inner : Bool) (nk ns : List ℕ) (m : Node) (t : Rests ws p level) → (s : Dives ws p level key i (keys_at ws p) (slots_at ws p) t) → Shrinks ws next (get_or (slots_at ws p) i 0) (level - 1) key s.child (Some m) → DipRead ws next after p inner nk ns → 0 < i → HasPair after (i - 1) nk ns
front-children ws next after p level key i inner nk ns m t s d r some =
    let e : i ≡ suc (i - 1) = omega arith in
    subst (λ w. HasPair w (i - 1) nk ns) (sym r.same) (subst (λ x. HasPair next (i - 1) x ns) (sym r.keys) (subst (λ y. HasPair next (i - 1) (keys_at ws p) y) (sym r.slots) (record { place = omega (arith, s.place); many = s.few; long = s.long; pair = (s.front next m (i - 1) e d).0 })))

pub front-short : (ws next after : List ℕ) (p level key i : ℕ) (inner : Bool) (nk ns : List ℕ) (m : Node) (t : Rests ws p level) → (s : Dives ws p level key i (keys_at ws p) (slots_at ws p) t) → Shrinks ws next (get_or (slots_at ws p) i 0) (level - 1) key s.child (Some m) → DipRead ws next after p inner nk ns → 0 < i → IsShort after (get_or ns (i - 1) 0) m.inner m.keys.items m.slots.items
front-short ws next after p level key i inner nk ns m t s d r some =
    let e : i ≡ suc (i - 1) = omega arith in
    let sizes = s.sizes next m d in
    subst (λ w. IsShort w (get_or ns (i - 1) 0) m.inner m.keys.items m.slots.items) (sym r.same) (subst (λ y. IsShort next (get_or y (i - 1) 0) m.inner m.keys.items m.slots.items) (sym r.slots) (record { beside = (s.front next m (i - 1) e d).1; few = sizes.0; long = sizes.1 }))

abbrev pub FrontMends : (after new : List ℕ) (p j : ℕ) (nk ns : List ℕ) (m : Node) → Result (Option Node) Trouble → Type 0
FrontMends after new p j nk ns m r = (free : List ℕ) → IsHeap after free → (b : Beside after (get_or ns j 0) m.inner) → IfOk r (λ x. MendedBack after new free p j nk ns m.inner (joined_keys m.inner b.keys (get_or nk j 0) m.keys.items) (b.slots ++ m.slots.items) x)

pub front-done : (ws next after new : List ℕ) (p level key i : ℕ) (inner : Bool) (nk ns : List ℕ) (m : Node) (t : Rests ws p level) (r : Result (Option Node) Trouble) → (s : Dives ws p level key i (keys_at ws p) (slots_at ws p) t) → Shrinks ws next (get_or (slots_at ws p) i 0) (level - 1) key s.child (Some m) → DipRead ws next after p inner nk ns → 0 < i
    → FrontMends after new p (i - 1) nk ns m r → IfOk r (λ x. Shrinks ws new p level key t x)
front-done ws next after new p level key i inner nk ns m t r s d a some f =
    let e : i ≡ suc (i - 1) = omega arith in
    front-shrinks ws next new p level key i (i - 1) (keys_at ws p) (slots_at ws p) t m r s e d (subst (λ w. FrontMends w new p (i - 1) (keys_at ws p) (slots_at ws p) m r) a.same (subst (λ x. FrontMends after new p (i - 1) x (slots_at ws p) m r) a.keys (subst (λ y. FrontMends after new p (i - 1) nk y m r) a.slots f)))

pub rear-children : (ws next after : List ℕ) (p level key i : ℕ) (inner : Bool) (nk ns : List ℕ) (m : Node) (t : Rests ws p level) → (s : Dives ws p level key i (keys_at ws p) (slots_at ws p) t) → Shrinks ws next (get_or (slots_at ws p) i 0) (level - 1) key s.child (Some m) → DipRead ws next after p inner nk ns → i ≡ 0 → HasPair after 0 nk ns
rear-children ws next after p level key i inner nk ns m t s d r none =
    subst (λ w. HasPair w 0 nk ns) (sym r.same) (subst (λ x. HasPair next 0 x ns) (sym r.keys) (subst (λ y. HasPair next 0 (keys_at ws p) y) (sym r.slots) (record { place = omega (arith, s.some); many = s.few; long = s.long; pair = (s.rear next m 0 none (omega (arith, s.some)) d).0 })))

pub rear-short : (ws next after : List ℕ) (p level key i : ℕ) (inner : Bool) (nk ns : List ℕ) (m : Node) (t : Rests ws p level) → (s : Dives ws p level key i (keys_at ws p) (slots_at ws p) t) → Shrinks ws next (get_or (slots_at ws p) i 0) (level - 1) key s.child (Some m) → DipRead ws next after p inner nk ns → i ≡ 0 → IsShort after (get_or ns (0 + 1) 0) m.inner m.keys.items m.slots.items
rear-short ws next after p level key i inner nk ns m t s d r none =
    let sizes = s.sizes next m d in
    subst (λ w. IsShort w (get_or ns (0 + 1) 0) m.inner m.keys.items m.slots.items) (sym r.same) (subst (λ y. IsShort next (get_or y (0 + 1) 0) m.inner m.keys.items m.slots.items) (sym r.slots) (record { beside = (s.rear next m 0 none (omega (arith, s.some)) d).1; few = sizes.0; long = sizes.1 }))

abbrev pub RearMends : (after new : List ℕ) (p j : ℕ) (nk ns : List ℕ) (m : Node) → Result (Option Node) Trouble → Type 0
RearMends after new p j nk ns m r = (free : List ℕ) → IsHeap after free → (b : Beside after (get_or ns (j + 1) 0) m.inner) → IfOk r (λ x. MendedBack after new free p j nk ns m.inner (joined_keys m.inner m.keys.items (get_or nk j 0) b.keys) (m.slots.items ++ b.slots) x)

pub rear-done : (ws next after new : List ℕ) (p level key i : ℕ) (inner : Bool) (nk ns : List ℕ) (m : Node) (t : Rests ws p level) (r : Result (Option Node) Trouble) → (s : Dives ws p level key i (keys_at ws p) (slots_at ws p) t) → Shrinks ws next (get_or (slots_at ws p) i 0) (level - 1) key s.child (Some m) → DipRead ws next after p inner nk ns → i ≡ 0
    → RearMends after new p 0 nk ns m r → IfOk r (λ x. Shrinks ws new p level key t x)
rear-done ws next after new p level key i inner nk ns m t r s d a none f =
    rear-shrinks ws next new p level key i 0 (keys_at ws p) (slots_at ws p) t m r s none d (subst (λ w. RearMends w new p 0 (keys_at ws p) (slots_at ws p) m r) a.same (subst (λ x. RearMends after new p 0 x (slots_at ws p) m r) a.keys (subst (λ y. RearMends after new p 0 nk y m r) a.slots f))) (omega (arith, s.some))

-- the way's end
pub land-few : (ws : List ℕ) (p level key n i : ℕ) (inner : Bool) (t : Rests ws p level) → IsSpot ws p key inner n i → inner ≡ false → n ≤ 31
land-few ws p level key n i inner t s missing =
    let l = Rests-lands ws p level key (keys_at ws p) (slots_at ws p) inner t (spot-read ws p key n i inner s) missing in
    omega (arith, l.few, keys-long ws p level key n i inner t s)

pub land-shrinks : (ws one new : List ℕ) (p level key n i : ℕ) (inner : Bool) (t : Rests ws p level) (r : Result (Option Node) Trouble) → IsSpot ws p key inner n i → inner ≡ false → one ≡ ws → LosesPair one p key (λ ks ss. IfOk r (λ x. Back one new p false ks ss x)) → IfOk r (λ x. Shrinks ws new p level key t x)
land-shrinks ws one new p level key n i inner t r s missing same loses =
    leaf-shrinks ws new p level key (keys_at ws p) (slots_at ws p) t r (Rests-lands ws p level key (keys_at ws p) (slots_at ws p) inner t (spot-read ws p key n i inner s) missing) (subst (λ w. LosesPair w p key (λ ks ss. IfOk r (λ x. Back w new p false ks ss x))) same loses)

-- Room for the pages of a run: a run that has it is never refused for want of it.
use Rattle.std.proofs.Common.{◌≡◌, ◌≢◌, ◌⊎◌, inl, inr, Bool, true, false, ℕ, zero, suc, ◌+◌, ◌-◌, ◌*◌, ◌/◌, ◌%◌, ◌<◌, ◌≤◌, List, length, get_or, Option, None, Some, refl, sym, ◌∙◌, ap, subst, arith, [], ◌∷◌, ◌++◌, length-append}
use Rattle.std.specs.Prelude.{IsTrue, Result, Ok, Err, ◌↔◌, ◌==◌, ◌&&◌, nat_lt, is_none, if◌then◌else◌}
use Rattle.std.proofs.lemmas.Bool.{cases_lt, and_cases, and_parts, lt-ltb, ltb-true, ltb-false, ne_eqb}
use Rattle.envy_base.specs.declared.fields.Slot.{Slot}
use Rattle.envy_base.specs.declared.fields.Slot.TheVariants.{Vacant, Active, Committed}
use Rattle.envy_base.specs.declared.shape.Shape.{Shape}
use Rattle.envy_map.specs.Fields.{Chart, slot}
use Rattle.envy_txn.specs.Owners.{Ownership, owner_of}
use Rattle.envy_txn.proofs.OwnerLemmas.{owner_of-push}
use Rattle.envy_memory.specs.Below.{IsFull}
use Rattle.envy_memory.specs.Calls.{Works}
use Rattle.envy_memory.specs.Effects.{PutEffect, is_unowned}
use Rattle.envy_memory.specs.Picture.{Picture}
use Rattle.envy_memory.specs.PutRuns.{EndsRun, PutsBy, PutsRun, PutsWord}
use Rattle.envy_memory.specs.Rooms.{LacksRoom, pages_within, unowned}
use Rattle.envy_memory.specs.Runs.{is_more, pages_met}
use Rattle.envy_memory.specs.declared.faults.PutFault.{PutFault}
use Rattle.envy_memory.specs.declared.faults.PutFault.TheVariants.{Off, Range, Closed, Full}
use Rattle.envy_memory.proofs.Facts.{on-from}
use Rattle.envy_memory.proofs.PutAnswers.{Answer, dark}
use Rattle.envy_memory.proofs.PutRuns.{on-before}

-- ---- numbers

both-some : (x y : ℕ) → (nat_lt 0 x && nat_lt 0 y) ≡ true → (0 < x) × (0 < y)
both-some x y e = let (left, right) = and_parts (nat_lt 0 x) (nat_lt 0 y) e in (ltb-true 0 x left, ltb-true 0 y right)

one-none : (x y : ℕ) → (nat_lt 0 x && nat_lt 0 y) ≡ false → (x ≡ 0) ⊎ (y ≡ 0)
one-none x y e = at (and_cases (nat_lt 0 x) (nat_lt 0 y) e)
  where
    at : (nat_lt 0 x ≡ false) ⊎ (nat_lt 0 y ≡ false) → (x ≡ 0) ⊎ (y ≡ 0)
    at (inl left) = let few = ltb-false 0 x left in inl (omega (arith, few))
    at (inr right) = let few = ltb-false 0 y right in inr (omega (arith, few))

-- a word that is one more meets no further page
met-same : (a k : ℕ) → is_more a k ≡ true → pages_met a (suc k) ≡ pages_met a k
met-same a zero e = absurd (let no : false ≡ true = e in cc)
met-same a (suc j) e = let more = both-some (suc j) ((a + suc j) % 32) e in let some = more.1 in omega arith

-- another word meets the page behind them
met-next : (a k : ℕ) → is_more a k ≡ false → (pages_met a (suc k) ≡ suc (pages_met a k)) × (a / 32 + pages_met a k ≡ (a + k) / 32)
met-next a zero e = (omega arith, omega arith)
met-next a (suc j) e = at (one-none (suc j) ((a + suc j) % 32) e)
  where
    at : (suc j ≡ 0) ⊎ ((a + suc j) % 32 ≡ 0) → (pages_met a (suc (suc j)) ≡ suc (pages_met a (suc j))) × (a / 32 + pages_met a (suc j) ≡ (a + suc j) / 32)
    at (inl first) = absurd (omega (arith, first))
    at (inr is) = (omega (arith, is), omega (arith, is))

-- the pages of the first words are among the run's
met-within : (a k n pages : ℕ) → k < n → a + k < 32 * pages → pages_met a (suc k) ≤ pages_within a n pages
met-within a k zero pages lt in_pages = absurd (omega (arith, lt))
met-within a k (suc n) pages lt in_pages = omega arith

unowned-more : (m n p : ℕ) (o : Ownership) → m ≤ n → unowned m p o ≤ unowned n p o
unowned-more m zero p o le = let is : m ≡ 0 = omega arith in subst (λ (x : ℕ). unowned x p o ≤ 0) (sym is) (omega arith)
unowned-more m (suc n) p o le = at (cases_lt n m) (unowned-more m n p o)
  where
    at : (n < m) ⊎ (m ≤ n) → (m ≤ n → unowned m p o ≤ unowned n p o) → unowned m p o ≤ unowned (suc n) p o
    at (inl lt) rest = let is : m ≡ suc n = omega arith in subst (λ (x : ℕ). unowned x p o ≤ unowned (suc n) p o) (sym is) (omega arith)
    at (inr few) rest = let less = rest few in omega (arith, less)

-- ---- owners

-- what the puts of a run do to the owners: the pages that they meet are owned, and no others
record Grows (k a : ℕ) (p r : Picture) : Type 0 where
  pub count : length r.owned.pairs ≡ length p.owned.pairs + unowned (pages_met a k) (a / 32) p.owned
  pub apart : (page : ℕ) → a / 32 + pages_met a k ≤ page → owner_of r.owned.pairs page ≡ owner_of p.owned.pairs page
  pub shape : r.chart.shape ≡ p.chart.shape

grows-same : (k a : ℕ) (p r q : Picture) → is_more a k ≡ true → q.owned ≡ r.owned → q.chart.shape ≡ r.chart.shape → Grows k a p r → Grows (suc k) a p q
grows-same k a p r q more owned shape g = record {
  count = ap (λ (o : Ownership). length o.pairs) owned ∙ g.count ∙ ap (λ (n : ℕ). length p.owned.pairs + unowned n (a / 32) p.owned) (sym (met-same a k more));
  apart = λ page le. let same = met-same a k more in ap (λ (o : Ownership). owner_of o.pairs page) owned ∙ g.apart page (omega arith);
  shape = shape ∙ g.shape;
}

-- a page that the slot owns already
grows-owned : (k a t : ℕ) (p r q : Picture) → is_more a k ≡ false → owner_of r.owned.pairs ((a + k) / 32) ≡ Some t → q.owned ≡ r.owned → q.chart.shape ≡ r.chart.shape → Grows k a p r → Grows (suc k) a p q
grows-owned k a t p r q more own owned shape g =
    let (next, here) = met-next a k more in
    let before : owner_of p.owned.pairs (a / 32 + pages_met a k) ≡ Some t = sym (g.apart (a / 32 + pages_met a k) (omega arith)) ∙ ap (owner_of r.owned.pairs) here ∙ own in
    let none : is_unowned p.owned (a / 32 + pages_met a k) ≡ false = ap (λ (x : Option ℕ). is_none x) before in
    let grown : unowned (suc (pages_met a k)) (a / 32) p.owned ≡ unowned (pages_met a k) (a / 32) p.owned = ap (λ (b : Bool). (if b then 1 else 0) + unowned (pages_met a k) (a / 32) p.owned) none ∙ omega arith in
    record {
      count = ap (λ (o : Ownership). length o.pairs) owned ∙ g.count ∙ ap (λ (n : ℕ). length p.owned.pairs + n) (sym grown) ∙ ap (λ (n : ℕ). length p.owned.pairs + unowned n (a / 32) p.owned) (sym next);
      apart = λ page le. ap (λ (o : Ownership). owner_of o.pairs page) owned ∙ g.apart page (omega arith);
      shape = shape ∙ g.shape;
    }

-- a page that comes to the slot
grows-first : (k a t : ℕ) (p r q : Picture) → is_more a k ≡ false → owner_of r.owned.pairs ((a + k) / 32) ≡ None → q.owned ≡ record r.owned { pairs = r.owned.pairs ++ (record { page = (a + k) / 32; slot = t }) ∷ [] } → q.chart.shape ≡ r.chart.shape → Grows k a p r → Grows (suc k) a p q
grows-first k a t p r q more none gives shape g =
    let (next, here) = met-next a k more in
    let before : owner_of p.owned.pairs (a / 32 + pages_met a k) ≡ None = sym (g.apart (a / 32 + pages_met a k) (omega arith)) ∙ ap (owner_of r.owned.pairs) here ∙ none in
    let free : is_unowned p.owned (a / 32 + pages_met a k) ≡ true = ap (λ (x : Option ℕ). is_none x) before in
    let grown : unowned (suc (pages_met a k)) (a / 32) p.owned ≡ 1 + unowned (pages_met a k) (a / 32) p.owned = ap (λ (b : Bool). (if b then 1 else 0) + unowned (pages_met a k) (a / 32) p.owned) free in
    let longer : length q.owned.pairs ≡ length r.owned.pairs + 1 = ap (λ (o : Ownership). length o.pairs) gives ∙ length-append r.owned.pairs ((record { page = (a + k) / 32; slot = t }) ∷ []) in
    let same = g.count in
    let all : length q.owned.pairs ≡ length p.owned.pairs + unowned (suc (pages_met a k)) (a / 32) p.owned = omega (arith, longer, same, grown) in
    record {
      count = all ∙ ap (λ (n : ℕ). length p.owned.pairs + unowned n (a / 32) p.owned) (sym next);
      apart = λ page le.
          let other : ((a + k) / 32 == page) ≡ false = ne_eqb ((a + k) / 32) page (λ e. omega (arith, e, le, next, here)) in
          ap (λ (o : Ownership). owner_of o.pairs page) gives
          ∙ owner_of-push r.owned.pairs (record { page = (a + k) / 32; slot = t }) page none
          ∙ ap (λ (b : Bool). if b then Some t else owner_of r.owned.pairs page) other
          ∙ g.apart page (omega (arith, le, next));
      shape = shape ∙ g.shape;
    }

grows-by : (k a t : ℕ) (p r q : Picture) → is_more a k ≡ false → PutEffect t ((a + k) / 32) r q → q.chart.shape ≡ r.chart.shape → Grows k a p r → Grows (suc k) a p q
grows-by k a t p r q more (inl (own, stored, same)) shape g = grows-owned k a t p r q more own same shape g
grows-by k a t p r q more (inr (none, shaded, gives)) shape g = grows-first k a t p r q more none gives shape g

grows : (k t a : ℕ) (words : List ℕ) (p r : Picture) → PutsRun k words t a p r → Grows k a p r
grows zero t a words p r e = record {
  count = ap (λ (x : Picture). length x.owned.pairs) e ∙ omega arith;
  apart = λ page le. ap (λ (x : Picture). owner_of x.owned.pairs page) e;
  shape = ap (λ (x : Picture). x.chart.shape) e;
}
grows (suc k) t a words p q (r, puts, last) = at (is_more a k) refl last (grows k t a words p r puts)
  where
    at : (b : Bool) → is_more a k ≡ b → PutsBy b t (a + k) (get_or words k 0) (Ok tt) r q → Grows k a p r → Grows (suc k) a p q
    at true is more = grows-same k a p r q is (ap (λ (x : Picture). x.owned) more.kept) (Works.shape more.works)
    at false is first = let below = first.below in grows-by k a t p r q is below.does (Works.shape below.works)

-- ---- power, and the slot

lit-before : (b : Bool) (t a w : ℕ) (answer : Result Unit PutFault) (p q : Picture) → PutsBy b t a w answer p q → IsTrue q.chart.on → IsTrue p.chart.on
lit-before false t a w answer p q puts on = let below = puts.below in on-before p q below.unpowered on
lit-before true t a w answer p q puts on = on-from p.chart.on (λ off. dark q (ap (λ (c : Chart). c.on) (Works.idle puts.works off) ∙ off) on)

lit-run : (k t a : ℕ) (words : List ℕ) (p r : Picture) → PutsRun k words t a p r → IsTrue r.chart.on → IsTrue p.chart.on
lit-run zero t a words p r e on = subst (λ (x : Picture). IsTrue x.chart.on) e on
lit-run (suc k) t a words p q (r, puts, last) on = lit-run k t a words p r puts (lit-before (is_more a k) t (a + k) (get_or words k 0) (Ok tt) r q last on)

known-slot : (s : Option Slot) → (s ≡ Some Active) ⊎ (s ≢ Some Active)
known-slot None = inr (λ e. absurd (let no : ◌≡◌ {A = Option Slot} None (Some Active) = e in cc))
known-slot (Some Vacant) = inr (λ e. absurd (let no : ◌≡◌ {A = Option Slot} (Some Vacant) (Some Active) = e in cc))
known-slot (Some Committed) = inr (λ e. absurd (let no : ◌≡◌ {A = Option Slot} (Some Committed) (Some Active) = e in cc))
known-slot (Some Active) = inl refl

-- a slot that a word was put by is open
open-first : (t a w : ℕ) (p q : Picture) → IsTrue p.chart.on → PutsWord t a w (Ok tt) p q → slot p.chart.fields t ≡ Some Active
open-first t a w p q on puts = at (known-slot (slot p.chart.fields t)) (cases_lt a (32 * p.chart.shape.pages))
  where
    at : (slot p.chart.fields t ≡ Some Active) ⊎ (slot p.chart.fields t ≢ Some Active) → (a < 32 * p.chart.shape.pages) ⊎ (32 * p.chart.shape.pages ≤ a) → slot p.chart.fields t ≡ Some Active
    at (inl is) within = is
    at (inr not) (inl lt) = absurd (let no : ◌≡◌ {A = Answer} (Ok tt) (Err Closed) = puts.closed.1 (on, lt, not) in cc)
    at (inr not) (inr ge) = absurd (let no : ◌≡◌ {A = Answer} (Ok tt) (Err Range) = puts.range.1 (on, ge) in cc)

-- the first word of a run
first-put : (k t a : ℕ) (words : List ℕ) (p q : Picture) → PutsRun (suc k) words t a p q → (r : Picture) × PutsWord t (a + 0) (get_or words 0 0) (Ok tt) p r
first-put zero t a words p q (r, e, first) = (q, subst (λ (x : Picture). PutsWord t (a + 0) (get_or words 0 0) (Ok tt) x q) e first)
first-put (suc k) t a words p q (r, puts, last) = first-put k t a words p r puts

open-run : (k t a : ℕ) (words : List ℕ) (p r : Picture) → PutsRun k words t a p r → IsTrue p.chart.on → slot r.chart.fields t ≡ Some Active → slot p.chart.fields t ≡ Some Active
open-run zero t a words p r e on active = subst (λ (x : Picture). slot x.chart.fields t ≡ Some Active) e active
open-run (suc k) t a words p r puts on active = let (next, first) = first-put k t a words p r puts in open-first t (a + 0) (get_or words 0 0) p next on first

-- ---- a word that is refused for want of room

lacks : (k n t a : ℕ) (p r : Picture) → k < n → is_more a k ≡ false → IsTrue p.chart.on → slot p.chart.fields t ≡ Some Active → Grows k a p r → IsFull t (a + k) r → LacksRoom t a n p
lacks k n t a p r lt more on active g (lit, within, active_there, none, full) =
    let (next, here) = met-next a k more in
    let pages : r.chart.shape.pages ≡ p.chart.shape.pages = ap (λ (sh : Shape). sh.pages) g.shape in
    let shadows : r.chart.shape.shadows ≡ p.chart.shape.shadows = ap (λ (sh : Shape). sh.shadows) g.shape in
    let before : owner_of p.owned.pairs (a / 32 + pages_met a k) ≡ None = sym (g.apart (a / 32 + pages_met a k) (omega arith)) ∙ ap (owner_of r.owned.pairs) here ∙ none in
    let free : is_unowned p.owned (a / 32 + pages_met a k) ≡ true = ap (λ (x : Option ℕ). is_none x) before in
    let grown : unowned (suc (pages_met a k)) (a / 32) p.owned ≡ 1 + unowned (pages_met a k) (a / 32) p.owned = ap (λ (b : Bool). (if b then 1 else 0) + unowned (pages_met a k) (a / 32) p.owned) free in
    let few : suc (pages_met a k) ≤ pages_within a n p.chart.shape.pages = subst (λ (m : ℕ). m ≤ pages_within a n p.chart.shape.pages) next (met-within a k n p.chart.shape.pages lt (subst (λ (m : ℕ). a + k < 32 * m) pages within)) in
    let most = unowned-more (suc (pages_met a k)) (pages_within a n p.chart.shape.pages) (a / 32) p.owned few in
    let same = g.count in
    (on, active, omega (arith, most, grown, same, full, shadows))

-- a run of which a word was refused for want of room lacked it as a whole
pub lacks-run : (k n t a w : ℕ) (words : List ℕ) (p r q : Picture) → k < n → PutsRun k words t a p r → PutsBy (is_more a k) t (a + k) w (Err Full) r q → LacksRoom t a n p
lacks-run k n t a w words p r q lt puts last = at (is_more a k) refl last
  where
    at : (b : Bool) → is_more a k ≡ b → PutsBy b t (a + k) w (Err Full) r q → LacksRoom t a n p
    at true is more = ends more.ends
      where
        ends : (◌≡◌ {A = Answer} (Err Full) (Ok tt)) ⊎ (◌≡◌ {A = Answer} (Err Full) (Err Off)) → LacksRoom t a n p
        ends (inl e) = absurd (let no : ◌≡◌ {A = Answer} (Err Full) (Ok tt) = e in cc)
        ends (inr e) = absurd (let no : ◌≡◌ {A = Answer} (Err Full) (Err Off) = e in cc)
    at false is first =
        let full = first.full.0 refl in
        let on = lit-run k t a words p r puts full.0 in
        lacks k n t a p r lt is on (open-run k t a words p r puts on full.2) (grows k t a words p r puts) full

-- a run that has room is put as far as its words' other answers allow
pub never-full : (k n t a : ℕ) (words : List ℕ) (answer : Answer) (p r q : Picture) → n ≡ length words → PutsRun k words t a p r → EndsRun r q t a words k answer → answer ≡ Err Full → LacksRoom t a n p
never-full k n t a words answer p r q long puts (inl (all, same, done)) full = absurd (let no : ◌≡◌ {A = Answer} (Ok tt) (Err Full) = sym done ∙ full in cc)
never-full k n t a words answer p r q long puts (inr (few, undone, last)) full =
    lacks-run k n t a (get_or words k 0) words p r q (omega (arith, few, long)) puts (subst (λ (x : Answer). PutsBy (is_more a k) t (a + k) (get_or words k 0) x r q) full last)

-- ---- the test of a run's room

unowned-few : (n p : ℕ) (o : Ownership) → unowned n p o ≤ n
unowned-few zero p o = omega arith
unowned-few (suc n) p o = at (is_unowned o (p + n)) (unowned-few n p o)
  where
    at : (b : Bool) → unowned n p o ≤ n → (if b then 1 else 0) + unowned n p o ≤ suc n
    at true less = omega (arith, less)
    at false less = omega (arith, less)

-- a run that meets no more pages than may yet be owned has room
pub few-pages : (t a n shadows count pages : ℕ) (p : Picture) → shadows ≡ p.chart.shape.shadows → count ≡ length p.owned.pairs → count ≤ shadows → pages ≡ pages_within a n p.chart.shape.pages → pages ≤ shadows - count → LacksRoom t a n p → ⊥
few-pages t a n shadows count pages p is_shadows is_count few is_pages le (on, active, over) =
    let most = unowned-few (pages_within a n p.chart.shape.pages) (a / 32) p.owned in
    omega (arith, is_shadows, is_count, few, is_pages, le, over, most)

-- those of its pages that no slot owns were counted
pub room-counted : (t a n shadows count pages found : ℕ) (p : Picture) → shadows ≡ p.chart.shape.shadows → count ≡ length p.owned.pairs → count ≤ shadows → pages ≡ pages_within a n p.chart.shape.pages → found ≡ unowned pages (a / 32) p.owned → IsTrue p.chart.on → slot p.chart.fields t ≡ Some Active
    → IsTrue (nat_lt (shadows - count) found) ↔ LacksRoom t a n p
room-counted t a n shadows count pages found p is_shadows is_count few is_pages counted on active =
    let all : found ≡ unowned (pages_within a n p.chart.shape.pages) (a / 32) p.owned = counted ∙ ap (λ (k : ℕ). unowned k (a / 32) p.owned) is_pages in (
      λ over. let more = ltb-true (shadows - count) found over in (on, active, omega (arith, is_shadows, is_count, few, all, more)),
      λ lacking. let more = lacking.2 in lt-ltb (shadows - count) found (omega (arith, is_shadows, is_count, few, all, more)),
    )

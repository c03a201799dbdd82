-- One transaction on the plain array.
use Rattle.std.proofs.Common.{◌≡◌, ◌≢◌, ◌⊎◌, inl, inr, ℕ, suc, ◌<◌, ◌≤◌, ◌+◌, false, cond, List, [], ◌∷◌, length, get_or, set, replicate, Option, None, Some, is_some, refl, sym, ◌∙◌, ap, subst, arith}
use Rattle.std.specs.Prelude.{slice_index, slice_set}
use Rattle.envy_array.specs.Array.{Array, Saved, IsArray, page_of, slot_of, owns, owner, owned, is_closed, undo_all, undone, with_slot, stored, put, saving}
use Rattle.envy_array.specs.Step.{Answer, Begin, Put, Commit, Done, Started, Range, Held, Closed as ClosedAnswer, Full, Busy, Step, Lost}
use Rattle.envy_array.proofs.Owning.{position-None, owner-Some, owner-nobody, owned-none, slot_cases, slot-within, owner-put_here, owned-put}
use Rattle.envy_array.proofs.Keeping.{first-closed, step-keeps}
use Rattle.envy_array.proofs.Undoing.{undone-begun, undone-put, has}
use Rattle.envy_memory.proofs.Facts.{none-open}
use Rattle.envy_memory.specs.Calls.{fresh}
use Rattle.envy_tpca.specs.Trying.{Open}

-- these words, with no slot open
pub record Closed (now : List ℕ) (m : Array) : Type 0 where
  pub array : IsArray m
  pub slots : (u : ℕ) → slot_of m u ≡ None
  pub words : m.words ≡ now

abbrev pub BeginLaw : Type 0
BeginLaw = (words : List ℕ) (m : Array) → Closed words m
    → ((answer : Answer) (n : Array) → Step m Begin answer n → (t : ℕ) × (answer ≡ Started t) × Open words words t 0 n)
    × ((n : Array) → Lost m Begin n → n.words ≡ words)

-- after a put to page p it owns so many pages at most: it owned p, or there was room
abbrev pub Grows : Array → ℕ → ℕ → ℕ → ℕ → Type 0
Grows m t p few more = ((owner m p ≡ Some t) × (more ≡ few)) ⊎ ((few < m.shadows) × (more ≡ few + 1))

abbrev pub PutLaw : Type 0
PutLaw = (before now : List ℕ) (t few more a w : ℕ) (m : Array) → Open before now t few m → a < length now → Grows m t (page_of a) few more
    → ((answer : Answer) (n : Array) → Step m (Put t a w) answer n → (answer ≡ Done) × Open before (slice_set now a w) t more n × (n.shadows ≡ m.shadows) × (owner n (page_of a) ≡ Some t))
    × ((n : Array) → Lost m (Put t a w) n → n.words ≡ before)

abbrev pub CommitLaw : Type 0
CommitLaw = (before now : List ℕ) (t few : ℕ) (m : Array) → Open before now t few m
    → ((answer : Answer) (n : Array) → Step m (Commit t) answer n → (answer ≡ Done) × Closed now n)
    × ((n : Array) → Lost m (Commit t) n → (n.words ≡ before) ⊎ (n.words ≡ now))

-- no slot is open: nothing is undone
undo-closed : (slots : List (Option Saved)) (words : List ℕ) → ((u : ℕ) → get_or slots u None ≡ None) → undo_all slots words ≡ words
undo-closed [] words none = refl
undo-closed (None ∷ slots) words none = undo-closed slots words (λ u. none (suc u))
undo-closed (Some saved ∷ slots) words none = let no = none 0 in cc

-- with no slot open nothing is undone
pub undone-closed : (m : Array) → ((u : ℕ) → slot_of m u ≡ None) → undone m ≡ m.words
undone-closed m none = undo-closed m.slots m.words none

nobody : (m : Array) → ((u : ℕ) → slot_of m u ≡ None) → (p : ℕ) → owner m p ≡ None
nobody m none p = owner-nobody m p (λ u. ap (owns p) (none u))

-- ---- begin

begun : (words : List ℕ) (m : Array) → Closed words m → (answer : Answer) (n : Array) → Step m Begin answer n → (t : ℕ) × (answer ≡ Started t) × Open words words t 0 n
begun words m c Busy n (none, same) =
    let first = position-None is_closed m.slots none 0 None (let e = c.array.slots in omega arith) in
    let at = ap is_closed (c.slots 0) in cc
begun words m c (Started t) n (first, same) = (t, refl, subst (Open words words t 0) (sym same) opens)
  where
    found : (t < length m.slots) × (slot_of m t ≡ None)
    found = first-closed m t first

    k : Array
    k = with_slot m t (Some [])

    at : (u : ℕ) → ((u ≡ t) × (slot_of k u ≡ Some [])) ⊎ ((u ≢ t) × (slot_of k u ≡ slot_of m u))
    at u = slot_cases m t u (Some []) found.0

    mine : ((t ≡ t) × (slot_of k t ≡ Some [])) ⊎ ((t ≢ t) × (slot_of k t ≡ slot_of m t)) → slot_of k t ≡ Some []
    mine (inl (same, is)) = is
    mine (inr (other, is)) = absurd (other refl)

    other_slot : (u : ℕ) → u ≢ t → ((u ≡ t) × (slot_of k u ≡ Some [])) ⊎ ((u ≢ t) × (slot_of k u ≡ slot_of m u)) → slot_of k u ≡ None
    other_slot u ne (inl (same, is)) = absurd (ne same)
    other_slot u ne (inr (other, is)) = is ∙ c.slots u

    no_owner : (p u : ℕ) → ((u ≡ t) × (slot_of k u ≡ Some [])) ⊎ ((u ≢ t) × (slot_of k u ≡ slot_of m u)) → owns p (slot_of k u) ≡ false
    no_owner p u (inl (same, is)) = ap (owns p) is
    no_owner p u (inr (other, is)) = ap (owns p) (is ∙ c.slots u)

    opens : Open words words t 0 k
    opens = record {
      array = step-keeps m k Begin (Started t) c.array (first, refl);
      saved = [];
      slot = mine (at t);
      others = λ u ne. other_slot u ne (at u);
      words = c.words;
      undone = undone-begun m t found.1 ∙ undone-closed m c.slots ∙ c.words;
      few = let e = owned-none k (λ p. owner-nobody k p (λ u. no_owner p u (at u))) in omega arith;
    }
begun words m c answer n never = absurd never

begin-lost : (words : List ℕ) (m : Array) → Closed words m → (n : Array) → Lost m Begin n → n.words ≡ words
begin-lost words m c n (k, (answer, step, accepted), inl same) = ap (λ (a : Array). a.words) same ∙ undone-closed m c.slots ∙ c.words
begin-lost words m c n (k, (answer, step, accepted), inr same) = let o = begun words m c answer k step in ap (λ (a : Array). a.words) same ∙ o.2.undone

pub begin-law : BeginLaw
begin-law words m c = (begun words m c, begin-lost words m c)

-- ---- put

put_done : (before now : List ℕ) (t few more a w : ℕ) (m : Array) → Open before now t few m → a < length now → Grows m t (page_of a) few more → (answer : Answer) (n : Array) → Step m (Put t a w) answer n → (answer ≡ Done) × Open before (slice_set now a w) t more n × (n.shadows ≡ m.shadows) × (owner n (page_of a) ≡ Some t)
put_done before now t few more a w m o lt grows Range n (le, same) = let e = ap (λ (ws : List ℕ). length ws) o.words in absurd (omega arith)
put_done before now t few more a w m o lt grows ClosedAnswer n (room, closed, same) = let e = o.slot in cc
put_done before now t few more a w m o lt grows (Held u) n (room, is_open, is, other, same) =
    let own = (owner-Some m (page_of a) u is).1 in
    let none = ap (owns (page_of a)) (o.others u other) in cc
put_done before now t few more a w m o lt grows Full n (room, is_open, free, full, same) = absurd (by grows)
  where
    by : Grows m t (page_of a) few more → ⊥
    by (inl (mine, same)) = cc
    by (inr (room, same)) = let few = o.few in omega arith
put_done before now t few more a w m o lt grows Done n (room, may, saved, is, same) =
    (refl, subst (Open before (slice_set now a w) t more) (sym same) opens, ap (λ (k : Array). k.shadows) same, ap (λ (k : Array). owner k (page_of a)) same ∙ owner-put_here m t a w saved is may o.array.apart)
  where
    k : Array
    k = put m t saved a w

    list : Saved
    list = saving a (slice_index m.words a) saved

    at : (u : ℕ) → ((u ≡ t) × (slot_of k u ≡ Some list)) ⊎ ((u ≢ t) × (slot_of k u ≡ slot_of m u))
    at u = slot_cases (stored m a w) t u (Some list) (slot-within m t saved is)

    mine : ((t ≡ t) × (slot_of k t ≡ Some list)) ⊎ ((t ≢ t) × (slot_of k t ≡ slot_of m t)) → slot_of k t ≡ Some list
    mine (inl (same, is)) = is
    mine (inr (other, is)) = absurd (other refl)

    other_slot : (u : ℕ) → u ≢ t → ((u ≡ t) × (slot_of k u ≡ Some list)) ⊎ ((u ≢ t) × (slot_of k u ≡ slot_of m u)) → slot_of k u ≡ None
    other_slot u ne (inl (same, is)) = absurd (ne same)
    other_slot u ne (inr (other, is)) = is ∙ o.others u ne

    count : owned k + cond (is_some (owner m (page_of a))) 1 0 ≡ owned m + 1
    count = owned-put m t a w saved o.array.whole o.array.apart room is may

    few_of : Grows m t (page_of a) few more → owned k ≤ more
    few_of (inl (mine, same)) = let sum : owned k + 1 ≡ owned m + 1 = rw mine at count in let few = o.few in omega arith
    few_of (inr (room, same)) = let few = o.few in let sum = count in omega arith

    opens : Open before (slice_set now a w) t more k
    opens = record {
      array = step-keeps m k (Put t a w) Done o.array (room, may, saved, is, refl);
      saved = list;
      slot = mine (at t);
      others = λ u ne. other_slot u ne (at u);
      words = ap (λ (ws : List ℕ). set ws a w) o.words;
      undone = undone-put m t a w saved is (λ u ne. ap (has a) (o.others u ne)) ∙ o.undone;
      few = few_of grows;
    }
put_done before now t few more a w m o lt grows answer n never = absurd never

put-lost : (before now : List ℕ) (t few more a w : ℕ) (m : Array) → Open before now t few m → a < length now → Grows m t (page_of a) few more → (n : Array) → Lost m (Put t a w) n → n.words ≡ before
put-lost before now t few more a w m o lt grows n (k, (answer, step, accepted), inl same) = ap (λ (a : Array). a.words) same ∙ o.undone
put-lost before now t few more a w m o lt grows n (k, (answer, step, accepted), inr same) = let d = put_done before now t few more a w m o lt grows answer k step in ap (λ (a : Array). a.words) same ∙ d.1.undone

pub put-law : PutLaw
put-law before now t few more a w m o lt grows = (put_done before now t few more a w m o lt grows, put-lost before now t few more a w m o lt grows)

-- ---- commit

committed : (before now : List ℕ) (t few : ℕ) (m : Array) → Open before now t few m → (answer : Answer) (n : Array) → Step m (Commit t) answer n → (answer ≡ Done) × Closed now n
committed before now t few m o ClosedAnswer n (closed, same) = let e = o.slot in cc
committed before now t few m o Done n (is_open, same) = (refl, subst (Closed now) (sym same) closes)
  where
    k : Array
    k = with_slot m t None

    none : (u : ℕ) → ((u ≡ t) × (slot_of k u ≡ None)) ⊎ ((u ≢ t) × (slot_of k u ≡ slot_of m u)) → slot_of k u ≡ None
    none u (inl (same, is)) = is
    none u (inr (other, is)) = is ∙ o.others u other

    closes : Closed now k
    closes = record {
      array = step-keeps m k (Commit t) Done o.array (is_open, refl);
      slots = λ u. none u (slot_cases m t u None (slot-within m t o.saved o.slot));
      words = o.words;
    }
committed before now t few m o answer n never = absurd never

commit-lost : (before now : List ℕ) (t few : ℕ) (m : Array) → Open before now t few m → (n : Array) → Lost m (Commit t) n → (n.words ≡ before) ⊎ (n.words ≡ now)
commit-lost before now t few m o n (k, (answer, step, accepted), inl same) = inl (ap (λ (a : Array). a.words) same ∙ o.undone)
commit-lost before now t few m o n (k, (answer, step, accepted), inr same) =
    let c = committed before now t few m o answer k step in
    inr (ap (λ (a : Array). a.words) same ∙ undone-closed k c.1.slots ∙ c.1.words)

pub commit-law : CommitLaw
commit-law before now t few m o = (committed before now t few m o, commit-lost before now t few m o)

-- ---- an array with no slot open

all-none : (slots : List (Option Saved)) → ((u : ℕ) → get_or slots u None ≡ None) → slots ≡ replicate (length slots) None
all-none [] none = refl
all-none (None ∷ slots) none = ap (λ (rest : List (Option Saved)). None ∷ rest) (all-none slots (λ u. none (suc u)))
all-none (Some saved ∷ slots) none = let no = none 0 in cc

-- a fresh array has no slot open
pub closed-fresh : (shadows : ℕ) (words : List ℕ) → IsArray (fresh shadows words) → Closed words (fresh shadows words)
closed-fresh shadows words array = record { array = array; slots = λ u. none-open 64 u; words = refl }

-- and one with none open is fresh
pub fresh-closed : (words : List ℕ) (m : Array) → Closed words m → m ≡ fresh m.shadows words
fresh-closed words m c =
    let slots : m.slots ≡ replicate 64 None = all-none m.slots c.slots ∙ ap (λ (n : ℕ). replicate n None) c.array.slots in
    ap (λ (ws : List ℕ). record { words = ws; slots = m.slots; shadows = m.shadows }) c.words ∙ ap (λ (ss : List (Option Saved)). record { words = words; slots = ss; shadows = m.shadows }) slots

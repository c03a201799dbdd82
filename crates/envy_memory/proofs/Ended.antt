-- A memory with one transaction: how it ends, and what each answer leaves.
use Rattle.std.proofs.Common.{◌≡◌, ◌≢◌, ◌⊎◌, inl, inr, ℕ, ◌*◌, ◌/◌, ◌^◌, ◌<◌, ◌≤◌, Bool, true, false, List, [], ◌∷◌, length, Option, None, Some, refl, sym, ◌∙◌, ap, subst, arith}
use Rattle.std.specs.Prelude.{◌&&◌, ◌==◌, ◌↔◌, IsTrue, Result, Ok, Err, IsErrOf, replicate, slice_set}
use Rattle.std.proofs.Math.Logic.{∥∥₁_elim, ∥∥₁_map}
use Rattle.std.proofs.Props.{props}
use Rattle.std.proofs.lemmas.Bool.{cases_eq, cases_lt, eq-eqb}
use Rattle.std.proofs.lemmas.List.{get_or_past}
use Rattle.envy_base.specs.declared.faults.PlannedFault.{PlannedFault}
use Rattle.envy_array.specs.Array.{Array, Saved, slot_of, undone, owns, owner, put_back, aborted}
use Rattle.envy_array.specs.Step.{Answer, Step, Lost, Commit, Abort, Done, Closed}
use Rattle.envy_array.specs.Words.{OnPage, Puts as SheetPuts, has}
use Rattle.envy_base.specs.Shape.{version_of}
use Rattle.envy_base.specs.declared.fields.Slot.{Slot}
use Rattle.envy_base.specs.declared.fields.Slot.TheVariants.{Active, Committed, Vacant}
use Rattle.envy_base.specs.declared.shape.Shape.{Shape}
use Rattle.envy_array.proofs.Owning.{owner-nobody}
use Rattle.envy_array.proofs.Undoing.{undo_all-closed}
use Rattle.envy_map.specs.Codes.{the_magic}
use Rattle.envy_map.specs.Fields.{Chart, slot, undo}
use Rattle.envy_soundness.specs.Sound.{Sound, IsSound, Slots, slot_named}
use Rattle.envy_meaning.proofs.Owners.{owner_in-holds}
use Rattle.envy_soundness.proofs.WordLists.{length-durable}
use Rattle.envy_meaning.specs.Stands.{Holds, Stands, Steps, IsLost, slot_word}
use Rattle.envy_soundness.specs.Words.{live, durable}
use Rattle.envy_txn.specs.Owners.{Ownership, AreOwned, owner_of, owner_in}
use Rattle.envy_txn.specs.declared.pair.Pair.{Pair}
use Rattle.envy_memory.proofs.AttachLemmas.{IsArray-fresh}
use Rattle.envy_memory.specs.Below.{PutsBelow, IsPast, IsShutTo, IsFull, flush_programs, flush_erases}
use Rattle.envy_memory.specs.Calls.{Begins, Puts, Commits, Aborts, Works, IsCut, HasFailed, fresh, planned}
use Rattle.envy_memory.specs.Faults.{IsNoRefusal, trouble_of}
use Rattle.envy_memory.specs.Lawful.{words_long}
use Rattle.envy_memory.specs.Picture.{Picture}
use Rattle.envy_memory.specs.Sheets.{sheet_of, IsHeld}
use Rattle.envy_memory.specs.declared.faults.BeginFault.{BeginFault}
use Rattle.envy_memory.specs.declared.faults.EndFault.{EndFault}
use Rattle.envy_memory.specs.declared.faults.BeginFault.TheVariants.{Off as BeginOff, Busy as BeginBusy}
use Rattle.envy_memory.specs.declared.faults.PutFault.{PutFault}
use Rattle.envy_memory.specs.declared.faults.PutFault.TheVariants.{Off as PutOff, Range as PutRange, Closed as PutClosed, Held as PutHeld, Full as PutFull, Bad as PutBad}
use Rattle.envy_memory.specs.declared.faults.EndFault.TheVariants.{Off as EndOff, Closed as EndClosed}
use Rattle.envy_memory.proofs.Facts.{none-open, on-from}
use Rattle.envy_memory.proofs.Transacting.{PutMoved, shut-slot, first-slot, undone-shut, undone-first, words-held, dark-works, shut-on, flag-is, started-held, start-lost, never-busy, put-done, put-words, put-kept, bad-moves, bad-words, is-active, held-by-first, pages_of, put-has, has-room, put-works-done, put-works-bad, put-works-off}

-- ---- finish and undo

shut-after : (slots : List (Option Saved)) (saved : Saved) → slots ≡ Some saved ∷ replicate 63 None → slice_set slots 0 None ≡ replicate 64 None
shut-after slots saved is = ap (λ (xs : List (Option Saved)). slice_set xs 0 None) is

record Ended (c d : Chart) (h : IsHeld c true) (words : List ℕ) : Type 0 where
  held : IsHeld d false
  kept : durable d ≡ words

commit-done : (c d : Chart) → ((m : Array) → Stands c m → Commits m 0 (Ok tt) d) → (h : IsHeld c true) → Ended c d h (IsHeld.array h).words
commit-done c d step h = at (IsHeld.slots h) (step m (IsHeld.stands h))
  where
    m : Array
    m = IsHeld.array h

    at : (saved : Saved) × (m.slots ≡ Some saved ∷ replicate 63 None) → Steps m (Commit 0) Done d → Ended c d h m.words
    at (saved, is) (n, (some, same), stands) =
        let slots : n.slots ≡ replicate 64 None = ap (λ (x : Array). x.slots) same ∙ shut-after m.slots saved is in
        record {
          held = record { array = n; stands = stands; slots = slots };
          kept = Holds.durable (Stands.holds stands) ∙ undone-shut n slots ∙ ap (λ (x : Array). x.words) same;
        }

pub finish-held : (c d : Chart) → IsTrue c.on → ∥ (IsTrue c.on → IsHeld c true) ∥₁ → ((m : Array) → Stands c m → Commits m 0 (Ok tt) d) → ∥ (IsTrue d.on → IsHeld d false) ∥₁
finish-held c d on held step = ∥∥₁_map held (λ hold lit. Ended.held (commit-done c d step (hold on)))

pub finish-kept : (p : Picture) (d : Chart) → IsTrue p.chart.on → ∥ (IsTrue p.chart.on → IsHeld p.chart true) ∥₁ → ((m : Array) → Stands p.chart m → Commits m 0 (Ok tt) d) → durable d ≡ (sheet_of p true).words
finish-kept p d on held step = ∥∥₁_elim held (search props) (λ hold. Ended.kept (commit-done p.chart d step (hold on)) ∙ sym (words-held p true on (hold on)))

-- two lists of numbers are one or not
one-list : (xs ys : List ℕ) → (xs ≡ ys) ⊎ (xs ≡ ys → ⊥)
one-list [] [] = inl refl
one-list [] (y ∷ ys) = inr (λ e. cc)
one-list (x ∷ xs) [] = inr (λ e. cc)
one-list (x ∷ xs) (y ∷ ys) = at (cases_eq x y) (one-list xs ys)
  where
    at : (x ≡ y) ⊎ (x ≡ y → ⊥) → (xs ≡ ys) ⊎ (xs ≡ ys → ⊥) → (x ∷ xs ≡ y ∷ ys) ⊎ (x ∷ xs ≡ y ∷ ys → ⊥)
    at (inl e) (inl f) = inl (cc)
    at (inr ne) more = inr (λ e. ne (cc))
    at (inl e) (inr ne) = inr (λ e. ne (cc))

commit-lost : (c d : Chart) → ((m : Array) → Stands c m → Commits m 0 (Err EndOff) d) → (h : IsHeld c true) → (durable d ≡ durable c) ⊎ (durable d ≡ (IsHeld.array h).words)
commit-lost c d step h = at (IsHeld.slots h) (IsLost.words (step m (IsHeld.stands h)))
  where
    m : Array
    m = IsHeld.array h

    after : (saved : Saved) → m.slots ≡ Some saved ∷ replicate 63 None → (k : Array) (answer : Answer) → Step m (Commit 0) answer k → undone k ≡ m.words
    after saved slots k Done (some, same) = undone-shut k (ap (λ (x : Array). x.slots) same ∙ shut-after m.slots saved slots) ∙ ap (λ (x : Array). x.words) same
    after saved slots k Closed (none, same) = absurd (let clash : Some saved ≡ None = sym (first-slot m saved slots) ∙ none in cc)
    after saved slots k answer never = absurd never

    at : (saved : Saved) × (m.slots ≡ Some saved ∷ replicate 63 None) → (n : Array) × Lost m (Commit 0) n × (durable d ≡ n.words) → (durable d ≡ durable c) ⊎ (durable d ≡ m.words)
    at (saved, slots) (n, (k, (answer, step_of, accepted), inl same), is) = inl (is ∙ ap (λ (x : Array). x.words) same ∙ sym (Holds.durable (Stands.holds (IsHeld.stands h))))
    at (saved, slots) (n, (k, (answer, step_of, accepted), inr same), is) = inr (is ∙ ap (λ (x : Array). x.words) same ∙ after saved slots k answer step_of)

pub finish-lost : (p : Picture) (d : Chart) → IsTrue p.chart.on → ∥ (IsTrue p.chart.on → IsHeld p.chart true) ∥₁ → ((m : Array) → Stands p.chart m → Commits m 0 (Err EndOff) d) → (durable d ≡ durable p.chart) ⊎ (durable d ≡ (sheet_of p true).words)
finish-lost p d on held step = at (one-list (durable d) (durable p.chart))
  where
    later : (durable d ≡ durable p.chart → ⊥) → (h : IsHeld p.chart true) → (durable d ≡ durable p.chart) ⊎ (durable d ≡ (IsHeld.array h).words) → durable d ≡ (sheet_of p true).words
    later ne h (inl e) = absurd (ne e)
    later ne h (inr e) = e ∙ sym (words-held p true on h)

    at : (durable d ≡ durable p.chart) ⊎ (durable d ≡ durable p.chart → ⊥) → (durable d ≡ durable p.chart) ⊎ (durable d ≡ (sheet_of p true).words)
    at (inl e) = inl e
    at (inr ne) = inr (∥∥₁_elim held (search props) (λ hold. later ne (hold on) (commit-lost p.chart d step (hold on))))

aborted-is : (m k : Array) (saved other : Saved) → m.slots ≡ Some saved ∷ replicate 63 None → slot_of m 0 ≡ Some other → k ≡ aborted m 0 other → (k.slots ≡ replicate 64 None) × (undone k ≡ undone m)
aborted-is m k saved other is open_is same =
    let slots : k.slots ≡ replicate 64 None = ap (λ (x : Array). x.slots) same ∙ shut-after m.slots saved is in
    let one : Some other ≡ Some saved = sym open_is ∙ first-slot m saved is in
    let it : other ≡ saved = cc in
    (slots, undone-shut k slots ∙ ap (λ (x : Array). x.words) same ∙ ap (λ (s : Saved). put_back s m.words) it ∙ sym (undone-first m saved is))

abort-done : (c d : Chart) → ((m : Array) → Stands c m → Aborts m 0 (Ok tt) d) → (h : IsHeld c true) → Ended c d h (durable c)
abort-done c d step h = at (IsHeld.slots h) (step m (IsHeld.stands h))
  where
    m : Array
    m = IsHeld.array h

    at : (saved : Saved) × (m.slots ≡ Some saved ∷ replicate 63 None) → Steps m (Abort 0) Done d → Ended c d h (durable c)
    at (saved, is) (n, (other, open_is, same), stands) =
        let (slots, kept) = aborted-is m n saved other is open_is same in
        record {
          held = record { array = n; stands = stands; slots = slots };
          kept = Holds.durable (Stands.holds stands) ∙ kept ∙ sym (Holds.durable (Stands.holds (IsHeld.stands h)));
        }

pub undo-held : (c d : Chart) → IsTrue c.on → ∥ (IsTrue c.on → IsHeld c true) ∥₁ → ((m : Array) → Stands c m → Aborts m 0 (Ok tt) d) → ∥ (IsTrue d.on → IsHeld d false) ∥₁
undo-held c d on held step = ∥∥₁_map held (λ hold lit. Ended.held (abort-done c d step (hold on)))

pub undo-kept : (c d : Chart) → IsTrue c.on → ∥ (IsTrue c.on → IsHeld c true) ∥₁ → ((m : Array) → Stands c m → Aborts m 0 (Ok tt) d) → durable d ≡ durable c
undo-kept c d on held step = ∥∥₁_elim held (search props) (λ hold. Ended.kept (abort-done c d step (hold on)))

abort-lost : (c d : Chart) → ((m : Array) → Stands c m → Aborts m 0 (Err EndOff) d) → (h : IsHeld c true) → durable d ≡ durable c
abort-lost c d step h = at (IsHeld.slots h) (IsLost.words (step m (IsHeld.stands h)))
  where
    m : Array
    m = IsHeld.array h

    was : durable c ≡ undone m
    was = Holds.durable (Stands.holds (IsHeld.stands h))

    after : (saved : Saved) → m.slots ≡ Some saved ∷ replicate 63 None → (k : Array) (answer : Answer) → Step m (Abort 0) answer k → undone k ≡ undone m
    after saved slots k Done (other, open_is, same) = (aborted-is m k saved other slots open_is same).1
    after saved slots k Closed (none, same) = ap undone same
    after saved slots k answer never = absurd never

    at : (saved : Saved) × (m.slots ≡ Some saved ∷ replicate 63 None) → (n : Array) × Lost m (Abort 0) n × (durable d ≡ n.words) → durable d ≡ durable c
    at (saved, slots) (n, (k, (answer, step_of, accepted), inl same), is) = is ∙ ap (λ (x : Array). x.words) same ∙ sym was
    at (saved, slots) (n, (k, (answer, step_of, accepted), inr same), is) = is ∙ ap (λ (x : Array). x.words) same ∙ after saved slots k answer step_of ∙ sym was

pub undo-lost : (c d : Chart) → IsTrue c.on → ∥ (IsTrue c.on → IsHeld c true) ∥₁ → ((m : Array) → Stands c m → Aborts m 0 (Err EndOff) d) → durable d ≡ durable c
undo-lost c d on held step = ∥∥₁_elim held (search props) (λ hold. abort-lost c d step (hold on))

-- where power is off nothing is held
pub dark-held : (d : Chart) (b : Bool) → d.on ≡ false → ∥ (IsTrue d.on → IsHeld d b) ∥₁
dark-held d b off = ∣ (λ lit. absurd (let clash : true ≡ false = sym lit ∙ off in cc)) ∣₁

-- ---- a memory whose slots are shut

pub unowned-shut : (c : Chart) (m : Array) (pairs : List Pair) → Stands c m → m.slots ≡ replicate 64 None → AreOwned c.fields.slots c.fields.undos pairs → pairs ≡ []
unowned-shut c m [] stands is owned = refl
unowned-shut c m (e ∷ rest) stands is owned = at (cases_lt e.page c.shape.pages)
  where
    mine : owner_of (e ∷ rest) e.page ≡ Some e.slot
    mine = let same : (e.page == e.page) ≡ true = eq-eqb e.page e.page refl in rw same refl

    at : (e.page < c.shape.pages) ⊎ (c.shape.pages ≤ e.page) → e ∷ rest ≡ []
    at (inl lt) =
        let none : owner m e.page ≡ None = owner-nobody m e.page (λ t. ap (owns e.page) (shut-slot m t is)) in
        absurd (let clash : Some e.slot ≡ None = sym mine ∙ owned e.page ∙ owner_in-holds c m e.page (Stands.holds stands) lt ∙ none in cc)
    at (inr past) =
        let none : undo c.fields e.page ≡ None = get_or_past c.fields.undos e.page None (rw (Slots.undos_long (Sound.slots (Holds.sound (Stands.holds stands)))) past) in
        absurd (let clash : Some e.slot ≡ None = sym mine ∙ owned e.page ∙ ap (owner_in c.fields.slots) none in cc)

is-vacant : (x : Option Slot) → (x ≡ Some Vacant) ⊎ (x ≡ Some Vacant → ⊥)
is-vacant None = inr (λ e. cc)
is-vacant (Some Vacant) = inl refl
is-vacant (Some Active) = inr (λ e. cc)
is-vacant (Some Committed) = inr (λ e. cc)

-- it stands for the words that a restart would find
pub shut-stands : (c : Chart) → IsTrue c.on → c.fields.magic ≡ the_magic → c.fields.version ≡ version_of c.shape → IsSound c → ∥ (IsTrue c.on → IsHeld c false) ∥₁ → Stands c (fresh c.shape.shadows (durable c))
shut-stands c on magic version sound held = record {
  on = on;
  holds = record {
    magic = magic;
    version = version;
    sound = sound;
    array = IsArray-fresh c.shape.pages c.shape.shadows (durable c) (length-durable c);
    shadows = refl;
    live = ∥∥₁_elim held (search props) (λ hold. words-live (hold on));
    durable = sym (undo_all-closed 64 (durable c));
    slots = λ t lt. all-vacant t lt (is-vacant (slot c.fields t)) ∙ ap (λ (x : Option Saved). Some (slot_word x)) (sym (none-open 64 t));
    owners = λ p lt. ∥∥₁_elim held (search props) (λ hold. owners (hold on) p lt);
  };
}
  where
    all-vacant : (t : ℕ) → t < 64 → (slot c.fields t ≡ Some Vacant) ⊎ (slot c.fields t ≡ Some Vacant → ⊥) → slot c.fields t ≡ Some Vacant
    all-vacant t lt (inl is) = is
    all-vacant t lt (inr other) = absurd (∥∥₁_elim held (λ x y. absurd x) (λ hold. other (Holds.slots (Stands.holds (IsHeld.stands (hold on))) t lt ∙ ap (λ (x : Option Saved). Some (slot_word x)) (shut-slot (IsHeld.array (hold on)) t (IsHeld.slots (hold on))))))

    words-live : IsHeld c false → live c ≡ durable c
    words-live h = let s = Stands.holds (IsHeld.stands h) in Holds.live s ∙ sym (undone-shut (IsHeld.array h) (IsHeld.slots h)) ∙ sym (Holds.durable s)

    owners : IsHeld c false → (p : ℕ) → p < c.shape.pages → slot_named (undo c.fields p) ≡ owner (fresh c.shape.shadows (durable c)) p
    owners h p lt =
        Holds.owners (Stands.holds (IsHeld.stands h)) p lt
        ∙ owner-nobody (IsHeld.array h) p (λ t. ap (owns p) (shut-slot (IsHeld.array h) t (IsHeld.slots h)))
        ∙ sym (owner-nobody (fresh c.shape.shadows (durable c)) p (λ t. ap (owns p) (none-open 64 t)))

-- ---- plans, cuts by hand and loads

-- what a sheet's memory needs of its board
pub few-as : (c d : Chart) → d.shape ≡ c.shape → 32 * c.shape.pages < 2 ^ 32 → 32 * d.shape.pages < 2 ^ 32
few-as c d same few = let e = ap (λ (sh : Shape). sh.pages) same in omega arith

planned-holds : (fault : PlannedFault) (c : Chart) (m : Array) → Holds c m → Holds (planned fault c) m
planned-holds fault c m h = record { magic = h.magic; version = h.version; sound = h.sound; array = h.array; shadows = h.shadows; live = h.live; durable = h.durable; slots = h.slots; owners = h.owners }

pub planned-held : (fault : PlannedFault) (p q : Picture) (b : Bool) → q ≡ record p { chart = planned fault p.chart } → ∥ (IsTrue p.chart.on → IsHeld p.chart b) ∥₁ → ∥ (IsTrue q.chart.on → IsHeld q.chart b) ∥₁
planned-held fault p q b is held =
    subst (λ (x : Picture). ∥ (IsTrue x.chart.on → IsHeld x.chart b) ∥₁) (sym is)
    (∥∥₁_map held (λ hold on. let h = hold on in record { array = IsHeld.array h; stands = record { on = on; holds = planned-holds fault p.chart (IsHeld.array h) (Stands.holds (IsHeld.stands h)) }; slots = IsHeld.slots h }))

pub same-held : (c d : Chart) (b : Bool) → d ≡ c → ∥ (IsTrue c.on → IsHeld c b) ∥₁ → ∥ (IsTrue d.on → IsHeld d b) ∥₁
same-held c d b is held = subst (λ (x : Chart). ∥ (IsTrue x.on → IsHeld x b) ∥₁) (sym is) held

-- a load is never out of range
pub in-range : (p : Picture) (b : Bool) (a : ℕ) → a < length (sheet_of p b).words → 32 * p.chart.shape.pages ≤ a → ⊥
in-range p b a lt le = let n = words_long (p.chart.on && b) p.chart in absurd (omega arith)

-- ---- what is held after each call, whatever it answered

pub start-held : (c d : Chart) (b : Bool) (r : Result ℕ BeginFault) → b ≡ false → IsTrue c.on → ∥ (IsTrue c.on → IsHeld c b) ∥₁ → ((m : Array) → Stands c m → Begins m r d) → ((r ≡ Err BeginOff) ↔ (d.on ≡ false)) → ((r ≡ Err BeginBusy) ↔ (IsTrue c.on × ((u : ℕ) → u < 64 → slot c.fields u ≡ Some Active))) → ∥ (IsTrue d.on → IsHeld d true) ∥₁
start-held c d b (Ok t) shut on held step off busy = started-held c d t on (flag-is c b false shut held) step
start-held c d b (Err BeginOff) shut on held step off busy = dark-held d true (off.0 refl)
start-held c d b (Err BeginBusy) shut on held step off busy = absurd (never-busy c on (flag-is c b false shut held) (busy.0 refl).1)

refused : (c d : Chart) (h : IsHeld c true) (n : Array) → n ≡ IsHeld.array h → Stands d n → IsHeld d true
refused c d h n same stands = record { array = IsHeld.array h; stands = subst (λ (x : Array). Stands d x) same stands; slots = IsHeld.slots h }

put-so : (c d : Chart) (a w : ℕ) (r : Result Unit PutFault) (h : IsHeld c true) → ((m : Array) → Stands c m → Puts m 0 a w r d) → ((r ≡ Err PutOff) ↔ (d.on ≡ false)) → IsTrue d.on → IsHeld d true
put-so c d a w (Ok done) h step off lit = PutMoved.held (put-done c d a w step h)
put-so c d a w (Err PutOff) h step off lit = absurd (let dark = off.0 refl in let clash : true ≡ false = sym lit ∙ dark in cc)
put-so c d a w (Err PutBad) h step off lit = (bad-moves c d a w step h).0
put-so c d a w (Err PutRange) h step off lit = let (n, (le, same), stands) = step (IsHeld.array h) (IsHeld.stands h) in refused c d h n same stands
put-so c d a w (Err PutClosed) h step off lit = let (n, (lt, none, same), stands) = step (IsHeld.array h) (IsHeld.stands h) in refused c d h n same stands
put-so c d a w (Err (PutHeld u)) h step off lit = let (n, (lt, some, own, apart, same), stands) = step (IsHeld.array h) (IsHeld.stands h) in refused c d h n same stands
put-so c d a w (Err PutFull) h step off lit = let (n, (lt, some, none, full, same), stands) = step (IsHeld.array h) (IsHeld.stands h) in refused c d h n same stands

pub put-keeps : (c d : Chart) (b : Bool) (a w : ℕ) (r : Result Unit PutFault) → b ≡ true → IsTrue c.on → ∥ (IsTrue c.on → IsHeld c b) ∥₁ → ((m : Array) → Stands c m → Puts m 0 a w r d) → ((r ≡ Err PutOff) ↔ (d.on ≡ false)) → ∥ (IsTrue d.on → IsHeld d b) ∥₁
put-keeps c d b a w r begun on held step off = flag-is d true b (sym begun) (∥∥₁_map (flag-is c b true begun held) (λ hold lit. put-so c d a w r (hold on) step off lit))

pub finish-all : (c d : Chart) (b : Bool) (r : Result Unit EndFault) → b ≡ true → IsTrue c.on → ∥ (IsTrue c.on → IsHeld c b) ∥₁ → ((m : Array) → Stands c m → Commits m 0 r d) → ((r ≡ Err EndOff) ↔ (d.on ≡ false)) → ((r ≡ Err EndClosed) ↔ (IsTrue c.on × (slot c.fields 0 ≢ Some Active))) → ∥ (IsTrue d.on → IsHeld d false) ∥₁
finish-all c d b (Ok done) begun on held step off closed = finish-held c d on (flag-is c b true begun held) step
finish-all c d b (Err EndOff) begun on held step off closed = dark-held d false (off.0 refl)
finish-all c d b (Err EndClosed) begun on held step off closed = absurd (is-active c on (flag-is c b true begun held) (closed.0 refl).1)

pub undo-all : (c d : Chart) (b : Bool) (r : Result Unit EndFault) → b ≡ true → IsTrue c.on → ∥ (IsTrue c.on → IsHeld c b) ∥₁ → ((m : Array) → Stands c m → Aborts m 0 r d) → ((r ≡ Err EndOff) ↔ (d.on ≡ false)) → ((r ≡ Err EndClosed) ↔ (IsTrue c.on × (slot c.fields 0 ≢ Some Active))) → ∥ (IsTrue d.on → IsHeld d false) ∥₁
undo-all c d b (Ok done) begun on held step off closed = undo-held c d on (flag-is c b true begun held) step
undo-all c d b (Err EndOff) begun on held step off closed = dark-held d false (off.0 refl)
undo-all c d b (Err EndClosed) begun on held step off closed = absurd (is-active c on (flag-is c b true begun held) (closed.0 refl).1)

on-or-off : (b : Bool) → IsTrue b ⊎ (b ≡ false)
on-or-off true = inl refl
on-or-off false = inr refl

-- ---- answers

-- what a put of slot 0 meets, and what it answers
pub record PutMeets (p q : Picture) (b : Bool) (a w : ℕ) (r : Result Unit PutFault) : Type 0 where
  pub begun : b ≡ true
  pub on : IsTrue p.chart.on
  pub held : ∥ (IsTrue p.chart.on → IsHeld p.chart b) ∥₁
  pub address : a < length (sheet_of p b).words
  pub room : IsTrue (has (sheet_of p b).pages (a / 32)) ⊎ (length (sheet_of p b).pages < (sheet_of p b).room)
  pub step : (m : Array) → Stands p.chart m → Puts m 0 a w r q.chart
  pub off : (r ≡ Err PutOff) ↔ (q.chart.on ≡ false)
  pub cut : IsCut p.chart q.chart
  pub range : (r ≡ Err PutRange) ↔ IsPast a p
  pub closed : (r ≡ Err PutClosed) ↔ IsShutTo 0 a p
  pub full : (r ≡ Err PutFull) ↔ IsFull 0 a p
  pub bad : IsErrOf r PutBad → HasFailed p.chart q.chart
  pub below : PutsBelow 0 a r p q

put-open : (p q : Picture) (b : Bool) (a w : ℕ) (r : Result Unit PutFault) → PutMeets p q b a w r → ∥ (IsTrue p.chart.on → IsHeld p.chart true) ∥₁
put-open p q b a w r x = flag-is p.chart b true x.begun x.held

pub never-refused : (p q : Picture) (b : Bool) (a w : ℕ) (r : Result Unit PutFault) → PutMeets p q b a w r → IsNoRefusal r
never-refused p q b a w (Ok done) x = tt
never-refused p q b a w (Err PutOff) x = tt
never-refused p q b a w (Err PutBad) x = tt
never-refused p q b a w (Err PutRange) x = in-range p b a x.address (x.range.0 refl).1
never-refused p q b a w (Err PutClosed) x = is-active p.chart x.on (put-open p q b a w (Err PutClosed) x) (x.closed.0 refl).2
never-refused p q b a w (Err (PutHeld u)) x = held-by-first p.chart q.chart a w u x.on (put-open p q b a w (Err (PutHeld u)) x) x.step
never-refused p q b a w (Err PutFull) x = has-room p (a / 32) (x.full.0 refl).3 (x.full.0 refl).4 x.room

put-durable : (p q : Picture) (b : Bool) (a w : ℕ) (r : Result Unit PutFault) → PutMeets p q b a w r → durable q.chart ≡ durable p.chart
put-durable p q b a w r x = put-kept p.chart q.chart a w r x.on (put-open p q b a w r x) x.step

pub put-works : (p q : Picture) (b : Bool) (a w : ℕ) (r : Result Unit PutFault) → PutMeets p q b a w r → IsNoRefusal r → OnPage (a / 32) (sheet_of p b) (sheet_of q b)
put-works p q b a w (Ok done) x fine = put-works-done (flush_programs p.chart.shape.rows) flush_erases p q b (a / 32) x.below.works x.cut (put-durable p q b a w (Ok done) x) x.below.does
put-works p q b a w (Err PutOff) x fine = put-works-off (flush_programs p.chart.shape.rows) flush_erases p q b (a / 32) x.below.works x.cut (put-durable p q b a w (Err PutOff) x) (x.off.0 refl)
put-works p q b a w (Err PutBad) x fine = put-works-bad (flush_programs p.chart.shape.rows) flush_erases p q b (a / 32) x.below.works x.cut (put-durable p q b a w (Err PutBad) x) (x.below.stops refl).1
put-works p q b a w (Err PutRange) x fine = absurd fine
put-works p q b a w (Err PutClosed) x fine = absurd fine
put-works p q b a w (Err (PutHeld u)) x fine = absurd fine
put-works p q b a w (Err PutFull) x fine = absurd fine

pub put-answer : (p q : Picture) (b : Bool) (a w : ℕ) (r : Result Unit PutFault) → PutMeets p q b a w r → IsNoRefusal r → SheetPuts (sheet_of p b) a w (trouble_of r) (sheet_of q b)
put-answer p q b a w (Ok done) x fine =
    let lit : IsTrue q.chart.on = on-from q.chart.on (λ dark. let clash : Ok done ≡ Err PutOff = x.off.1 dark in cc) in (
      lit,
      subst (λ (y : Bool). (sheet_of q y).words ≡ slice_set (sheet_of p y).words a w) (sym x.begun) (put-words p q a w x.on lit (put-open p q b a w (Ok done) x) x.step),
      put-has p q (a / 32) x.below.does,
    )
put-answer p q b a w (Err PutOff) x fine = x.off.0 refl
put-answer p q b a w (Err PutBad) x fine =
    let lit : IsTrue q.chart.on = on-from q.chart.on (λ dark. let clash : Err PutBad ≡ Err PutOff = x.off.1 dark in cc) in (
      lit,
      subst (λ (y : Bool). (sheet_of q y).words ≡ (sheet_of p y).words) (sym x.begun) (bad-words p q a w x.on lit (put-open p q b a w (Err PutBad) x) x.step),
      ap (λ (o : Ownership). pages_of o.pairs) (x.below.stops refl).1,
      x.bad refl,
    )
put-answer p q b a w (Err PutRange) x fine = absurd fine
put-answer p q b a w (Err PutClosed) x fine = absurd fine
put-answer p q b a w (Err (PutHeld u)) x fine = absurd fine
put-answer p q b a w (Err PutFull) x fine = absurd fine

-- the words of an open transaction, by its flag
pub words-as : (p : Picture) (b e : Bool) → b ≡ e → (sheet_of p b).words ≡ (sheet_of p e).words
words-as p b e same = ap (λ (x : Bool). (sheet_of p x).words) same

-- power is on where a call answered
pub lit-ok : {T E : Type 0} (on : Bool) (x : T) (e : E) (r : Result T E) → r ≡ Ok x → ((r ≡ Err e) ↔ (on ≡ false)) → IsTrue on
lit-ok on x e r is off = on-from on (λ dark. let clash : Ok x ≡ Err e = sym is ∙ off.1 dark in cc)

pub and-true : (on : Bool) → IsTrue on → IsTrue (on && true)
and-true true lit = refl
and-true false lit = lit

-- after a start, whatever it answered
pub start-any : (c d : Chart) (b : Bool) (r : Result ℕ BeginFault) → (c.on && b) ≡ false → ∥ (IsTrue c.on → IsHeld c b) ∥₁ → ((m : Array) → Stands c m → Begins m r d) → ((r ≡ Err BeginOff) ↔ (d.on ≡ false)) → ((r ≡ Err BeginBusy) ↔ (IsTrue c.on × ((u : ℕ) → u < 64 → slot c.fields u ≡ Some Active))) → Works 0 0 c d → ∥ (IsTrue d.on → IsHeld d true) ∥₁
start-any c d b r shut held step off busy works = at (on-or-off c.on)
  where
    at : IsTrue c.on ⊎ (c.on ≡ false) → ∥ (IsTrue d.on → IsHeld d true) ∥₁
    at (inl on) = start-held c d b r (shut-on c.on b on shut) on held step off busy
    at (inr dark) = dark-held d true (dark-works 0 0 c d works dark)

-- power was off, or failed in it
pub start-gone : (c d : Chart) (b : Bool) → (c.on && b) ≡ false → ∥ (IsTrue c.on → IsHeld c b) ∥₁ → ((m : Array) → Stands c m → Begins m (Err BeginOff) d) → Works 0 0 c d → durable d ≡ durable c
start-gone c d b shut held step works = at (on-or-off c.on)
  where
    at : IsTrue c.on ⊎ (c.on ≡ false) → durable d ≡ durable c
    at (inl on) = start-lost c d on (flag-is c b false (shut-on c.on b on shut) held) step
    at (inr dark) = ap durable (works.idle dark)

pub and-false : (on : Bool) → (on && false) ≡ false
and-false true = refl
and-false false = refl

-- What the first put of a slot to a page does below the memory.
use Rattle.std.specs.Prelude.{◌≡◌, ◌⊎◌, ◌∷◌, ◌++◌, [], ℕ, ◌<◌, ◌≤◌, length, false, IsTrue, Option, None, Some, Result, Ok, Err, Any}
use Rattle.envy_base.specs.Counting.{up}
use Rattle.envy_base.specs.declared.board.Trouble.{Trouble}
use Rattle.envy_base.specs.declared.board.Trouble.TheVariants.{Off as TroubleOff, Bad}
use Rattle.envy_base.specs.declared.fields.Place.{Place}
use Rattle.envy_base.specs.declared.fields.Place.TheVariants.{Absent, Row, Frame}
use Rattle.envy_base.specs.declared.fields.Undo.{Undo}
use Rattle.envy_base.specs.declared.fields.Undo.TheVariants.{Blank, Shadow}
use Rattle.envy_map.specs.Fields.{Chart, with_fields, place, undo}
use Rattle.envy_map.specs.Writes.{with_undo}
use Rattle.envy_soundness.specs.Same.{Same, SameWords, SameDurable}
use Rattle.envy_meaning.specs.Transactions.{Owns, PutDone}
use Rattle.envy_soundness.specs.May.{IsOpen}
use Rattle.envy_txn.specs.Owners.{Ownership, AreOwned, owner_of}
use Rattle.envy_engine.specs.Flushing.{GetsRow, StopsFor}
use Rattle.envy_engine.specs.Leaving.{CountsBad}
use Rattle.envy_engine.specs.Storing.{Fetches, Brings}
use Rattle.envy_engine.specs.declared.parts.Parts.{Parts}

-- slot t, which is open, may come to own page p, which nobody owns
pub record MayGive (t p : ℕ) (c : Chart) (o : Ownership) : Type 0 where
  pub page : p < c.shape.pages
  pub low : t < 64
  pub opened : IsOpen c.fields t
  pub owned : AreOwned c.fields.slots c.fields.undos o.pairs
  pub limit : o.limit ≤ c.shape.shadows
  pub room : length o.pairs < o.limit
  pub free : owner_of o.pairs p ≡ None

-- the page is the newest that the slots own
abbrev pub given : ℕ → ℕ → Ownership → Ownership
given t p o = record o { pairs = o.pairs ++ (record { page = p; slot = t }) ∷ [] }

-- the pairs are those of the map where power is on
abbrev pub OwnersAgree : Chart → Ownership → Type 0
OwnersAgree c o = IsTrue c.on → AreOwned c.fields.slots c.fields.undos o.pairs

-- and as many pages as before may be owned
pub record KeepsOwners (c : Chart) (was now : Ownership) : Type 0 where
  pub limit : now.limit ≡ was.limit
  pub agree : OwnersAgree c now

-- page p came to slot t, with row q as its shadow
pub record ShadesPage (t p q : ℕ) (old : Chart) (was : Ownership) (new : Chart) (now : Ownership) : Type 0 where
  pub fields : new ≡ with_fields old (with_undo p (Some (Shadow t q)) old.fields)
  pub owns : Owns t p old new
  pub gives : now ≡ given t p was

-- the same, once that row is programmed
pub record MarksPage (t p q : ℕ) (old : Chart) (was : Ownership) (new : Chart) (now : Ownership) : Type 0 where
  pub fields : new.fields ≡ with_undo p (Some (Shadow t q)) old.fields
  pub erases : new.erases ≡ old.erases
  pub gives : now ≡ given t p was

-- its program was bad: the map is as before
pub record StopsMark (old new : Chart) : Type 0 where
  pub fields : new.fields ≡ old.fields
  pub erases : new.erases ≡ old.erases
  pub bads : new.bads ≡ up old.bads

-- a first put at each of its exits
abbrev pub PutFirst : ℕ → ℕ → ℕ → ℕ → Chart → ℕ → ℕ → Result Unit Trouble → Chart → Type 0
PutFirst k j t p old a w (Ok done) new = PutDone k j t p old new a w
PutFirst k j t p old a w (Err TroubleOff) new = SameDurable k j old new × (new.on ≡ false)
PutFirst k j t p old a w (Err Bad) new = Same k j old new × IsTrue new.on

-- a page that nobody owned comes to slot t, which changes no word
abbrev pub Shadows : ℕ → ℕ → ℕ → ℕ → Chart → Result Unit Trouble → Chart → Type 0
Shadows k j t p old (Ok done) new = SameWords k j old new × Owns t p old new × IsTrue new.on
Shadows k j t p old (Err TroubleOff) new = SameDurable k j old new × (new.on ≡ false)
Shadows k j t p old (Err Bad) new = Same k j old new × IsTrue new.on

-- the undo of a page that a slot puts to first, by the place that the page leaves
abbrev pub undo_for : ℕ → Place → Option Undo
undo_for t Absent = Some (Blank t)
undo_for t (Row q) = Some (Shadow t q)
undo_for t (Frame k) = None

-- page p, in frame k, stays there, and its shadow is a row that was claimed for it and programmed
pub record ShadesHere (t p k : ℕ) (old : Chart) (was : Parts) (new : Chart) (now : Parts) : Type 0 where
  pub home : ℕ
  pub homed : Any (λ h. (h.frame ≡ k) × (h.home ≡ home)) was.frames.held
  pub row : ℕ
  pub gets : GetsRow home p row old was new now
  pub there : place new.fields p ≡ Some (Frame k)
  pub shadow : undo new.fields p ≡ Some (Shadow t row)
  pub flushes : now.flushes ≡ up was.flushes

-- a bad operation ended that
pub record StopsHere (p k : ℕ) (old : Chart) (was : Parts) (new : Chart) (now : Parts) : Type 0 where
  pub home : ℕ
  pub homed : Any (λ h. (h.frame ≡ k) × (h.home ≡ home)) was.frames.held
  pub stops : StopsFor home p old was new now
  pub bads : CountsBad old new

-- a page in a frame stays there and in its order, and its shadow is a row that was claimed for it and programmed
pub record ShadesFramed (t p : ℕ) (old : Chart) (was : Parts) (new : Chart) (now : Parts) : Type 0 where
  pub frame : ℕ
  pub here : place old.fields p ≡ Some (Frame frame)
  pub there : place new.fields p ≡ Some (Frame frame)
  pub home : ℕ
  pub homed : Any (λ h. (h.frame ≡ frame) × (h.home ≡ home)) was.frames.held
  pub looked : Parts
  pub after_look : looked ≡ record was { cache = looked.cache }
  pub row : ℕ
  pub gets : GetsRow home p row old looked new now
  pub shadow : undo new.fields p ≡ Some (Shadow t row)
  pub frames : now.frames ≡ was.frames
  pub flushes : now.flushes ≡ up was.flushes

-- a page elsewhere comes into a frame, and its undo names what it left
pub record ShadesElsewhere (t p : ℕ) (old : Chart) (was : Parts) (new : Chart) (now : Parts) : Type 0 where
  pub fetches : Fetches p old was new now
  pub shadow : undo new.fields p ≡ undo_for t (Brings.from (Fetches.brings fetches))

-- what an accepted first put does to frames, rows, heats and turns
abbrev pub PutsBy : ℕ → ℕ → Chart → Parts → Chart → Parts → Type 0
PutsBy t p old was new now = ShadesFramed t p old was new now ⊎ ShadesElsewhere t p old was new now

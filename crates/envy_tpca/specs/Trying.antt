-- A memory before, within and after one transaction, while no other slot is open.
use Rattle.std.specs.Prelude.{◌≡◌, ◌≢◌, ◌⊎◌, ℕ, ◌+◌, ◌<◌, ◌≤◌, false, IsTrue, List, None, Some, Result, Ok, Err, slice_index}
use Rattle.envy_array.specs.Array.{Array, Saved, IsArray, slot_of, owner, owned, undone}
use Rattle.envy_meaning.specs.Stands.{Stands}
use Rattle.envy_soundness.specs.Words.{durable}
use Rattle.envy_memory.specs.Calls.{fresh}
use Rattle.envy_memory.specs.Picture.{Picture}
use Rattle.envy_tpca.specs.declared.fault.DriveFault.{DriveFault}
use Rattle.envy_tpca.specs.declared.fault.DriveFault.TheVariants.{Dead, Bad as DriveBad}
use Rattle.envy_tpca.specs.declared.fault.Fault.{Fault}
use Rattle.envy_tpca.specs.declared.fault.Fault.TheVariants.{Off, Bad, Refused}
use Rattle.envy_tpca.specs.declared.places.Places.{Places}
use Rattle.envy_tpca.specs.declared.places.Spots.{Spots}
use Rattle.envy_tpca.specs.declared.transfer.Transfer.{Transfer}
use Rattle.envy_tpca.specs.Since.{IsPast, Since}
use Rattle.envy_tpca.specs.Trial.{IsTried}

-- the board stands for these words, with no slot open
abbrev pub Rests : List ℕ → Picture → Type 0
Rests words p = Stands p.chart (fresh p.chart.shape.shadows words)

-- slot t alone is open: these are the words, those were at its begin, and it owns at most so many pages
pub record Open (before now : List ℕ) (t most : ℕ) (m : Array) : Type 0 where
  pub array : IsArray m
  pub saved : Saved
  pub slot : slot_of m t ≡ Some saved
  pub others : (u : ℕ) → u ≢ t → slot_of m u ≡ None
  pub words : m.words ≡ now
  pub undone : undone m ≡ before
  pub few : owned m ≤ most

-- the board stands for such an array, and the slot owns the page that it put to last; n failures were planned since
pub record Running (n : ℕ) (first : Picture) (before now : List ℕ) (t most last : ℕ) (p : Picture) : Type 0 where
  pub array : Array
  pub stands : Stands p.chart array
  pub state : Open before now t most array
  pub own : (most ≡ 0) ⊎ (owner array last ≡ Some t)
  pub since : Since n first p

-- after a put to page p the slot owns so many at most: it is the last page again, or there is room
abbrev pub Widens : ℕ → ℕ → ℕ → ℕ → ℕ → Type 0
Widens shadows last p most more = ((p ≡ last) × (most ≢ 0) × (more ≡ most)) ⊎ ((most < shadows) × (more ≡ most + 1))

-- power failed, or a flash operation did
abbrev pub IsCause : Fault → Picture → Picture → Type 0
IsCause Off first p = (p.chart.on ≡ false) × IsPast first.chart.cuts p.chart.cuts
IsCause Bad first p = IsTrue p.chart.on × IsPast first.chart.bads p.chart.bads
IsCause Refused first p = ⊥

-- not done: a restart finds the words of the begin
pub record Undone (n : ℕ) (first : Picture) (before : List ℕ) (fault : Fault) (p : Picture) : Type 0 where
  pub cause : IsCause fault first p
  pub words : durable p.chart ≡ before
  pub since : Since n first p

abbrev pub AfterBegin : ℕ → Picture → List ℕ → Result ℕ Fault → Picture → Type 0
AfterBegin n first before (Ok t) p = Running n first before before t 0 0 p
AfterBegin n first before (Err fault) p = Undone n first before fault p

abbrev pub AfterLoad : ℕ → Picture → List ℕ → List ℕ → ℕ → ℕ → ℕ → ℕ → Result ℕ Fault → Picture → Type 0
AfterLoad n first before now t most last a (Ok w) p = (w ≡ slice_index now a) × Running n first before now t most last p
AfterLoad n first before now t most last a (Err fault) p = ⊥

abbrev pub AfterPut : ℕ → Picture → List ℕ → List ℕ → ℕ → ℕ → ℕ → Result Unit Fault → Picture → Type 0
AfterPut n first before now t more page (Ok done) p = Running n first before now t more page p
AfterPut n first before now t more page (Err fault) p = Undone n first before fault p

-- no slot is open, and a restart finds one of these words
pub record Stopped (n : ℕ) (first : Picture) (before now : List ℕ) (p : Picture) : Type 0 where
  pub words : (durable p.chart ≡ before) ⊎ (durable p.chart ≡ now)
  pub since : Since n first p

-- a whole try: done, or stopped
abbrev pub AfterTry : ℕ → Picture → List ℕ → List ℕ → Result Unit Fault → Picture → Type 0
AfterTry n first before now (Ok done) p = Rests now p × Since n first p
AfterTry n first before now (Err fault) p = IsCause fault first p × Stopped n first before now p

-- power doesn't return, or a flash operation failed
abbrev pub IsEnd : DriveFault → Picture → Picture → Type 0
IsEnd Dead first p = (p.chart.on ≡ false) × (p.chart.lives ≡ 0) × IsPast first.chart.cuts p.chart.cuts
IsEnd DriveBad first p = IsTrue p.chart.on × IsPast first.chart.bads p.chart.bads

-- a transfer and its ticks
abbrev pub AfterTransfer : ℕ → Picture → List ℕ → List ℕ → Result Unit DriveFault → Picture → Type 0
AfterTransfer n first before now (Ok done) p = Rests now p × Since n first p
AfterTransfer n first before now (Err fault) p = IsEnd fault first p × Stopped n first before now p

-- what asking for power leaves
abbrev pub Returns : Picture → Result Unit DriveFault → Picture → Type 0
Returns old (Ok done) p = Rests (durable old.chart) p × Since 0 old p × (p.chart.lives < old.chart.lives)
Returns old (Err Dead) p = (p.chart.on ≡ false) × (p.chart.lives ≡ 0) × (durable p.chart ≡ durable old.chart) × Since 0 old p
Returns old (Err DriveBad) p = ⊥

-- a memory that rests on such words
pub record Trial (i : ℕ) (t : Transfer) (spots : Spots) (p : Picture) : Type 0 where
  pub rests : Rests (durable p.chart) p
  pub places : Places
  pub size : ℕ
  pub done : List Transfer
  pub tried : IsTried p.chart.shape.shadows places size done (durable p.chart) i t spots

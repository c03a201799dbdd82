-- What formatting may answer, and what it leaves.
use Rattle.std.specs.Prelude.{◌≡◌, ◌≢◌, ◌⊎◌, ℕ, ◌+◌, ◌-◌, ◌^◌, ◌<◌, false, IsTrue, [], length, slice_index, Ok, Err}
use Rattle.envy_array.specs.Array.{zeros}
use Rattle.envy_base.specs.Counting.{up}
use Rattle.envy_base.specs.State.{State}
use Rattle.envy_array.specs.declared.counts.Counts.{Counts}
use Rattle.envy_map.specs.Fields.{Chart, chart}
use Rattle.envy_soundness.specs.Formatting.{IsEmpty, Spoils, aside}
use Rattle.envy_soundness.specs.Same.{Counted}
use Rattle.envy_meaning.specs.Stands.{Holds, Stands}
use Rattle.envy_frames.specs.Agreement.{held_by_default}
use Rattle.envy_policy.specs.History.{started}
use Rattle.envy_policy.specs.Setup.{checked}
use Rattle.envy_policy.specs.declared.setup.Setup.{Setup}
use Rattle.envy_table.specs.Entries.{vacant}
use Rattle.envy_memory.specs.Picture.{Picture, counts_of}
use Rattle.envy_memory.specs.declared.faults.FormatFault.{FormatFault}
use Rattle.envy_memory.specs.declared.faults.FormatFault.TheVariants.{Off, Setup as OfSetup, OtherShape, Memory, Bad}
use Rattle.envy_base.specs.Shape.{positions_of, version_of}

abbrev pub no_counts : Counts
no_counts = record { hits = 0; misses = 0; flushes = 0; copies = 0; moves = 0; erases = 0; swaps = 0 }

-- A memory that was just made by this setup: all counters are 0, no page is in the cache, heats, turns and lives are at
-- their start, no stage or move is pending, no page has an owner, and the held frames are those that the table
-- names, in rising order of page with their default homes.
pub record IsStarted (setup : Setup) (p : Picture) : Type 0 where
  pub counts : counts_of p.parts ≡ no_counts
  pub since : p.parts.reloc.since ≡ 0
  pub entries : p.parts.cache.entries ≡ vacant setup.shape.entries
  pub chooser : p.parts.chooser ≡ started setup.policy setup.shape.pages (positions_of setup.shape)
  pub stages : p.parts.stages ≡ []
  pub moves : p.parts.reloc.moves ≡ []
  pub held : p.parts.frames.held ≡ held_by_default p.chart.shape p.chart.fields.places
  pub owners : p.owned.pairs ≡ []
  pub limit : p.limit ≡ setup.limit
  pub mark : p.mark ≡ setup.mark

-- The board stands for zeros: each page is absent, no job runs, and each segment is worn once. The good ones are empty,
-- and are the spare and stand at the first positions. Those set aside stand at the last positions in reserve.
pub record IsFresh (c : Chart) : Type 0 where
  pub stands : Stands c (zeros c.shape.pages c.shape.shadows)
  pub empty : IsEmpty (version_of c.shape) c

-- formatting was begun: power is on, the setup checks and is that of the board
pub record MayFormat (old : State) (setup : Setup) : Type 0 where
  pub on : IsTrue old.on
  pub checks : checked setup ≡ Ok tt
  pub shape : old.shape ≡ setup.shape

-- formatting that power stopped left a board that isn't formatted, the board of before, or but for power one of zeros
abbrev pub IsBetween : State → State → Type 0
IsBetween old new = (slice_index new.sram 0 ≡ 0) ⊎ (((new.flash ≡ old.flash) × (new.sram ≡ old.sram)) ⊎ Holds (chart new) (zeros new.shape.pages new.shape.shadows))

-- each segment is erased once at most, and nothing is programmed
pub record CountsFormat (old new : Chart) : Type 0 where
  pub shape : new.shape ≡ old.shape
  pub counted : Counted 0 old.shape.segments old new

-- exactly one erase of each segment began
abbrev pub ErasesEach : Chart → Chart → Type 0
ErasesEach old new = (s : ℕ) → s < old.shape.segments → slice_index new.erases s ≡ up (slice_index old.erases s)

-- A memory was made. Each segment that was set aside had a bad erase.
pub record Makes (old : State) (setup : Setup) (p : Picture) : Type 0 where
  pub may : MayFormat old setup
  pub fresh : IsFresh p.chart
  pub begins : IsStarted setup p
  pub once : ErasesEach (chart old) p.chart
  pub aside : Spoils (length (aside p.chart.shape p.chart.fields.fills)) old.bads p.chart.bads

abbrev pub Refuses : State → Setup → FormatFault → State → Type 0
Refuses old setup Off new = (new.on ≡ false) × (((old.on ≡ false) × (new ≡ old)) ⊎ (MayFormat old setup × IsBetween old new × (old.cuts < 2 ^ 64 - 1 → old.cuts < new.cuts)))
Refuses old setup (OfSetup fault) new = IsTrue old.on × (checked setup ≡ Err fault) × (new ≡ old)
Refuses old setup OtherShape new = IsTrue old.on × (checked setup ≡ Ok tt) × (old.shape ≢ setup.shape) × (new ≡ old)
Refuses old setup Memory new = MayFormat old setup × (new ≡ old)
Refuses old setup Bad new = MayFormat old setup × IsTrue new.on × (slice_index new.sram 0 ≡ 0) × (old.bads + old.shape.reserves < 2 ^ 64 - 1 → old.bads + old.shape.reserves < new.bads)

-- What a client sees of a memory, and what holds of each.
use Rattle.std.specs.Prelude.{◌≡◌, ◌≢◌, ℕ, ◌≤◌, IsTrue, List, Some}
use Rattle.envy_base.specs.Shape.{version_of}
use Rattle.envy_array.specs.declared.counts.Counts.{Counts}
use Rattle.envy_base.specs.declared.fields.Slot.TheVariants.{Committed}
use Rattle.envy_base.specs.State.{State}
use Rattle.envy_map.specs.Codes.{the_magic}
use Rattle.envy_map.specs.Fields.{Chart, slot}
use Rattle.envy_soundness.specs.Sound.{IsSound}
use Rattle.envy_engine.specs.Agreement.{Fits, PartsAgree}
use Rattle.envy_engine.specs.declared.parts.Parts.{Parts}
use Rattle.envy_txn.specs.Owners.{Ownership, AreOwned}

-- The board read by its map; the held frames, the pool, the cache's entries, heats, turns and lives, the moves and the
-- stages that are left, and the counts (`parts`); the owner pairs; the limit of a swap and the mark of a flush; the words
-- of SRAM, those too that the map doesn't read.
pub record Picture : Type 0 where
  pub chart : Chart
  pub parts : Parts
  pub owned : Ownership
  pub limit : ℕ
  pub mark : ℕ
  pub sram : List ℕ

-- its board
abbrev pub state_in : Picture → State
state_in p = record {
  shape = p.chart.shape;
  flash = p.chart.flash;
  sram = p.sram;
  on = p.chart.on;
  cuts = p.chart.cuts;
  bads = p.chart.bads;
  begun = p.chart.begun;
  erases = p.chart.erases;
  pulled = p.chart.pulled;
  plans = p.chart.plans;
  last_plan = p.chart.last_plan;
  lives = p.chart.lives;
  given = p.chart.given;
  notes = p.chart.notes;
}

-- the seven counters
abbrev pub counts_of : Parts → Counts
counts_of x = record {
  hits = x.cache.hits;
  misses = x.cache.misses;
  flushes = x.flushes;
  copies = x.reloc.copied;
  moves = x.reloc.moved;
  erases = x.reloc.erased;
  swaps = x.swaps;
}

-- Each memory's board is formatted and sound, and the parts have its sizes. Where power is on, they agree with it.
pub record IsMemory (c : Chart) (x : Parts) (o : Ownership) (limit mark : ℕ) : Type 0 where
  pub magic : c.fields.magic ≡ the_magic
  pub version : c.fields.version ≡ version_of c.shape
  pub sound : IsSound c
  pub fits : Fits c.shape x
  pub shadows : o.limit ≡ c.shape.shadows
  pub some : 1 ≤ mark
  pub some_limit : 1 ≤ limit
  pub agrees : IsTrue c.on → PartsAgree c x
  pub owned : IsTrue c.on → AreOwned c.fields.slots c.fields.undos o.pairs
  pub settled : IsTrue c.on → (t : ℕ) → slot c.fields t ≢ Some Committed

-- A memory with one transaction at a time, as words.
use Rattle.std.specs.Prelude.{◌≡◌, ℕ, ◌&&◌, Bool, true, false, List, [], ◌∷◌, map, sum, replicate, Option, None, Some}
use Rattle.envy_array.specs.Array.{Array, Saved}
use Rattle.envy_array.specs.Words.{Sheet, Work}
use Rattle.envy_base.specs.declared.faults.PlannedFault.{PlannedFault}
use Rattle.envy_base.specs.declared.faults.PlannedFault.TheVariants.{Cut, Bad}
use Rattle.envy_base.specs.declared.shape.Shape.{Shape}
use Rattle.envy_map.specs.Fields.{Chart}
use Rattle.envy_meaning.specs.Stands.{Stands}
use Rattle.envy_soundness.specs.Words.{live, durable}
use Rattle.envy_memory.specs.Below.{flush_programs, flush_erases}
use Rattle.envy_memory.specs.Picture.{Picture}
use Rattle.envy_txn.specs.declared.pair.Pair.{Pair}

-- what loads read while a transaction is open; else, and without power, what a restart leaves
abbrev pub words_read : Bool → Chart → List ℕ
words_read true c = live c
words_read false c = durable c

-- a planned fault as numbers, different ones for each
abbrev pub numbers_of : Option PlannedFault → List ℕ
numbers_of None = []
numbers_of (Some (Cut k g)) = 0 ∷ k ∷ g ∷ []
numbers_of (Some (Bad k g)) = 1 ∷ k ∷ g ∷ []

-- the numbers of a board that no call of `Words` changes: its sizes, the cuts by hand and the plans that were made, the
-- returns of power that it was given and has left, and the last plan
abbrev pub fixed_of : Chart → List ℕ
fixed_of c = c.shape.segments ∷ c.shape.rows ∷ c.shape.pages ∷ c.shape.shadows ∷ c.shape.frames ∷ c.shape.entries ∷ c.shape.reserves ∷ c.shape.sums ∷ c.pulled ∷ c.plans ∷ c.given ∷ c.lives ∷ numbers_of c.last_plan

-- the most flash work that a put may begin: that of one flush
abbrev pub put_price : Shape → Work
put_price sh = record { programs = flush_programs sh.rows; erases = flush_erases }

-- The words of a memory whose transaction has begun or not. The pages put in it are those that it owns.
abbrev pub sheet_of : Picture → Bool → Sheet
sheet_of p begun = record {
  words = words_read (p.chart.on && begun) p.chart;
  kept = durable p.chart;
  started = p.chart.on && begun;
  pages = map (λ (e : Pair). e.page) p.owned.pairs;
  room = p.chart.shape.shadows;
  on = p.chart.on;
  cuts = p.chart.cuts;
  bads = p.chart.bads;
  work = record { programs = p.chart.begun; erases = sum p.chart.erases };
  price = put_price p.chart.shape;
  fixed = fixed_of p.chart;
  notes = p.chart.notes;
  beside = [];
  kept_beside = [];
}

-- no slot is open, or the first alone
abbrev pub OnlyFirst : Bool → List (Option Saved) → Type 0
OnlyFirst false slots = slots ≡ replicate 64 None
OnlyFirst true slots = (saved : Saved) × (slots ≡ Some saved ∷ replicate 63 None)

-- the board stands for an array with no other slot open than the transaction's
pub record IsHeld (c : Chart) (begun : Bool) : Type 0 where
  pub array : Array
  pub stands : Stands c array
  pub slots : OnlyFirst begun array.slots

-- The board that memory of a caller's is.
use Rattle.std.specs.Prelude.{◌≡◌, ◌<◌, ◌≤◌, ℕ, true, List, [], length, slice_index_or, None}
use Rattle.envy_base.specs.declared.shape.Shape.{Shape}
use Rattle.envy_base.specs.State.{State, no_notes, ones}

-- Power is on, it never failed and nothing was planned, and no operation went wrong.
abbrev pub region_state : Shape → List (List ℕ) → List ℕ → List ℕ → ℕ → State
region_state shape flash sram erases begun = record {
  shape = shape;
  flash = flash;
  sram = sram;
  on = true;
  cuts = 0;
  bads = 0;
  begun = begun;
  erases = erases;
  pulled = 0;
  plans = 0;
  last_plan = None;
  lives = 0;
  given = 0;
  notes = no_notes;
}

-- the rows from one up to another are all ones, and the others are as before
pub record Erased (first last : ℕ) (old new : List (List ℕ)) : Type 0 where
  pub long : length new ≡ length old
  pub below : (q : ℕ) → q < first → slice_index_or new q [] ≡ slice_index_or old q []
  pub above : (q : ℕ) → last ≤ q → slice_index_or new q [] ≡ slice_index_or old q []
  pub inside : (q : ℕ) → first ≤ q → q < last → slice_index_or new q [] ≡ ones

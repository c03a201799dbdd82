-- The words of vectors.
use Rattle.std.specs.Prelude.{ℕ, Bool, true, List, [], length, take}
use Rattle.envy_base.specs.State.{no_notes}
use Rattle.envy_array.specs.Words.{Sheet}

-- the first `used` of the pages are those put
abbrev pub sheet_of : List ℕ → List ℕ → Bool → List ℕ → ℕ → Sheet
sheet_of words kept started pages used = record {
  words = words;
  kept = kept;
  started = started;
  pages = take used pages;
  room = length pages;
  on = true;
  cuts = 0;
  bads = 0;
  work = record { programs = 0; erases = 0 };
  price = record { programs = 0; erases = 0 };
  fixed = [];
  notes = no_notes;
  beside = [];
  kept_beside = [];
}

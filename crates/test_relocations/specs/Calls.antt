-- Which calls that claim rows the steps of a relocation are, and the retirement of a segment.
use Rattle.std.specs.Prelude.{◌≡◌, ◌≢◌, ◌⊎◌, ℕ, ◌==◌, if◌then◌else◌, [], Ok, slice_index_or}
use Rattle.envy_map.specs.Fields.{Chart}
use Rattle.envy_reloc.specs.declared.step.Phase.{Phase}
use Rattle.envy_reloc.specs.declared.step.Phase.TheVariants.{Moved, Copied, Switched, Placed, Erased}
use Rattle.envy_space.specs.Rising.{Call, Breaks, Leaves, Makes, claim_in, erase_in}

-- one row is claimed, and the words of no other row change
pub record ClaimsOne (old new : Chart) : Type 0 where
  pub segment : ℕ
  pub row : ℕ
  pub makes : (s : ℕ) → Makes s (claim_in s segment (Ok row)) old new
  pub others : (r : ℕ) → r ≢ row → slice_index_or new.flash r [] ≡ slice_index_or old.flash r []

-- no row is claimed, and no segment is erased
abbrev pub LeavesAll : Chart → Chart → Type 0
LeavesAll old new = (s : ℕ) → Makes s Leaves old new

-- What the retirement of segment e does to the rows of segment s: the fill of e rises to its end, so that none of its rows
-- is free.
abbrev pub retire_in : (s e : ℕ) → Call
retire_in s e = if s == e then Breaks else Leaves

-- segment e is erased, or retired
abbrev pub EndsAt : ℕ → Chart → Chart → Type 0
EndsAt e old new = ((s : ℕ) → Makes s (erase_in s e) old new) ⊎ ((s : ℕ) → Makes s (retire_in s e) old new)

-- what a step is that answers a phase
abbrev pub StepMakes : Chart → Phase → Chart → Type 0
StepMakes old Moved new = ClaimsOne old new
StepMakes old Copied new = ClaimsOne old new
StepMakes old Switched new = LeavesAll old new
StepMakes old Placed new = LeavesAll old new
StepMakes old Erased new = (e : ℕ) × EndsAt e old new

-- what a step is whose program or erase was bad
abbrev pub SpoilMakes : Chart → Chart → Type 0
SpoilMakes old new = ClaimsOne old new ⊎ LeavesAll old new

-- How a side that isn't Good comes to be, beside one that is.
use Rattle.std.specs.Prelude.{◌≡◌, ◌≢◌, ℕ, ◌-◌, ◌/◌, ◌^◌, ◌<◌, Bool, true, false, List, length, replicate, slice_index, slice_set, Some, Result, Ok, Err}
use Rattle.envy_base.specs.declared.fields.Slot.TheVariants.{Active}
use Rattle.envy_map.specs.Fields.{Chart, slot}
use Rattle.envy_soundness.specs.Same.{Kept}
use Rattle.envy_soundness.specs.Words.{live, durable}
use Rattle.envy_memory.specs.Calls.{lit, HasFailed}
use Rattle.envy_memory.specs.Picture.{Picture, counts_of}
use Rattle.envy_mirror.specs.Asking.{Reckons}
use Rattle.envy_mirror.specs.Mirroring.{is_stale}
use Rattle.envy_mirror.specs.Pair.{Side, Pair, is_good}
use Rattle.envy_mirror.specs.declared.catch_up.Caught.{Caught}
use Rattle.envy_mirror.specs.declared.catch_up.Caught.TheVariants.{Whole, Waiting, Woken, Copied, Joined}
use Rattle.envy_mirror.specs.declared.catch_up.CatchFault.{CatchFault}
use Rattle.envy_mirror.specs.declared.catch_up.CatchFault.TheVariants.{Off, Dead, Slipped, Bad}
use Rattle.envy_mirror.specs.declared.standing.Standing.{Standing}
use Rattle.envy_mirror.specs.declared.standing.Standing.TheVariants.{Good, Behind, Gone}
use Rattle.envy_base.specs.declared.page.TheConstants.{PAGE_WORDS}

-- t is the lowest open slot
pub record IsLowestOpen (c : Chart) (t : ℕ) : Type 0 where
  pub within : t < 64
  pub open_one : slot c.fields t ≡ Some Active
  pub below : (u : ℕ) → u < t → slot c.fields u ≢ Some Active

abbrev pub NoneOpen : Chart → Type 0
NoneOpen c = (u : ℕ) → u < 64 → slot c.fields u ≢ Some Active

-- p is the lowest stale page
pub record IsLowestStale (stale : List Bool) (p : ℕ) : Type 0 where
  pub within : p < length stale
  pub one : is_stale stale p ≡ true
  pub below : (q : ℕ) → q < p → is_stale stale q ≡ false

abbrev pub NoneStale : List Bool → Type 0
NoneStale stale = (q : ℕ) → is_stale stale q ≡ false

-- power was asked for while lives were left, and all else that a restart keeps stayed
pub record Wakes (old new : Picture) : Type 0 where
  pub lives : 0 < old.chart.lives
  pub kept : Kept (lit old.chart) new.chart
  pub counts : counts_of new.parts ≡ counts_of old.parts

-- the words of one page came from the board `from`; the others stayed
pub record Copies (p : ℕ) (from old new : Chart) : Type 0 where
  pub page : (a : ℕ) → a / PAGE_WORDS ≡ p → slice_index (live new) a ≡ slice_index (durable from) a
  pub others : (a : ℕ) → a / PAGE_WORDS ≢ p → slice_index (live new) a ≡ slice_index (live old) a

-- Power failed in that: where it was asked for, or where the lowest stale page was being copied.
abbrev pub Slips : Standing → Chart → List Bool → Picture → Picture → Type 0
Slips Good from stale old new = ⊥
Slips Behind from stale old new = NoneOpen from × (p : ℕ) × IsLowestStale stale p × Reckons old new
Slips Gone from stale old new = Wakes old new

-- One step by which the side `old` follows the Good side `from`, by its stale pages: the first rule that applies.
abbrev pub Helps : Result Caught CatchFault → Side → Side → List Bool → Side → List Bool → Type 0
Helps (Err Dead) from old stale new left = (old.standing ≡ Gone) × (old.memory.chart.lives ≡ 0) × (new ≡ old) × (left ≡ stale)
Helps (Ok Woken) from old stale new left = (old.standing ≡ Gone) × (new.standing ≡ Behind) × Wakes old.memory new.memory × (left ≡ replicate (length stale) true)
Helps (Ok (Waiting t)) from old stale new left = (old.standing ≡ Behind) × IsLowestOpen from.memory.chart t × (new ≡ old) × (left ≡ stale)
Helps (Ok (Copied p)) from old stale new left = (old.standing ≡ Behind) × NoneOpen from.memory.chart × IsLowestStale stale p × (new.standing ≡ Behind) × Copies p from.memory.chart old.memory.chart new.memory.chart × Reckons old.memory new.memory × (left ≡ slice_set stale p false)
Helps (Err Bad) from old stale new left = (old.standing ≡ Behind) × NoneOpen from.memory.chart × (p : ℕ) × IsLowestStale stale p × (new.standing ≡ Behind) × ((a : ℕ) → a / PAGE_WORDS ≢ p → slice_index (live new.memory.chart) a ≡ slice_index (live old.memory.chart) a) × Reckons old.memory new.memory × HasFailed old.memory.chart new.memory.chart × (left ≡ stale)
Helps (Err Slipped) from old stale new left = (new.standing ≡ Gone) × Slips old.standing from.memory.chart stale old.memory new.memory × (left ≡ stale) × (old.memory.chart.cuts < 2 ^ 64 - 1 → old.memory.chart.cuts < new.memory.chart.cuts)
Helps (Ok Joined) from old stale new left = (old.standing ≡ Behind) × NoneOpen from.memory.chart × NoneStale stale × (new ≡ record old { standing = Good }) × (left ≡ stale)
Helps (Ok Whole) from old stale new left = ⊥
Helps (Err Off) from old stale new left = ⊥

-- which side helps which: nothing is done where no side is Good, or both are
abbrev pub CatchesBy : Bool → Bool → Result Caught CatchFault → Pair → Pair → Type 0
CatchesBy true true result old new = (result ≡ Ok Whole) × (new ≡ old)
CatchesBy false false result old new = (result ≡ Err Off) × (new ≡ old)
CatchesBy true false result old new = Helps result old.first old.second old.stale new.second new.stale × (new ≡ record old { second = new.second; stale = new.stale })
CatchesBy false true result old new = Helps result old.second old.first old.stale new.first new.stale × (new ≡ record old { first = new.first; stale = new.stale })

abbrev pub CatchesUp : Result Caught CatchFault → Pair → Pair → Type 0
CatchesUp result old new = CatchesBy (is_good old.first) (is_good old.second) result old new

-- What the policy that parts pages by how long their last copy lived notes of flushes and cleanings.
use Rattle.std.specs.Prelude.{◌≡◌, ℕ, ◌-◌, ◌*◌, ◌^◌, ◌<◌, ◌≤◌, ◌==◌, nat_lt, List, length, replicate, slice_set, slice_index, Option, None, Some, if◌then◌else◌}
use Rattle.envy_base.specs.Counting.{up}
use Rattle.envy_policy.specs.declared.class.Class.{Class}
use Rattle.envy_policy.specs.declared.class.Class.TheVariants.{Brief, Short, Long, Lasting}
use Rattle.envy_policy.specs.declared.class.OpenPositions.{OpenPositions}
use Rattle.envy_base.specs.declared.shape.TheConstants.{MOST_ROWS}

pub record Notes : Type 0 where
  -- rows claimed for flushes since the start or the last reset
  pub clock : ℕ
  -- of each page, the clock just behind the last claim for it; 0 where there was none
  pub born : List ℕ
  -- of each position, the clock when its last cleaning began; 0 where there was none
  pub cleaned : List ℕ
  -- the position that takes the pages of each class
  pub opened : OpenPositions

-- by the flushes since a page's last: the classes part at a quarter of the pages' number, a half and the whole
abbrev pub class_by : ℕ → ℕ → Class
class_by pages life =
    if nat_lt (4 * life) pages then Brief
    else (if nat_lt (2 * life) pages then Short
    else (if nat_lt life pages then Long
    else Lasting))

-- the class of a page. One that was never flushed is taken for lasting
abbrev pub class_of : Notes → ℕ → Class
class_of n page =
    let born = slice_index n.born page in
    if born == 0 then Lasting else class_by (length n.born) (n.clock - born)

-- the position that is open for a class
abbrev pub open_for : OpenPositions → Class → Option ℕ
open_for o Brief = o.brief
open_for o Short = o.short
open_for o Long = o.long
open_for o Lasting = o.lasting

-- with a position open for a class
abbrev pub with_open : Class → ℕ → OpenPositions → OpenPositions
with_open Brief position o = record o { brief = Some position }
with_open Short position o = record o { short = Some position }
with_open Long position o = record o { long = Some position }
with_open Lasting position o = record o { lasting = Some position }

-- at the start nothing is noted
abbrev pub unnoted : ℕ → ℕ → Notes
unnoted pages positions = record {
  clock = 0;
  born = replicate pages 0;
  cleaned = replicate positions 0;
  opened = record { brief = None; short = None; long = None; lasting = None };
}

-- after a row at the position was claimed for a flush of the page: it is open for the class that the page
-- had before. The clock stops at the greatest number of 64 bits
abbrev pub noted_flush : ℕ → ℕ → Notes → Notes
noted_flush position page n = record n {
  clock = up n.clock;
  born = slice_set n.born page (up n.clock);
  opened = with_open (class_of n page) position n.opened;
}

-- after a cleaning of the position has begun by choice
abbrev pub noted_clean : ℕ → Notes → Notes
noted_clean position n = record n { cleaned = slice_set n.cleaned position n.clock }

-- what is known of all notes
pub record IsNotes (n : Notes) : Type 0 where
  pub clock : n.clock < 2 ^ 64
  pub few_pages : length n.born ≤ MOST_ROWS
  pub few_positions : length n.cleaned ≤ 4095
  pub born : (page : ℕ) → slice_index n.born page ≤ n.clock
  pub cleaned : (position : ℕ) → slice_index n.cleaned position ≤ n.clock
  pub opened : (class : Class) (position : ℕ) → open_for n.opened class ≡ Some position → position < length n.cleaned

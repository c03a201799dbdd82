-- Two sides, what each is good for, and what holds of every pair.
use Rattle.std.specs.Prelude.{◌≡◌, ◌≤◌, Bool, true, false, IsTrue, List, length, replicate, if◌then◌else◌, ◌&&◌}
use Rattle.envy_map.specs.Fields.{Chart}
use Rattle.envy_meaning.specs.Stands.{Stands}
use Rattle.envy_soundness.specs.Words.{live}
use Rattle.envy_memory.specs.Calls.{fresh}
use Rattle.envy_memory.specs.Picture.{Picture}
use Rattle.envy_mirror.specs.declared.standing.Standing.{Standing}
use Rattle.envy_mirror.specs.declared.standing.Standing.TheVariants.{Good, Behind, Gone}
use Rattle.envy_mirror.specs.declared.standing.Which.{Which}
use Rattle.envy_mirror.specs.declared.standing.Which.TheVariants.{First, Second}
use Rattle.envy_base.specs.declared.shape.TheConstants.{MOST_ROWS}

pub record Side : Type 0 where
  pub memory : Picture
  pub standing : Standing

-- Both sides, and which of them is Good or was Good last. The marks are those of the stale pages of a side that is
-- Behind. All pages of a Gone side are stale, and none of a Good one.
pub record Pair : Type 0 where
  pub first : Side
  pub second : Side
  pub stale : List Bool
  pub last : Which

abbrev pub is_good_by : Standing → Bool
is_good_by Good = true
is_good_by Behind = false
is_good_by Gone = false

abbrev pub is_good : Side → Bool
is_good side = is_good_by side.standing

abbrev pub side_at : Which → Pair → Side
side_at First p = p.first
side_at Second p = p.second

-- no side is Good
abbrev pub IsDark : Pair → Type 0
IsDark p = (is_good p.first ≡ false) × (is_good p.second ≡ false)

-- the board stands for the words that loads read, and no slot is open
abbrev pub IsClosed : Chart → Type 0
IsClosed c = Stands c (fresh c.shape.shadows (live c))

-- a Good side has power, a side that is Behind has power and all slots closed, and a Gone one has no power
abbrev pub IsSideBy : Standing → Chart → Type 0
IsSideBy Good c = IsTrue c.on
IsSideBy Behind c = IsClosed c
IsSideBy Gone c = c.on ≡ false

abbrev pub IsSide : Side → Type 0
IsSide side = IsSideBy side.standing side.memory.chart

-- how the side that is Good, or was Good last, may stand beside the other
abbrev pub MayLead : Standing → Standing → Type 0
MayLead Good other = Unit {0}
MayLead Behind other = ⊥
MayLead Gone Good = ⊥
MayLead Gone Behind = Unit {0}
MayLead Gone Gone = Unit {0}

abbrev pub Leads : Which → Standing → Standing → Type 0
Leads First first second = MayLead first second
Leads Second first second = MayLead second first

-- what holds of every pair
pub record IsPair (p : Pair) : Type 0 where
  pub first : IsSide p.first
  pub second : IsSide p.second
  pub shape : p.second.memory.chart.shape ≡ p.first.memory.chart.shape
  pub marks : length p.stale ≡ p.first.memory.chart.shape.pages
  pub few : p.first.memory.chart.shape.pages ≤ MOST_ROWS
  pub last : Leads p.last p.first.standing p.second.standing

-- which side was Good last: where both were, side 0 is asked first, so side 1 outlasts it
abbrev pub lasting : Pair → Pair → Which
lasting old new = if is_good old.first && is_good old.second then (if is_good new.first then First else Second) else old.last

-- two memories that were made a pair
abbrev pub started : Picture → Picture → Pair
started a b = record {
  first = record { memory = a; standing = Good };
  second = record { memory = b; standing = Good };
  stale = replicate a.chart.shape.pages false;
  last = First;
}

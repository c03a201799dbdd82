-- A mirrored pair without boards: one array, what each side is good for, and which pages are stale.
use Rattle.std.specs.Prelude.{◌≡◌, ◌⊎◌, ℕ, ◌+◌, Bool, true, false, IsTrue, List, length, replicate, if◌then◌else◌, ◌&&◌, ◌||◌}
use Rattle.envy_array.specs.Array.{Array}
use Rattle.envy_mirror.specs.Pair.{is_good_by}
use Rattle.envy_mirror.specs.Reviving.{other_than}
use Rattle.envy_mirror.specs.declared.standing.Standing.{Standing}
use Rattle.envy_mirror.specs.declared.standing.Standing.TheVariants.{Good, Behind, Gone}
use Rattle.envy_mirror.specs.declared.standing.Which.{Which}
use Rattle.envy_mirror.specs.declared.standing.Which.TheVariants.{First, Second}

-- one side: what it is good for, how often it went Gone, and whether it was found without lives
pub record SideState : Type 0 where
  pub standing : Standing
  pub falls : ℕ
  pub dead : Bool

-- The array and both sides; the marks of the stale pages of a side that is Behind (all pages of a Gone side are stale, and
-- none of a Good one); the side that is Good or was Good last; and the side that `cut`, `bad`, `power` and `stat` speak of.
pub record MirrorState : Type 0 where
  pub array : Array
  pub first : SideState
  pub second : SideState
  pub stale : List Bool
  pub last : Which
  pub chosen : Which

abbrev pub unfallen : SideState
unfallen = record { standing = Good; falls = 0; dead = false }

-- both sides are Good
abbrev pub begun : Array → ℕ → MirrorState
begun m pages = record { array = m; first = unfallen; second = unfallen; stale = replicate pages false; last = First; chosen = First }

abbrev pub is_up : SideState → Bool
is_up side = is_good_by side.standing

-- some side is Good
abbrev pub has_good : MirrorState → Bool
has_good s = is_up s.first || is_up s.second

abbrev pub side_in : Which → MirrorState → SideState
side_in First s = s.first
side_in Second s = s.second

abbrev pub with_side_in : Which → SideState → MirrorState → MirrorState
with_side_in First side s = record s { first = side }
with_side_in Second side s = record s { second = side }

-- the side goes Gone
abbrev pub gone : SideState → SideState
gone side = record { standing = Gone; falls = side.falls + 1; dead = side.dead }

-- a Good side stays, or goes Gone
abbrev pub MayFall : SideState → SideState → Type 0
MayFall old new = (new ≡ old) ⊎ (IsTrue (is_up old) × (new ≡ gone old))

-- Any Good side may go Gone in a command. Side 0 is asked first: where both go Gone, side 1 was Good last.
pub record Falls (s t : MirrorState) : Type 0 where
  pub first : MayFall s.first t.first
  pub second : MayFall s.second t.second
  pub last : t.last ≡ (if is_up s.first && is_up s.second then (if is_up t.first then First else Second) else s.last)
  pub chosen : t.chosen ≡ s.chosen

-- power of a side is cut by hand: one that has power goes Gone
abbrev pub cut_by : Standing → SideState → SideState
cut_by Good side = gone side
cut_by Behind side = gone side
cut_by Gone side = side

-- power of the chosen side is cut
abbrev pub cut_chosen : MirrorState → MirrorState
cut_chosen s =
    let side = side_in s.chosen s in
    record (with_side_in s.chosen (cut_by side.standing side) s) { last = if is_up s.first && is_up s.second then other_than s.chosen else s.last }

-- Power came to the side that was Good last: it is Good again, and all pages of the other are stale. The other stays.
abbrev pub revived : MirrorState → MirrorState
revived s = record (with_side_in s.last (record (side_in s.last s) { standing = Good }) s) { stale = replicate (length s.stale) true }

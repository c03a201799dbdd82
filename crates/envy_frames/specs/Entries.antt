-- The ring of entries, of which those are stale whose frame was given back since.
use Rattle.std.specs.Prelude.{◌≡◌, ◌⊎◌, ◌*◌, ◌<◌, ◌≤◌, ◌==◌, ◌&&◌, ℕ, Bool, List, All, IfSome, IsTrue, length, map, slice_get, slice_index}
use Rattle.std.specs.List.{filter}
use Rattle.circular_buffer.specs.Buffer.{Buffer}
use Rattle.envy_frames.specs.declared.entry.Entry.{Entry}
use Rattle.envy_frames.specs.declared.held.Held.{Held}
use Rattle.envy_frames.specs.Order.{is_other}

-- whether the entry's frame has the stamp that it had when the page was put into it
abbrev pub is_live : List ℕ → Entry → Bool
is_live stamps e = slice_index stamps e.held.frame == e.stamp

-- the pages of the live entries
abbrev pub held_in : List ℕ → List Entry → List Held
held_in stamps entries = map (λ e. e.held) (filter (is_live stamps) entries)

-- whether the entry is live, and of another frame
abbrev pub is_kept : List ℕ → ℕ → Entry → Bool
is_kept stamps frame e = is_other frame e.held && is_live stamps e

-- the entry of a page whose frame has the stamp 0
abbrev pub unstamped : Held → Entry
unstamped h = record { held = h; stamp = 0 }

-- all entries, or the live ones alone
abbrev pub WereKept : List ℕ → List Entry → List Entry → Type 0
WereKept stamps entries kept = (kept ≡ entries) ⊎ (kept ≡ filter (is_live stamps) entries)

-- the first entry is live
abbrev pub IsLiveFirst : List ℕ → List Entry → Type 0
IsLiveFirst stamps entries = IfSome (slice_get entries 0) (λ e. IsTrue (is_live stamps e))

-- each entry is of a frame, and has no stamp that the frame is yet to have
pub record AreStamped (entries : Buffer Entry) (stamps : List ℕ) : Type 0 where
  pub below : All (λ e. e.held.frame < length stamps) entries.items
  pub past : All (λ e. e.stamp ≤ slice_index stamps e.held.frame) entries.items
  pub fits : length entries.items ≤ entries.capacity

-- the home of each held page stands under its frame
abbrev pub AreHomes : List ℕ → List Held → Type 0
AreHomes homes held = All (λ h. slice_index homes h.frame ≡ h.home) held

-- The oldest entry is live, the ring has room for twice the frames, and the homes are those of the live
-- entries.
pub record IsRing (entries : Buffer Entry) (stamps homes : List ℕ) : Type 0 where
  pub stamped : AreStamped entries stamps
  pub live : IsLiveFirst stamps entries.items
  pub twice : entries.capacity ≡ 2 * length stamps
  pub under : AreHomes homes (held_in stamps entries.items)
  pub long : length homes ≡ length stamps

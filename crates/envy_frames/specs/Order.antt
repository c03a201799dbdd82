-- The order in which frames are held.
use Rattle.std.specs.Prelude.{◌≡◌, ◌≢◌, ◌+◌, ◌<◌, ◌≤◌, ◌^◌, ◌==◌, ℕ, Bool, not, List, length, All, AllPairs}
use Rattle.std.specs.List.{filter, list_any, range_with_len}
use Rattle.envy_frames.specs.declared.held.Held.{Held}

-- the held frames, the oldest first, and how many frames there are
pub record Order : Type 0 where
  pub held : List Held
  pub count : ℕ

abbrev pub is_other : ℕ → Held → Bool
is_other frame h = not (h.frame == frame)

abbrev pub IsApart : Held → Held → Type 0
IsApart h e = h.frame ≢ e.frame

-- no held item has the frame
abbrev pub IsUnheld : List Held → ℕ → Type 0
IsUnheld held frame = All (λ h. h.frame ≢ frame) held

abbrev pub has_frame : List Held → ℕ → Bool
has_frame held frame = list_any (λ h. h.frame == frame) held

-- the frames below n that no held item has, in rising order
abbrev pub others_of : List Held → ℕ → List ℕ
others_of held n = filter (λ f. not (has_frame held f)) (range_with_len 0 n)

-- the held frames are among the count, each once
pub record IsOrder (o : Order) : Type 0 where
  pub below : All (λ h. h.frame < o.count) o.held
  pub apart : AllPairs IsApart o.held
  pub few : length o.held ≤ o.count

-- The ring and the stack of free frames have each frame once. The stack has room for all of them, and
-- there is a mark for each.
pub record IsFrames (o : Order) (free : List ℕ) (room : ℕ) (marks : List Bool) : Type 0 where
  pub order : IsOrder o
  pub below : All (λ f. f < o.count) free
  pub unheld : All (IsUnheld o.held) free
  pub once : AllPairs (λ f g. f ≢ g) free
  pub whole : length free + length o.held ≡ o.count
  pub fits : o.count ≤ room
  pub marked : length marks ≡ o.count
  pub few : o.count < 2 ^ 32

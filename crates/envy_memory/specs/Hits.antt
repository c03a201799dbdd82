-- Hits and misses as a statement over what happened since a memory was made. The newest event comes first.
use Rattle.std.specs.Prelude.{◌≡◌, ◌≢◌, ◌⊎◌, ℕ, ◌+◌, ◌-◌, ◌%◌, ◌^◌, ◌<◌, ◌==◌, Bool, false, List, [], ◌∷◌, length, Option, None, Some, if◌then◌else◌}
use Rattle.envy_table.specs.Entries.{Translations}
use Rattle.envy_table.specs.Hits.{page_at}

pub data Event : Type 0 where
  -- an access of the host to a page
  Access : (page : ℕ) → Event
  -- power came
  Power : Event

-- since power last came, the last access to a page congruent to p modulo c was to p
abbrev pub LastWas : ℕ → ℕ → List Event → Type 0
LastWas c p [] = ⊥
LastWas c p (Power ∷ past) = ⊥
LastWas c p (Access r ∷ past) = (r ≡ p) ⊎ ((r % c ≢ p % c) × LastWas c p past)

-- the page that was accessed last of those congruent to i, since power last came
abbrev pub last_in : ℕ → ℕ → List Event → Option ℕ
last_in c i [] = None
last_in c i (Power ∷ past) = None
last_in c i (Access r ∷ past) = if i == r % c then Some r else last_in c i past

abbrev pub is_page : Option ℕ → ℕ → Bool
is_page None p = false
is_page (Some r) p = r == p

-- how many accesses so far were hits, and how many were misses
abbrev pub hits_of : ℕ → List Event → ℕ
hits_of c [] = 0
hits_of c (Power ∷ past) = hits_of c past
hits_of c (Access p ∷ past) = hits_of c past + (if is_page (last_in c (p % c) past) p then 1 else 0)

abbrev pub misses_of : ℕ → List Event → ℕ
misses_of c [] = 0
misses_of c (Power ∷ past) = misses_of c past
misses_of c (Access p ∷ past) = misses_of c past + (if is_page (last_in c (p % c) past) p then 0 else 1)

-- a cache of c entries after these events; a count at the top is silent
pub record Tracks (c : ℕ) (past : List Event) (t : Translations) : Type 0 where
  pub size : length t.entries ≡ c
  pub pages : (i : ℕ) → i < c → page_at t.entries i ≡ last_in c i past
  pub hits : t.hits < 2 ^ 64 - 1 → t.hits ≡ hits_of c past
  pub misses : t.misses < 2 ^ 64 - 1 → t.misses ≡ misses_of c past

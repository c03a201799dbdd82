-- What a chooser remembers of flushes and cleanings.
use Rattle.std.specs.Prelude.{◌≡◌, ◌≢◌, ℕ, ◌+◌, ◌-◌, ◌*◌, ◌/◌, ◌<◌, ◌≤◌, ◌==◌, min, List, length, map, replicate, sum, slice_set, slice_index, Option, None, Some, if◌then◌else◌}
use Rattle.std.specs.List.{range_with_len}
use Rattle.std.specs.Option.{option_map}
use Rattle.envy_policy.specs.declared.setup.Policy.{Policy}
use Rattle.envy_policy.specs.declared.setup.Policy.TheVariants.{Greedy, Fifo, Locality, Hybrid, Lifetime}
use Rattle.envy_policy.specs.Notes.{Notes, unnoted, noted_flush, noted_clean}
use Rattle.envy_policy.specs.Setup.{run_of}

pub record History : Type 0 where
  pub policy : Policy
  pub pages : ℕ
  pub positions : ℕ
  -- of each partition: its heat, and the position where its last cleaning in turn began
  pub heats : List ℕ
  pub turns : List ℕ
  -- flushes since the start or the last halving of the heats
  pub flushes : ℕ
  -- how long the pages' copies live, which one policy notes
  pub lives : Option Notes

-- positions of a partition; the last partition may have fewer
abbrev pub run : History → ℕ
run h = run_of h.policy h.positions

abbrev pub partition_of : History → ℕ → ℕ
partition_of h position = position / run h

-- the first position of partition g, and the one after its last
abbrev pub first_of : History → ℕ → ℕ
first_of h g = g * run h

abbrev pub end_of : History → ℕ → ℕ
end_of h g = min (first_of h g + run h) h.positions

-- how many partitions n positions make, and the last position of partition g, where a run makes one
abbrev pub count_in : ℕ → ℕ → ℕ
count_in n run = (n - 1) / run + 1

abbrev pub last_in : ℕ → ℕ → ℕ → ℕ
last_in n run g = min (g * run + run) n - 1

-- what a policy has noted of lives at the start
abbrev pub lives_of : Policy → ℕ → ℕ → Option Notes
lives_of Greedy pages n = None
lives_of Fifo pages n = None
lives_of Locality pages n = None
lives_of (Hybrid part) pages n = None
lives_of Lifetime pages n = Some (unnoted pages n)

-- at the start no partition is warm, each turn stands at the partition's last position, and no life is noted
abbrev pub started : Policy → ℕ → ℕ → History
started policy pages n = record {
  policy = policy;
  pages = pages;
  positions = n;
  heats = replicate (count_in n (run_of policy n)) 0;
  turns = map (last_in n (run_of policy n)) (range_with_len 0 (count_in n (run_of policy n)));
  flushes = 0;
  lives = lives_of policy pages n;
}

-- one flush more, and its partition is warmer by one
abbrev pub warmed : History → ℕ → History
warmed h position = record h {
  heats = slice_set h.heats (partition_of h position) (slice_index h.heats (partition_of h position) + 1);
  flushes = h.flushes + 1;
}

-- at 1,024 flushes all heats are halved, and the count begins anew
abbrev pub halved : History → History
halved h = if h.flushes == 1024 then record h { heats = map (λ x. x / 2) h.heats; flushes = 0 } else h

-- after a flush to the position
abbrev pub flushed : History → ℕ → History
flushed h position = halved (warmed h position)

-- after a row at the position was claimed for a flush of the page
abbrev pub claimed : History → ℕ → ℕ → History
claimed h position page = record (flushed h position) { lives = option_map (noted_flush position page) h.lives }

-- after a cleaning of the position has begun
abbrev pub cleaned : History → ℕ → History
cleaned h position = record h {
  turns = slice_set h.turns (partition_of h position) position;
  lives = option_map (noted_clean position) h.lives;
}

-- one policy notes lives, of so many pages at so many positions
abbrev pub AreLives : Policy → ℕ → ℕ → Option Notes → Type 0
AreLives policy pages positions None = policy ≢ Lifetime
AreLives policy pages positions (Some n) = (policy ≡ Lifetime) × (length n.born ≡ pages) × (length n.cleaned ≡ positions)

pub record IsHistory (h : History) : Type 0 where
  pub part : 1 ≤ run h
  pub few_part : run h ≤ h.positions
  pub few : h.positions ≤ 4095
  pub heats : length h.heats ≡ count_in h.positions (run h)
  pub few_heats : length h.heats ≤ h.positions
  pub turns : length h.turns ≡ count_in h.positions (run h)
  pub within : (g : ℕ) → g < length h.turns → partition_of h (slice_index h.turns g) ≡ g
  pub inside : (g : ℕ) → g < length h.turns → slice_index h.turns g < h.positions
  pub flushes : h.flushes < 1024
  pub warmth : sum h.heats ≤ 1024 + h.flushes
  pub lives : AreLives h.policy h.pages h.positions h.lives

-- the policy and the sizes are those of before
pub record SameSizes (old new : History) : Type 0 where
  pub policy : new.policy ≡ old.policy
  pub pages : new.pages ≡ old.pages
  pub positions : new.positions ≡ old.positions
  pub heats : length new.heats ≡ length old.heats
  pub turns : length new.turns ≡ length old.turns

-- Room for the pages that a run of puts meets.
use Rattle.std.specs.Prelude.{◌≡◌, ℕ, zero, suc, ◌+◌, ◌-◌, ◌/◌, ◌<◌, min, IsTrue, length, Some, if◌then◌else◌}
use Rattle.envy_base.specs.declared.fields.Slot.TheVariants.{Active}
use Rattle.envy_map.specs.Fields.{slot as slot_of}
use Rattle.envy_txn.specs.Owners.{Ownership}
use Rattle.envy_memory.specs.Effects.{is_unowned}
use Rattle.envy_memory.specs.Picture.{Picture}
use Rattle.envy_memory.specs.Runs.{pages_met}
use Rattle.envy_base.specs.declared.page.TheConstants.{PAGE_WORDS}

-- how many of so many pages, from page p upward, no slot owns
abbrev pub unowned : ℕ → ℕ → Ownership → ℕ
unowned zero p o = 0
unowned (suc k) p o = (if is_unowned o (p + k) then 1 else 0) + unowned k p o

-- how many of an array's pages a run of n words meets
abbrev pub pages_within : ℕ → ℕ → ℕ → ℕ
pages_within a n pages = min (pages_met a n) (pages - a / PAGE_WORDS)

-- power is on, slot t is open, and the run meets more unowned pages than may yet be owned
abbrev pub LacksRoom : ℕ → ℕ → ℕ → Picture → Type 0
LacksRoom t a n p =
    IsTrue p.chart.on × (slot_of p.chart.fields t ≡ Some Active)
    × (p.chart.shape.shadows < length p.owned.pairs + unowned (pages_within a n p.chart.shape.pages) (a / PAGE_WORDS) p.owned)

-- Runs: so many words at an address and behind it, and the pages that they lie on.
use Rattle.std.specs.Prelude.{◌≡◌, ℕ, zero, suc, ◌+◌, ◌-◌, ◌*◌, ◌/◌, ◌%◌, ◌<◌, ◌&&◌, nat_lt, Bool, IsTrue, Option, Some}
use Rattle.envy_base.specs.declared.fields.Place.TheVariants.{Frame}
use Rattle.envy_map.specs.Fields.{place}
use Rattle.envy_txn.specs.Owners.{owner_of}
use Rattle.envy_memory.specs.Picture.{Picture}
use Rattle.envy_base.specs.declared.page.TheConstants.{PAGE_WORDS}

-- the address of a run's last word
abbrev pub last_of : ℕ → ℕ → ℕ
last_of a n = a + n - 1

-- how many pages a run of n words meets
abbrev pub pages_met : ℕ → ℕ → ℕ
pages_met a zero = 0
pages_met a (suc n) = (a + n) / PAGE_WORDS + 1 - a / PAGE_WORDS

-- power is on, there are words, and the last one's address lies past the last page
abbrev pub RunsPast : ℕ → ℕ → Picture → Type 0
RunsPast a n p = IsTrue p.chart.on × (0 < n) × (PAGE_WORDS * p.chart.shape.pages < a + n)

-- whether word i of a run is one more of a page on which an earlier one lies
abbrev pub is_more : ℕ → ℕ → Bool
is_more a i = nat_lt 0 i && nat_lt 0 ((a + i) % PAGE_WORDS)

-- the page stands in this frame, and this is its owner
pub record StandsFor (owner : Option ℕ) (page frame : ℕ) (p : Picture) : Type 0 where
  pub on : IsTrue p.chart.on
  pub within : page < p.chart.shape.pages
  pub here : place p.chart.fields page ≡ Some (Frame frame)
  pub owned : owner_of p.owned.pairs page ≡ owner

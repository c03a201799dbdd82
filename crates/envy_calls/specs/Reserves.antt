-- What a call answers by a number of the segments in reserve.
use Rattle.std.specs.Prelude.{◌≡◌, ◌⊎◌, ◌+◌, ℕ, false, IsTrue, Option, None, Some}
use Rattle.envy_memory.specs.Picture.{Picture}
use Rattle.envy_memory.specs.Reserves.{TellsErases, left, retired}
use Rattle.envy_calls.specs.Codes.{number_of}
use Rattle.envy_calls.specs.declared.code.Code.TheVariants.{Done, Empty, Off}

-- how many segments in reserve are retired, and how many are left: none exactly if the next bad erase is told
pub record Wears (p : Picture) (gone here : ℕ) : Type 0 where
  pub retired : gone ≡ retired p.chart
  pub left : here ≡ left p.chart
  pub all : gone + here ≡ p.chart.shape.reserves
  pub tells : TellsErases p.chart here

-- the two numbers before the call, the answer, and the two after it
abbrev pub DoesWear : Option Picture → ℕ → ℕ → ℕ → ℕ → ℕ → Type 0
DoesWear None gone here code gone_after here_after = (code ≡ number_of Empty) × (gone_after ≡ gone) × (here_after ≡ here)
DoesWear (Some p) gone here code gone_after here_after =
    ((code ≡ number_of Done) × IsTrue p.chart.on × Wears p gone_after here_after)
    ⊎ ((code ≡ number_of Off) × (p.chart.on ≡ false) × (gone_after ≡ gone) × (here_after ≡ here))

-- A trace that can be served to its end: nothing of it is refused and neither stream fails.
use Rattle.std.specs.Prelude.{◌≡◌, ℕ, ◌+◌, ◌-◌, ◌^◌, ◌<◌, IsOk, List, length, Some}
use Rattle.std.specs.List.{All as EachOf}
use Rattle.envy_io.specs.Lines.{lines_of}
use Rattle.envy_serve.specs.Ends.{most_bytes}
use Rattle.envy_serve.specs.Grammar.{Grammar}
use Rattle.envy_serve.specs.Streams.{Streams}

-- the count didn't rise, and isn't one that can't
abbrev pub StaysLow : ℕ → ℕ → Type 0
StaysLow old new = (old < 2 ^ 64 - 1) × (new ≡ old)

-- The source tells its bytes and never failed. With those skipped they are fewer than may be taken, and each line of
-- them all is accepted. The sink never failed.
pub record IsGoodTrace {Line Reply : Type 0} (g : Grammar Line Reply) (skipped : ℕ) (io : Streams) : Type 0 where
  pub bytes : List ℕ
  pub told : io.from.left ≡ Some bytes
  pub short : skipped + length bytes < most_bytes
  pub lines : EachOf (λ piece. IsOk (g.reads piece)) (lines_of bytes)
  pub reads : StaysLow io.from.faults io.feed.faults
  pub writes : StaysLow io.to.faults io.sink.faults

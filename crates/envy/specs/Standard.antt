-- What standard input and standard output mean: how often they failed, and nothing of their bytes.
use Rattle.std.specs.Prelude.{ℕ, Bool, None}
use Rattle.envy_io.specs.Streams.{Feed, Drain}
use Rattle.envy.specs.declared.streams.StdSource.{StdSource}
use Rattle.envy.specs.declared.streams.StdSink.{StdSink}

abbrev pub input_feed : StdSource → Feed
input_feed s = record { left = None; faults = s.faults }

-- a sink that failed so often, and was flushed or not
abbrev pub untold_drain : ℕ → Bool → Drain
untold_drain faults flushed = record { written = None; faults = faults; flushed = flushed }

abbrev pub output_drain : StdSink → Drain
output_drain s = untold_drain s.faults s.flushed

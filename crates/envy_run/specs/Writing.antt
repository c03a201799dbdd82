-- A text that is all that a run writes.
use Rattle.std.specs.Prelude.{◌≡◌, ◌⊎◌, ℕ, IsTrue, List, Result, Ok, Err}
use Rattle.envy_io.specs.declared.source.Failed.{Failed}
use Rattle.envy_io.specs.Streams.{Drain}
use Rattle.envy_serve.specs.Streams.{Written, FrontWritten}
use Rattle.envy_run.specs.Outcome.{Outcome, EndsBy}
use Rattle.envy_run.specs.declared.endings.Ending.{Ending}
use Rattle.envy_run.specs.declared.endings.Ending.TheVariants.{Done, WriteFault}

-- the text is written whole and the sink is flushed, or a front of it is written and the sink fails
abbrev pub WritesOut : List ℕ → Result Unit Failed → Drain → Drain → Type 0
WritesOut text (Ok done) old new = Written text old new × IsTrue new.flushed
WritesOut text (Err failed) old new = FrontWritten text old new

-- all is done where the text was written whole and the sink is flushed; else the sink failed
abbrev pub WritesTrace : List ℕ → Outcome → Drain → Drain → Type 0
WritesTrace text o to sink = (EndsBy Done o × Written text to sink × IsTrue sink.flushed) ⊎ (EndsBy WriteFault o × FrontWritten text to sink)

-- the same of an ending
abbrev pub WritesAs : List ℕ → Ending → Drain → Drain → Type 0
WritesAs text ending to sink = ((ending ≡ Done) × Written text to sink × IsTrue sink.flushed) ⊎ ((ending ≡ WriteFault) × FrontWritten text to sink)

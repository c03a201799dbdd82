use Rattle.std.proofs.Common.{◌≡◌, length}
use Rattle.envy_io.specs.Fetching.{IsIdle}
use Rattle.envy_io.proofs.TakesLemmas.{askings}
use Rattle.envy_io.proofs.Fetched.{Fetched}
use Rattle.envy_io.proofs.lines.Lines.next_bytes.Given as goal

abbrev pub invariant-loop-count : goal.invariant-loop-count
invariant-loop-count g l = record {
  fetched : Fetched l.fn.self (g.S.Source.feed l.initial.source) l.into l.count l.self (g.S.Source.feed l.source);
  unasked : IsIdle l.fn.self (length l.into) → l.source ≡ l.initial.source;
}

abbrev pub decreases-loop-count : goal.decreases-loop-count
decreases-loop-count g l = askings l.self

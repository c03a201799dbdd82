use Rattle.std.proofs.Common.{◌≡◌}
use Rattle.envy_io.specs.Asking.{Gathers, BeginsWith}
use Rattle.envy_io.specs.Taking.{Wants}
use Rattle.envy_io.proofs.TakesLemmas.{askings}
use Rattle.envy_io.proofs.lines.Lines.gather.Given as goal

abbrev pub invariant-asking : goal.invariant-asking
invariant-asking g l = record {
  gathers : Gathers l.initial.self (g.S.Source.feed l.initial.source) l.self (g.S.Source.feed l.source);
  unasked : ¬ Wants l.initial.self → (l.self ≡ l.initial.self) × (l.source ≡ l.initial.source);
  front : BeginsWith l.self.held l.front;
}

abbrev pub decreases-asking : goal.decreases-asking
decreases-asking g l = askings l.self

use Rattle.envy_index_calls.specs.Scanned.{pairs_in}
use Rattle.envy_index_calls.proofs.Feeding.{Rises}
use Rattle.envy_index_calls.proofs.loads.rise.Given as goal

abbrev pub invariant-loop-pair : goal.invariant-loop-pair
invariant-loop-pair l = Rises l.least l.pair-index (pairs_in l.pairs)

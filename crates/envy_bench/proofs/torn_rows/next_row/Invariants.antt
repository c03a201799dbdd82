use Rattle.envy_bench.specs.Draws.{next_word}
use Rattle.envy_bench.proofs.Draws.{IsDrawn}
use Rattle.envy_bench.proofs.torn_rows.next_row.Given as goal

abbrev pub invariant-loop-word : goal.invariant-loop-word
invariant-loop-word l = IsDrawn next_word l.initial.torn l.torn l.word-items l.word-index

use Rattle.std.proofs.Common.{◌≡◌, ◌∙◌, ap, arith}
use Rattle.envy_bench.specs.Draws.{next_word}
use Rattle.envy_bench.specs.TornRows.{after_steps}
use Rattle.envy_bench.proofs.Draws.{IsDrawn, IsDrawn-none, IsDrawn-more, IsDrawn-all}
use Rattle.envy_bench.proofs.torn_rows.next_row.Goals as goal

pub loop-word-init : goal.loop-word-init
loop-word-init c = IsDrawn-none next_word _ _

pub loop-word-preserved : goal.loop-word-preserved
loop-word-preserved c = IsDrawn-more next_word _ _ _ _ _ _ (omega arith) c.next.ensures.word c.loop-word.invariant

pub returns-clause-row : goal.returns-clause-row
returns-clause-row c = IsDrawn-all next_word _ _ _ _ (omega arith) c.loop-word-test.array_long c.loop-word.invariant

pub returns-clause-rest : goal.returns-clause-rest
returns-clause-rest c =
    let all : c.loop-word.word-index ≡ 32 = omega arith in
    IsDrawn.rest c.loop-word.invariant ∙ ap (λ n. after_steps next_word n c.args.torn.now) all

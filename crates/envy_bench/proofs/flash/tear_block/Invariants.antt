use Rattle.std.proofs.Common.{◌≡◌, ◌*◌}
use Rattle.envy_bench.specs.Draws.{seeded, next_word}
use Rattle.envy_bank.specs.Rows.{IsBank}
use Rattle.envy_bench.specs.TornRows.{after_steps}
use Rattle.envy_bench.proofs.Tears.{TearsUpTo}
use Rattle.envy_bench.proofs.flash.tear_block.Given as goal

abbrev pub invariant-loop-row : goal.invariant-loop-row
invariant-loop-row l = record {
  torn : l.torn ≡ after_steps next_word (32 * l.row) (seeded l.g);
  flash : TearsUpTo l.rows l.block l.g l.row l.initial.bank.flash l.bank.flash;
  same : l.bank ≡ record l.initial.bank { flash = l.bank.flash };
  whole : IsBank l.bank;
}

use Rattle.std.proofs.Common.{◌≡◌, ◌∙◌, sym, refl, ap, subst, arith, ◌<◌, ◌+◌, ◌*◌, length}
use Rattle.std.proofs.lemmas.Nat.{mul-add-lt}
use Rattle.envy_bench.specs.Draws.{seeded, next_word}
use Rattle.envy_bank.specs.Rows.{BankState, with_row}
use Rattle.envy_bench.specs.TornRows.{after_steps, next_words, torn_row}
use Rattle.envy_bench.proofs.Draws.{after_none}
use Rattle.envy_bench.proofs.Tears.{TearsUpTo, TearsUpTo-none, TearsUpTo-more, torn_row-next}
use Rattle.envy_bench.proofs.flash.tear_block.Goals as goal

pub loop-row-init : goal.loop-row-init
loop-row-init c = record {
  torn = c.new-torn.ensures ∙ sym (after_none next_word (seeded c.args.g));
  flash = TearsUpTo-none _ _ _ _;
  same = refl;
  whole = c.requires.whole;
}

pub loop-row-preserved : goal.loop-row-preserved
loop-row-preserved c =
    let was = c.loop-row.invariant in
    let place = c.args.block * c.args.rows + c.loop-row.row in
    let new : c.upset_row.new.self ≡ with_row c.loop-row.bank place c.next_row-words.result = c.upset_row.ensures.row in
    let row : c.next_row-words.result ≡ torn_row c.args.g c.loop-row.row = c.next_row-words.ensures.row ∙ ap (λ t. next_words next_word t) was.torn in
    let whole : length c.args.bank.now.flash ≡ length c.args.bank.now.erases * c.args.rows = c.requires.whole.whole ∙ ap (λ n. length c.args.bank.now.erases * n) c.requires.rows in
    let within : place < c.args.rows * length c.args.bank.now.erases = mul-add-lt c.args.block c.args.rows c.loop-row.row (length c.args.bank.now.erases) c.requires.block c.loop-row-test.true in
    let long = was.flash.long in
    let room : place < length c.loop-row.bank.flash = omega arith in
    record {
      torn = c.next_row-words.ensures.rest ∙ ap (λ t. after_steps next_word 32 t) was.torn ∙ torn_row-next c.args.g c.loop-row.row;
      flash = subst (λ (b : BankState). TearsUpTo c.args.rows c.args.block c.args.g (c.loop-row.row + 1) c.args.bank.now.flash b.flash) (sym new)
          (TearsUpTo-more c.args.rows c.args.block c.args.g c.loop-row.row c.args.bank.now.flash c.loop-row.bank.flash c.next_row-words.result c.loop-row-test.true room row was.flash);
      same = subst (λ (b : BankState). b ≡ record c.args.bank.now { flash = b.flash }) (sym new)
          (ap (λ (b : BankState). with_row b place c.next_row-words.result) was.same);
      whole = c.upset_row.ensures.whole;
    }

use Rattle.envy_bank.proofs.RowLaws.{IsBank-new}
use Rattle.envy_bank.proofs.bank.Bank.new.Goals as goal

pub invariant_of-result : goal.invariant_of-result
invariant_of-result c = IsBank-new c.in_ok-new.field-0 c.args.rows c.args.blocks c.in_ok-vec.field-0.items c.in_ok-new.ensures (c.in_ok-vec.ensures.items_if_clones_equal (λ y e. e)) c.requires.rows c.requires.size

pub returns-clause-whole : goal.returns-clause-whole
returns-clause-whole c = IsBank-new c.in_ok-new.field-0 c.args.rows c.args.blocks c.in_ok-vec.field-0.items c.in_ok-new.ensures (c.in_ok-vec.ensures.items_if_clones_equal (λ y e. e)) c.requires.rows c.requires.size

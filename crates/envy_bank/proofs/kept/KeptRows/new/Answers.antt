use Rattle.envy_bank.proofs.KeptLaws.{kept_new}
use Rattle.envy_bank.proofs.kept.KeptRows.new.Goals as goal

pub returns : goal.returns
returns c = kept_new c.args.count c.in_ok-vec.field-0.items c.in_ok-with_capacity.field-0.items (c.in_ok-vec.ensures.items_if_clones_equal (λ y e. e)) c.in_ok-with_capacity.ensures.items

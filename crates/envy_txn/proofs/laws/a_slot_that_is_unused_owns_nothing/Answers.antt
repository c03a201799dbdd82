use Rattle.std.proofs.Common.{set, Option, None, Some, sym, ◌∙◌, ap}
use Rattle.std.proofs.lemmas.List.{set-set, set-get_or}
use Rattle.envy_base.specs.declared.fields.Slot.{Slot}
use Rattle.envy_base.specs.declared.fields.Slot.TheVariants.{Active, Committed}
use Rattle.envy_txn.proofs.laws.a_slot_that_is_unused_owns_nothing.Goals as goal

pub returns-clause-committed : goal.returns-clause-committed
returns-clause-committed c = λ slots t active.
    set-set slots t (Some Committed) (Some Active) ∙ ap (λ (s : Option Slot). set slots t s) (sym active) ∙ set-get_or slots t None

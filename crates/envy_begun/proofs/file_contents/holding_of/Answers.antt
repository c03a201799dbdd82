use Rattle.std.proofs.Common.{inl, inr, refl}
use Rattle.envy_begun.proofs.file_contents.holding_of.Goals as goal

pub returns-then-has_operations : goal.returns-then-has_operations
returns-then-has_operations c = inl (refl, c.has_operations.ensures.some c.if-has_operations.true)

pub returns-else-has_operations : goal.returns-else-has_operations
returns-else-has_operations c = inr (refl, c.has_operations.ensures.none c.if-has_operations.false)

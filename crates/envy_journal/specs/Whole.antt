-- Operations that a log holds.
use Rattle.std.specs.Prelude.{◌≡◌, length}
use Rattle.envy_journal.specs.declared.operation.Operation.{Operation}
use Rattle.envy_journal.specs.declared.operation.Operation.TheVariants.{Put, Program, Erase}
use Rattle.envy_base.specs.declared.page.TheConstants.{PAGE_WORDS}

-- a page that is programmed has 32 words
abbrev pub IsWhole : Operation → Type 0
IsWhole (Put w v) = Unit {0}
IsWhole (Program row page) = length page ≡ PAGE_WORDS
IsWhole (Erase segment) = Unit {0}

use Rattle.std.proofs.Common.{refl}
use Rattle.envy_base.specs.Shape.{checked_within as shape_within}
use Rattle.envy_policy.specs.Setup.{checked_within}
use Rattle.envy_args.specs.Words.{command_of, options_in, are_known}
use Rattle.envy_args.proofs.laws.words_name_commands.Goals as goal

pub returns-clause-alone : goal.returns-clause-alone
unfolding command_of options_in are_known checked_within shape_within
returns-clause-alone c = refl

pub returns-clause-unknown : goal.returns-clause-unknown
unfolding command_of options_in are_known checked_within shape_within
returns-clause-unknown c = refl

pub returns-clause-twice : goal.returns-clause-twice
unfolding command_of options_in are_known checked_within shape_within
returns-clause-twice c = refl

pub returns-clause-share : goal.returns-clause-share
unfolding command_of options_in are_known checked_within shape_within
returns-clause-share c = refl

pub returns-clause-pages : goal.returns-clause-pages
unfolding command_of options_in are_known checked_within shape_within
returns-clause-pages c = refl

pub returns-clause-total : goal.returns-clause-total
unfolding command_of options_in are_known checked_within shape_within
returns-clause-total c = refl

pub returns-clause-large : goal.returns-clause-large
unfolding command_of options_in are_known checked_within shape_within
returns-clause-large c = (refl, refl)

pub returns-clause-transfers : goal.returns-clause-transfers
unfolding command_of options_in are_known checked_within shape_within
returns-clause-transfers c = refl

pub returns-clause-shadows : goal.returns-clause-shadows
unfolding command_of options_in are_known checked_within shape_within
returns-clause-shadows c = refl

pub returns-clause-judged : goal.returns-clause-judged
unfolding command_of options_in are_known checked_within shape_within
returns-clause-judged c = (refl, refl)

pub returns-clause-open : goal.returns-clause-open
unfolding command_of options_in are_known checked_within shape_within
returns-clause-open c = refl

pub returns-clause-tree : goal.returns-clause-tree
unfolding command_of options_in are_known checked_within shape_within
returns-clause-tree c = refl

pub returns-clause-heap : goal.returns-clause-heap
unfolding command_of options_in are_known checked_within shape_within
returns-clause-heap c = refl

pub returns-clause-reserved : goal.returns-clause-reserved
unfolding command_of options_in are_known checked_within shape_within
returns-clause-reserved c = (refl, refl)

pub returns-clause-reserves : goal.returns-clause-reserves
unfolding command_of options_in are_known checked_within shape_within
returns-clause-reserves c = refl

pub returns-clause-unreserved : goal.returns-clause-unreserved
unfolding command_of options_in are_known checked_within shape_within
returns-clause-unreserved c = refl

use Rattle.envy_trace.specs.Keep.{ReadsKeep}
use Rattle.envy_keep.proofs.kept_service.KeepingService.obey.Goals as goal

pub obey_line-requires-clause-ranges : goal.obey_line-requires-clause-ranges
obey_line-requires-clause-ranges g c = ReadsKeep.ranges ((c.keep_grammar_holds_both_ways.ensures.spelled c.requires.said.bytes c.args.line.now).0 c.requires.said.says)

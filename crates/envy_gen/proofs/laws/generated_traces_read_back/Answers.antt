use Rattle.envy_gen.specs.Traces.{generated}
use Rattle.envy_gen.proofs.DrawnLines.{generated-IsLine, generated-count, spelled-reads}
use Rattle.envy_gen.proofs.laws.generated_traces_read_back.Goals as goal

pub returns-clause-count : goal.returns-clause-count
returns-clause-count c = generated-count

pub returns-clause-reads_back : goal.returns-clause-reads_back
returns-clause-reads_back c = λ start lines mix is.
    spelled-reads c.grammar_holds_both_ways.ensures.reads_back c.grammar_holds_both_ways.ensures.one_line (generated start lines mix) (generated-IsLine start lines mix is)

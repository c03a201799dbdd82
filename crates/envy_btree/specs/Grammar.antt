-- What a line of a trace of the index says, or why it is refused.
use Rattle.std.specs.Prelude.{ℕ, List, [], ◌∷◌, codes, Result}
use Rattle.envy_trace.specs.declared.fault.LineFault.{LineFault}
use Rattle.envy_trace.specs.Grammar.{Entry, ◌takes◌, none, one, two, word, place, read_by}
use Rattle.envy_btree.specs.declared.line.IndexLine.{IndexLine}
use Rattle.envy_btree.specs.declared.line.IndexLine.TheVariants.{Empty, Get, Insert, Remove, Power, Cut, Bad}

abbrev pub index_commands : List (Entry IndexLine)
index_commands =
    (codes "get" takes one word Get)
    ∷ (codes "insert" takes two word word Insert)
    ∷ (codes "remove" takes one word Remove)
    ∷ (codes "power" takes none Power)
    ∷ (codes "cut" takes two place word Cut)
    ∷ (codes "bad" takes two place word Bad)
    ∷ []

unfoldable pub index_line_of : List ℕ → Result IndexLine LineFault
index_line_of = read_by Empty index_commands

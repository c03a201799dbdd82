-- The words of the commands.
use Rattle.std.specs.Prelude.{ℕ, List, [], ◌∷◌, codes}
use Rattle.envy_trace.specs.declared.command.Command.{Command}
use Rattle.envy_trace.specs.declared.command.Command.TheVariants.{Load, Look, Store, Begin, Put, Commit, Abort, Tick, Power, Cut, Bad, Stat}

abbrev pub name_of : Command → List ℕ
name_of Load = codes "load"
name_of Look = codes "look"
name_of Store = codes "store"
name_of Begin = codes "begin"
name_of Put = codes "put"
name_of Commit = codes "commit"
name_of Abort = codes "abort"
name_of Tick = codes "tick"
name_of Power = codes "power"
name_of Cut = codes "cut"
name_of Bad = codes "bad"
name_of Stat = codes "stat"

abbrev pub all : List Command
all = Load ∷ Look ∷ Store ∷ Begin ∷ Put ∷ Commit ∷ Abort ∷ Tick ∷ Power ∷ Cut ∷ Bad ∷ Stat ∷ []

-- The words of the commands of a trace of the index.
use Rattle.std.specs.Prelude.{ℕ, List, [], ◌∷◌, codes}
use Rattle.envy_btree.specs.declared.command.Command.{Command}
use Rattle.envy_btree.specs.declared.command.Command.TheVariants.{Get, Insert, Remove, Power, Cut, Bad}

abbrev pub name_of : Command → List ℕ
name_of Get = codes "get"
name_of Insert = codes "insert"
name_of Remove = codes "remove"
name_of Power = codes "power"
name_of Cut = codes "cut"
name_of Bad = codes "bad"

abbrev pub all : List Command
all = Get ∷ Insert ∷ Remove ∷ Power ∷ Cut ∷ Bad ∷ []

-- The theorem of `run`: its clauses, of what its words say, what it hands back, and its streams.
use Rattle.std.specs.Prelude.{◌≡◌, ◌⊎◌, ◌≤◌, ⊤, Option, None, Result, Ok, Err}
use Rattle.envy_args.specs.declared.command.Command.{Command}
use Rattle.envy_args.specs.declared.command.Command.TheVariants.{Mirror}
use Rattle.envy_args.specs.declared.command.WordsFault.{WordsFault}
use Rattle.envy_serve.specs.Ends.{most_bytes}
use Rattle.envy_serve.specs.Streams.{Streams}
use Rattle.envy_run.specs.Headline.{Headline, IsWithoutMemory, meaning_of}
use Rattle.envy_run.specs.Meaning.{Meaning}
use Rattle.envy_run.specs.Outcome.{Outcome}

-- There is an account of what was taken and written: what was printed is what an array of words answers. Or memory ran out,
-- and nothing was printed. No more lines are accepted than bytes are taken, and no more bytes are taken than may be.
pub record Prints (command : Result Command WordsFault) (o : Outcome) (io : Streams) : Type 0 where
  pub answers : ((account : Meaning.Account (meaning_of command)) × Meaning.Printed (meaning_of command) account o io) ⊎ IsWithoutMemory o io
  pub few : o.lines ≤ o.taken
  pub read : o.taken ≤ most_bytes

-- there is one board at most, but under the word `mirror`
abbrev pub IsAlone : {T : Type 0} → Command → Option T → Type 0
IsAlone (Mirror setup returns) second = ⊤
IsAlone command second = second ≡ None

abbrev pub IsAloneIn : Result Command WordsFault → Outcome → Type 0
IsAloneIn (Ok command) o = IsAlone command o.second
IsAloneIn (Err fault) o = o.second ≡ None

-- there is such an account that is also true of the board that is handed back
pub record Leaves (command : Result Command WordsFault) (o : Outcome) (io : Streams) : Type 0 where
  pub holds : ((account : Meaning.Account (meaning_of command)) × Meaning.Printed (meaning_of command) account o io × Meaning.Board (meaning_of command) account o) ⊎ IsWithoutMemory o io
  pub alone : IsAloneIn command o

-- and of its counts besides
abbrev pub Licenses : Result Command WordsFault → Outcome → Streams → Type 0
Licenses command o io = Headline command o io

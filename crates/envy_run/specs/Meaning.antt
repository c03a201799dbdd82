-- What is said of a run, whatever its word.
use Rattle.envy_serve.specs.Streams.{Streams}
use Rattle.envy_run.specs.Outcome.{Outcome}

-- What a word of the program means. Of each run there is an account, as the lines that were done with their replies. No
-- code holds it; what is claimed is that there is one, of which all this is true.
pub record Meaning : Type 1 where
  pub Account : Type 0
  -- the bytes taken and written are those that it tells, and it tells how the run ended
  pub Printed : Account → Outcome → Streams → Type 0
  -- what the board is that is handed back, or why there is none
  pub Board : Account → Outcome → Type 0
  -- what the board counts
  pub Licences : Account → Outcome → Type 0

-- there is such an account
pub record Does (m : Meaning) (o : Outcome) (io : Streams) : Type 0 where
  pub account : m.Account
  pub printed : m.Printed account o io
  pub board : m.Board account o
  pub licences : m.Licences account o

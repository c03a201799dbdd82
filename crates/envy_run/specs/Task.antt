-- The words of the program that serve a trace: what each means, and what the account of such a run is.
use Rattle.std.specs.Prelude.{ℕ, List, [], Option, None, Some}
use Rattle.envy_serve.specs.declared.server.End.{End}
use Rattle.envy_serve.specs.Ends.{Serves, HasServed}
use Rattle.envy_serve.specs.Grammar.{Grammar}
use Rattle.envy_serve.specs.Streams.{Streams}
use Rattle.envy_serve.specs.Turns.{Turn}
use Rattle.envy_run.specs.Meaning.{Meaning, Does}
use Rattle.envy_run.specs.Outcome.{Outcome, EndsBy, ending_of}

-- A word of the program that serves a trace. What its lines leave is an array, or a map, or a pair's two boards.
pub record Task (Line Reply Left : Type 0) : Type 1 where
  pub grammar : Grammar Line Reply
  -- how many bytes stand before the trace
  pub skipped : ℕ
  -- the lines with their replies lead to this; or power failed in the last of them for good, and a restart finds this
  pub Leads : List (Turn Line Reply) → Left → Type 0
  pub Dies : List (Turn Line Reply) → Left → Type 0
  -- what is written behind the replies
  pub tail : Outcome → List ℕ
  -- no line was read
  pub Unread : Outcome → Streams → Type 0
  -- the boards hold what was left; or they hold it without power; or, where no line was read, why
  pub HoldsLeft : Outcome → Left → Type 0
  pub HoldsDead : Outcome → Left → Type 0
  pub WhyUnread : Outcome → Type 0
  -- what the boards' counts say of the lines and replies, whatever the ending
  pub Licences : Outcome → List (Turn Line Reply) → Type 0

-- the lines that were accepted, with their replies, the newest first; to which end they were served; and what they left
pub record Session (Line Reply Left : Type 0) : Type 0 where
  pub turns : List (Turn Line Reply)
  pub end : End
  pub left : Left

-- The bytes taken are those of the lines, and the bytes written those of the replies. The last of them may have lost its
-- end.
pub record IsServed {Line Reply Left : Type 0} (w : Task Line Reply Left) (s : Session Line Reply Left) (o : Outcome) (io : Streams) : Type 0 where
  pub serves : Serves s.end o.lines o.taken w.grammar w.skipped (λ turns. w.Leads turns s.left) (λ turns. w.Dies turns s.left) (w.tail o) s.turns io
  pub ending : EndsBy (ending_of s.end) o

-- a trace was served, or no line of it was read
abbrev pub MaybeServed : {Line Reply Left : Type 0} → Task Line Reply Left → Option (Session Line Reply Left) → Outcome → Streams → Type 0
MaybeServed w None o io = w.Unread o io
MaybeServed w (Some s) o io = IsServed w s o io

-- what is said of the boards then
abbrev pub MaybeHeld : {Line Reply Left : Type 0} → Task Line Reply Left → Option (Session Line Reply Left) → Outcome → Type 0
MaybeHeld w None o = w.WhyUnread o
MaybeHeld w (Some s) o = HasServed s.end (λ turns. w.HoldsLeft o s.left) (λ turns. w.HoldsDead o s.left) s.turns

abbrev pub turns_of : {Line Reply Left : Type 0} → Option (Session Line Reply Left) → List (Turn Line Reply)
turns_of None = []
turns_of (Some s) = s.turns

-- the account of a trace is its session, if there was one
abbrev pub serving : {Line Reply Left : Type 0} → Task Line Reply Left → Meaning
serving {Line = Line} {Reply = Reply} {Left = Left} w = record {
  Account = Option (Session Line Reply Left);
  Printed = λ account o io. MaybeServed w account o io;
  Board = λ account o. MaybeHeld w account o;
  Licences = λ account o. w.Licences o (turns_of account);
}

abbrev pub DoesTask : {Line Reply Left : Type 0} → Task Line Reply Left → Outcome → Streams → Type 0
DoesTask w o io = Does (serving w) o io

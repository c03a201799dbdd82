-- What the plain array answers to the lines of a trace.
use Rattle.std.specs.Prelude.{◌≡◌, ◌⊎◌, ℕ, Bool, true, false, List, [], ◌∷◌, ◌++◌, Some}
use Rattle.envy_base.specs.declared.faults.PlannedFault.{PlannedFault}
use Rattle.envy_base.specs.declared.faults.PlannedFault.TheVariants.{Cut as PlanCut, Bad as PlanBad}
use Rattle.envy_array.specs.Array.{Array, restarted}
use Rattle.envy_array.specs.declared.counts.Counts.{Counts}
use Rattle.envy_array.specs.Step.{Command, Answer, Step, Accepts, Lost}
use Rattle.envy_array.specs.Step.{Load as DoLoad, Look as DoLook, Store as DoStore, Begin as DoBegin, Put as DoPut, Commit as DoCommit, Abort as DoAbort, Tick as DoTick}
use Rattle.envy_io.specs.Lines.{newline}
use Rattle.envy_serve.specs.Answering.{said, losable}
use Rattle.envy_trace.specs.declared.line.Line.{Line}
use Rattle.envy_trace.specs.declared.line.Line.TheVariants.{Empty, Load, Look, Store, Begin, Put, Commit, Abort, Tick, Power, Cut, Bad, Stat}
use Rattle.envy_trace.specs.declared.reply.Reply.{Reply}
use Rattle.envy_trace.specs.declared.reply.Reply.TheVariants.{Fault, Lost as IsLost, Restarted, Armed, Stat as StatLine}
use Rattle.envy_serve.specs.Grammar.{Grammar}
use Rattle.envy_serve.specs.Turns.{Turn}
use Rattle.envy_trace.specs.Grammar.{line_of}
use Rattle.envy_trace.specs.Replies.{reply_bytes}

-- a reply with its newline
abbrev pub line_text : Reply → List ℕ
line_text reply = reply_bytes reply ++ newline ∷ []

-- how lines and replies are spelled
abbrev pub trace_grammar : Grammar Line Reply
trace_grammar = record { reads = line_of; text = line_text }

-- a line of a trace and the replies to it
abbrev pub TraceTurn : Type 0
TraceTurn = Turn Line Reply

-- the array answers the command
abbrev pub Says : Array → Command → Reply → Array → Type 0
Says m command reply n = (answer : Answer) × Step m command answer n × (reply ≡ said answer)

-- a flash operation failed in a command that the array would have accepted: it stays
abbrev pub Faults : Array → Command → Reply → Array → Type 0
Faults m command reply n = (k : Array) × Accepts m command k × (reply ≡ Fault) × (n ≡ m)

-- the line of counters
pub record TellsCounts (May : Counts → Type 0) (m : Array) (reply : Reply) (n : Array) : Type 0 where
  pub counts : Counts
  pub may : May counts
  pub says : reply ≡ StatLine counts
  pub stays : n ≡ m

-- one reply to a line, power staying on; a line of counters may say these
abbrev pub Replies : (Counts → Type 0) → Array → Line → Reply → Array → Type 0
Replies May m (Load a) reply n = Says m (DoLoad a) reply n
Replies May m (Look a) reply n = Says m (DoLook a) reply n
Replies May m (Store a w) reply n = Says m (DoStore a w) reply n ⊎ Faults m (DoStore a w) reply n
Replies May m Begin reply n = Says m DoBegin reply n
Replies May m (Put t a w) reply n = Says m (DoPut t a w) reply n ⊎ Faults m (DoPut t a w) reply n
Replies May m (Commit t) reply n = Says m (DoCommit t) reply n
Replies May m (Abort t) reply n = Says m (DoAbort t) reply n
Replies May m Tick reply n = Says m DoTick reply n ⊎ Faults m DoTick reply n
Replies May m (Cut k g) reply n = (reply ≡ Armed) × (n ≡ m)
Replies May m (Bad k g) reply n = (reply ≡ Armed) × (n ≡ m)
Replies May m Stat reply n = TellsCounts May m reply n
Replies May m line reply n = ⊥

-- power failed in the line and returned: the array is as before the line or as after it, open transactions undone
pub record Loses (m : Array) (line : Line) (n : Array) : Type 0 where
  pub command : Command
  pub is : losable line ≡ Some command
  pub lost : Lost m command n

-- one line with its replies, from m to n
abbrev pub Does : (Counts → Type 0) → Array → Line → List Reply → Array → Type 0
Does May m line replies n =
    ((line ≡ Empty) × (replies ≡ []) × (n ≡ m))
    ⊎ (((reply : Reply) × (replies ≡ reply ∷ []) × Replies May m line reply n)
    ⊎ (((replies ≡ IsLost ∷ Restarted ∷ []) × Loses m line n)
    ⊎ ((line ≡ Power) × (replies ≡ Restarted ∷ []) × (n ≡ restarted m))))

abbrev pub is_power : Line → Bool
is_power Power = true
is_power line = false

-- the line plans a failure
abbrev pub is_plan : Line → Bool
is_plan (Cut k g) = true
is_plan (Bad k g) = true
is_plan line = false

-- that failure, if it does
abbrev pub plan_of : Line → List PlannedFault
plan_of (Cut k g) = PlanCut k g ∷ []
plan_of (Bad k g) = PlanBad k g ∷ []
plan_of line = []

abbrev pub is_lost : Reply → Bool
is_lost IsLost = true
is_lost reply = false

abbrev pub is_fault : Reply → Bool
is_fault Fault = true
is_fault reply = false

-- the replies that stand before power is asked for
abbrev pub before_restart : Line → List Reply
before_restart Power = []
before_restart line = IsLost ∷ []

-- power failed in the line, or the line cut it
abbrev pub FailsIn : Array → Line → Array → Type 0
FailsIn m line left = Loses m line left ⊎ ((line ≡ Power) × (left ≡ restarted m))

-- What the plain array answers to the lines of a kept memory's trace, power staying on.
use Rattle.std.specs.Prelude.{◌≡◌, ◌⊎◌, ℕ, Bool, true, false, List, [], ◌∷◌, ◌++◌, if◌then◌else◌}
use Rattle.envy_array.specs.Array.{Array, restarted}
use Rattle.envy_io.specs.Lines.{newline}
use Rattle.envy_trace.specs.declared.line.Line.TheVariants.{Empty}
use Rattle.envy_trace.specs.declared.reply.Reply.{Reply}
use Rattle.envy_trace.specs.declared.keep_line.KeepLine.{KeepLine}
use Rattle.envy_trace.specs.declared.keep_line.KeepLine.TheVariants.{Trace, Sync}
use Rattle.envy_trace.specs.declared.keep_reply.KeepReply.{KeepReply}
use Rattle.envy_trace.specs.declared.keep_reply.KeepReply.TheVariants.{Trace as TraceReply, Synced}
use Rattle.envy_trace.specs.Keep.{keep_line_of, keep_bytes}
use Rattle.envy_serve.specs.Grammar.{Grammar}
use Rattle.envy_serve.specs.Turns.{Turn, Leads}
use Rattle.envy_run.specs.Hits.{MayTell}
use Rattle.envy_run.specs.Turns.{TraceTurn, Loses, Replies}

-- how lines and replies are spelled
abbrev pub keep_grammar : Grammar KeepLine KeepReply
keep_grammar = record { reads = keep_line_of; text = λ reply. keep_bytes reply ++ newline ∷ [] }

-- a line and the replies to it
abbrev pub KeepTurn : Type 0
KeepTurn = Turn KeepLine KeepReply

-- the replies of the array
abbrev pub trace_replies : List KeepReply → List Reply
trace_replies [] = []
trace_replies (TraceReply reply ∷ replies) = reply ∷ trace_replies replies
trace_replies (Synced ∷ replies) = trace_replies replies

abbrev pub with_line : KeepLine → List KeepReply → List TraceTurn → List TraceTurn
with_line (Trace line) replies turns = record { line = line; replies = trace_replies replies } ∷ turns
with_line Sync replies turns = turns

-- the turns of one array among them: all but the lines `sync`
abbrev pub trace_turns : List KeepTurn → List TraceTurn
trace_turns [] = []
trace_turns (turn ∷ earlier) = with_line turn.line turn.replies (trace_turns earlier)

abbrev pub says_synced : List KeepReply → Bool
says_synced [] = false
says_synced (TraceReply reply ∷ replies) = says_synced replies
says_synced (Synced ∷ replies) = true

-- the turns up to the last line that was answered `synced`
abbrev pub synced_turns : List KeepTurn → List KeepTurn
synced_turns [] = []
synced_turns (turn ∷ earlier) = if says_synced turn.replies then turn ∷ earlier else synced_turns earlier

-- One line with its replies, from m to n: the array answers it, or it is empty. A sync leaves the array.
abbrev pub DoesKeep : ℕ → List KeepTurn → Array → KeepLine → List KeepReply → Array → Type 0
DoesKeep entries earlier m (Trace line) replies n =
    ((line ≡ Empty) × (replies ≡ []) × (n ≡ m))
    ⊎ ((reply : Reply) × (replies ≡ TraceReply reply ∷ []) × Replies (MayTell entries (trace_turns earlier)) m line reply n)
DoesKeep entries earlier m Sync replies n = (replies ≡ Synced ∷ []) × (n ≡ m)

-- lines with their replies, the newest first, lead from one array to another
abbrev pub KeepRun : ℕ → Array → List KeepTurn → Array → Type 0
KeepRun entries first turns m = Leads (λ earlier. DoesKeep entries earlier) first turns m

-- power failed in the line: the array is as before the line or as after it, open transactions undone
abbrev pub LosesKeep : Array → KeepLine → Array → Type 0
LosesKeep m (Trace line) n = Loses m line n
LosesKeep m Sync n = n ≡ restarted m

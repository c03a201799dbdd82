-- What the plain machine answers: it has no power that fails, no flash operations, and no work to count.
use Rattle.std.specs.Prelude.{◌≡◌, ⊤, List, [], ◌∷◌, Option, None, Some, Result, Ok, Err}
use Rattle.std.specs.List.{AllByRecursion}
use Rattle.envy_array.specs.Array.{Array}
use Rattle.envy_array.specs.declared.counts.Counts.{Counts}
use Rattle.envy_io.specs.declared.source.Failed.{Failed}
use Rattle.envy_io.specs.Streams.{Drain}
use Rattle.envy_memory.specs.Formats.{no_counts}
use Rattle.envy_serve.specs.Streams.{Written, FrontWritten}
use Rattle.envy_serve.specs.Turns.{Leads, texts}
use Rattle.envy_trace.specs.declared.line.Line.{Line}
use Rattle.envy_trace.specs.declared.reply.Reply.{Reply}
use Rattle.envy_trace.specs.declared.reply.Reply.TheVariants.{Fault, Lost}
use Rattle.envy_run.specs.Turns.{TraceTurn, Does, trace_grammar}

-- no access and no work was counted
abbrev pub IsNoWork : Counts → Type 0
IsNoWork counts = counts ≡ no_counts

-- the reply doesn't say that a line was lost or failed
abbrev pub IsCalmReply : Reply → Type 0
IsCalmReply Fault = ⊥
IsCalmReply Lost = ⊥
IsCalmReply reply = ⊤

-- the plain machine answers a line, with no reply to an empty one
pub record AnswersCalmly (m : Array) (line : Line) (replies : List Reply) (n : Array) : Type 0 where
  pub does : Does IsNoWork m line replies n
  pub calm : AllByRecursion IsCalmReply replies

-- the turns lead calmly from the first array to the machine
abbrev pub HasDoneCalmly : Array → Array → List TraceTurn → Type 0
HasDoneCalmly first now turns = Leads (λ earlier. AnswersCalmly) first turns now

-- power never stays off
abbrev pub NeverDies : List TraceTurn → Type 0
NeverDies turns = ⊥

-- the replies to a line that has one or none
abbrev pub listed : Option Reply → List Reply
listed None = []
listed (Some reply) = reply ∷ []

-- it does the line, and its replies are written, or a front of them
abbrev pub ObeysCalmly : Array → Line → Result Unit Failed → Array → Drain → Drain → Type 0
ObeysCalmly m line (Ok done) n sink then_sink = (replies : List Reply) × AnswersCalmly m line replies n × Written (texts trace_grammar replies) sink then_sink
ObeysCalmly m line (Err failed) n sink then_sink = (replies : List Reply) × AnswersCalmly m line replies n × FrontWritten (texts trace_grammar replies) sink then_sink

-- What the plain machine did, from what its calls say.
use Rattle.std.proofs.Common.{◌≡◌, inl, inr, ℕ, List, [], ◌∷◌, ◌++◌, take, refl, sym, ◌∙◌, ap, subst}
use Rattle.std.specs.Prelude.{Result, Ok, Err}
use Rattle.std.proofs.lemmas.List.{append-nil}
use Rattle.envy_array.specs.Array.{Array, restarted}
use Rattle.envy_array.specs.Step.{Command, Step, Answer, Word as IsWord, Done as IsDone, Started as IsStarted, Range as IsRange, Held as IsHeld, Closed as IsClosed, Full as IsFull, Busy as IsBusy}
use Rattle.envy_io.specs.declared.source.Failed.{Failed}
use Rattle.envy_io.specs.Lines.{newline}
use Rattle.envy_io.specs.Streams.{Drain, WritesAll, with_end}
use Rattle.envy_trace.specs.declared.line.Line.{Line}
use Rattle.envy_trace.specs.declared.line.Line.TheVariants.{Empty, Power}
use Rattle.envy_trace.specs.declared.reply.Reply.{Reply}
use Rattle.envy_trace.specs.declared.reply.Reply.TheVariants.{Restarted}
use Rattle.envy_trace.specs.Replies.{reply_bytes}
use Rattle.envy_run.specs.Calm.{AnswersCalmly, IsCalmReply, IsNoWork, ObeysCalmly}
use Rattle.envy_serve.specs.Answering.{said}
use Rattle.envy_run.specs.Turns.{Says, Replies, trace_grammar}
use Rattle.envy_serve.specs.Turns.{texts}

-- an answer of the array is calm
pub said-calm : (answer : Answer) → IsCalmReply (said answer)
said-calm (IsWord w) = tt
said-calm IsDone = tt
said-calm (IsStarted t) = tt
said-calm IsRange = tt
said-calm (IsHeld u) = tt
said-calm IsClosed = tt
said-calm IsFull = tt
said-calm IsBusy = tt

pub texts-one : (reply : Reply) → texts trace_grammar (reply ∷ []) ≡ reply_bytes reply ++ newline ∷ []
texts-one reply = append-nil (reply_bytes reply ++ newline ∷ [])

-- a line with one reply
pub told-calmly : (m : Array) (line : Line) (reply as_said : Reply) (n : Array) (sink then_sink : Drain) (wrote : Result Unit Failed) → reply ≡ as_said → AnswersCalmly m line (as_said ∷ []) n → WritesAll sink (reply_bytes reply ++ newline ∷ []) wrote then_sink → ObeysCalmly m line wrote n sink then_sink
told-calmly m line reply as_said n sink then_sink (Ok done) is answers (whole, faults, after) =
    (reply ∷ [], subst (λ (r : Reply). AnswersCalmly m line (r ∷ []) n) (sym is) answers, record { whole = whole ∙ ap (with_end sink.written) (sym (texts-one reply)); faults = faults })
told-calmly m line reply as_said n sink then_sink (Err failed) is answers (count, lt, front, faults) =
    (reply ∷ [], subst (λ (r : Reply). AnswersCalmly m line (r ∷ []) n) (sym is) answers, record { count = count; front = front ∙ ap (λ (t : List ℕ). with_end sink.written (take count t)) (sym (texts-one reply)); faults = faults })

-- a line with one reply that is calm, where the line is this one
pub replies-calmly : (m : Array) (line at : Line) (reply : Reply) (n : Array) → line ≡ at → Replies IsNoWork m at reply n → IsCalmReply reply → AnswersCalmly m line (reply ∷ []) n
replies-calmly m line at reply n is replies calm =
    subst (λ (l : Line). AnswersCalmly m l (reply ∷ []) n) (sym is) (record { does = inr (inl (reply, refl, replies)); calm = (calm, tt) })

pub empty-answers : (m : Array) (line : Line) → line ≡ Empty → AnswersCalmly m line [] m
empty-answers m line is = record { does = inl (is, refl, refl); calm = tt }

pub power-answers : (m : Array) (line : Line) (n : Array) → line ≡ Power → n ≡ restarted m → AnswersCalmly m line (Restarted ∷ []) n
power-answers m line n is left = record { does = inr (inr (inr (is, refl, left))); calm = (tt, tt) }

-- the answer of a call of the plain machine, where the line is the command
pub says-calmly : (m : Array) (line at : Line) (command : Command) (answer : Answer) (n : Array) → line ≡ at → (Says m command (said answer) n → Replies IsNoWork m at (said answer) n) → Step m command answer n → AnswersCalmly m line (said answer ∷ []) n
says-calmly m line at command answer n is reply step = replies-calmly m line at (said answer) n is (reply (answer, step, refl)) (said-calm answer)

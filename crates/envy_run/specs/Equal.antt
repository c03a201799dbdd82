-- The memory answers as the plain machine does, where nothing failed but power cut by hand.
use Rattle.std.specs.Prelude.{◌≡◌, ◌≢◌, ℕ, List, [], ◌∷◌, Option, Some, IfSome, Ok}
use Rattle.std.specs.List.{AllByRecursion}
use Rattle.envy_args.specs.declared.command.Command.TheVariants.{Run as RunWords, Plain as PlainWords}
use Rattle.envy_array.specs.Array.{Array, restarted}
use Rattle.envy_array.specs.Step.{Command, Answer, Step}
use Rattle.envy_array.specs.Step.{Load as DoLoad, Look as DoLook, Store as DoStore, Begin as DoBegin, Put as DoPut, Commit as DoCommit, Abort as DoAbort, Tick as DoTick}
use Rattle.envy_io.specs.Lines.{lines_of}
use Rattle.envy_io.specs.Streams.{with_end}
use Rattle.envy_map.specs.Fields.{Chart}
use Rattle.envy_policy.specs.declared.setup.Setup.{Setup}
use Rattle.envy_serve.specs.Streams.{Streams}
use Rattle.envy_trace.specs.Grammar.{line_of}
use Rattle.envy_trace.specs.declared.line.Line.{Line}
use Rattle.envy_trace.specs.declared.line.Line.TheVariants.{Empty, Load, Look, Store, Begin, Put, Commit, Abort, Tick, Power, Cut, Bad, Stat}
use Rattle.envy_trace.specs.declared.reply.Reply.{Reply}
use Rattle.envy_trace.specs.declared.reply.Reply.TheVariants.{Restarted, Armed}
use Rattle.envy_run.specs.Outcome.{Outcome}
use Rattle.envy_run.specs.Theorem.{Licenses}
use Rattle.envy_serve.specs.Answering.{said}

-- the array's own answer to the command
abbrev pub Answers : Array → Command → List Reply → Array → Type 0
Answers m command replies n = (answer : Answer) × Step m command answer n × (replies ≡ said answer ∷ [])

-- the replies to a line in which nothing fails; of a line of counters nothing is said
abbrev pub IsOwn : Array → Line → List Reply → Array → Type 0
IsOwn m Empty replies n = (replies ≡ []) × (n ≡ m)
IsOwn m (Load a) replies n = Answers m (DoLoad a) replies n
IsOwn m (Look a) replies n = Answers m (DoLook a) replies n
IsOwn m (Store a w) replies n = Answers m (DoStore a w) replies n
IsOwn m Begin replies n = Answers m DoBegin replies n
IsOwn m (Put t a w) replies n = Answers m (DoPut t a w) replies n
IsOwn m (Commit t) replies n = Answers m (DoCommit t) replies n
IsOwn m (Abort t) replies n = Answers m (DoAbort t) replies n
IsOwn m Tick replies n = Answers m DoTick replies n
IsOwn m Power replies n = (replies ≡ Restarted ∷ []) × (n ≡ restarted m)
IsOwn m (Cut k g) replies n = (replies ≡ Armed ∷ []) × (n ≡ m)
IsOwn m (Bad k g) replies n = (replies ≡ Armed ∷ []) × (n ≡ m)
IsOwn m Stat replies n = ⊥

-- no line asks for counters
abbrev pub HasNoStat : List ℕ → Type 0
HasNoStat bytes = AllByRecursion (λ piece. line_of piece ≢ Ok Stat) (lines_of bytes)

-- no flash operation failed, and power failed by hand alone
abbrev pub NothingFailed : Option Chart → Type 0
NothingFailed board = IfSome board (λ c. (c.bads ≡ 0) × (c.cuts ≡ c.pulled))

-- the text was written
abbrev pub Wrote : List ℕ → Streams → Type 0
Wrote text io = io.sink.written ≡ with_end io.to.written text

-- Of one setup and one trace without lines of counters, the memory and the plain machine write the same bytes, where
-- both do the trace to its end and nothing failed but power cut by hand.
abbrev pub WriteAlike : Type 0
WriteAlike = (setup : Setup) (returns : ℕ) (bytes : List ℕ) (o p : Outcome) (io jo : Streams)
    → Licenses (Ok (RunWords setup returns)) o io → Licenses (Ok (PlainWords setup)) p jo
    → io.from.left ≡ Some bytes → jo.from.left ≡ Some bytes → HasNoStat bytes
    → o.status ≡ 0 → p.status ≡ 0 → NothingFailed o.board
    → (text : List ℕ) × Wrote text io × Wrote text jo

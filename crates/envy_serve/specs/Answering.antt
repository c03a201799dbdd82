-- What a line of a trace asks of the plain array, and the reply that says its answer.
use Rattle.std.specs.Prelude.{Option, None, Some}
use Rattle.envy_array.specs.Step.{Command, Answer}
use Rattle.envy_array.specs.Step.{Store as DoStore, Begin as DoBegin, Put as DoPut, Commit as DoCommit, Abort as DoAbort, Tick as DoTick}
use Rattle.envy_array.specs.Step.{Word as IsWord, Done as IsDone, Started as IsStarted, Range as IsRange, Held as IsHeld, Closed as IsClosed, Full as IsFull, Busy as IsBusy}
use Rattle.envy_trace.specs.declared.line.Line.{Line}
use Rattle.envy_trace.specs.declared.line.Line.TheVariants.{Store, Begin, Put, Commit, Abort, Tick}
use Rattle.envy_trace.specs.declared.reply.Reply.{Reply}
use Rattle.envy_trace.specs.declared.reply.Reply.TheVariants.{Word, Done, Started, Range, Held, Closed, Full, Busy}

-- the reply that says the array's answer
abbrev pub said : Answer → Reply
said (IsWord w) = Word w
said IsDone = Done
said (IsStarted t) = Started t
said IsRange = Range
said (IsHeld u) = Held u
said IsClosed = Closed
said IsFull = Full
said IsBusy = Busy

-- the command of a line in which power may fail
abbrev pub losable : Line → Option Command
losable (Store a w) = Some (DoStore a w)
losable Begin = Some DoBegin
losable (Put t a w) = Some (DoPut t a w)
losable (Commit t) = Some (DoCommit t)
losable (Abort t) = Some (DoAbort t)
losable Tick = Some DoTick
losable line = None

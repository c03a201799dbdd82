use Rattle.std.proofs.Common.{refl}
use Rattle.envy_array.specs.Step.{Done as IsDone, Range as IsRange, Held as IsHeld, Closed as IsClosed, Full as IsFull}
use Rattle.envy_mirror.specs.Replies.{Off, Bad as WasBad, Said}
use Rattle.envy_pair.proofs.answers.put.Goals as goal

pub returns-in-Ok : goal.returns-in-Ok
returns-in-Ok g c = record { answer = Said IsDone; shows = refl; answers = c.in-Ok.ensures.answers; faults = λ e. cc }

pub returns-in-Err-Range : goal.returns-in-Err-Range
returns-in-Err-Range g c = let e = rw c.in-Err-Range.field-0-is at c.in-Err-Range.ensures in record { answer = Said IsRange; shows = refl; answers = e.answers; faults = λ e. cc }

pub returns-in-Err-Closed : goal.returns-in-Err-Closed
returns-in-Err-Closed g c = let e = rw c.in-Err-Closed.field-0-is at c.in-Err-Closed.ensures in record { answer = Said IsClosed; shows = refl; answers = e.answers; faults = λ e. cc }

pub returns-in-Err-Held : goal.returns-in-Err-Held
returns-in-Err-Held g c = let e = rw c.in-Err-Held.field-0-is at c.in-Err-Held.ensures in record { answer = Said (IsHeld c.in-Err-Held.owner); shows = refl; answers = e.answers; faults = λ e. cc }

pub returns-in-Err-Full : goal.returns-in-Err-Full
returns-in-Err-Full g c = let e = rw c.in-Err-Full.field-0-is at c.in-Err-Full.ensures in record { answer = Said IsFull; shows = refl; answers = e.answers; faults = λ e. cc }

pub returns-in-Err-Bad : goal.returns-in-Err-Bad
returns-in-Err-Bad g c = let e = rw c.in-Err-Bad.field-0-is at c.in-Err-Bad.ensures in record { answer = WasBad; shows = refl; answers = e.answers; faults = λ e. refl }

pub returns-in-Err-Off : goal.returns-in-Err-Off
returns-in-Err-Off g c = let e = rw c.in-Err-Off.field-0-is at c.in-Err-Off.ensures in record { answer = Off; shows = refl; answers = e.answers; faults = λ e. cc }

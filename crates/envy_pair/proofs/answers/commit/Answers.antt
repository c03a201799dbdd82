use Rattle.std.proofs.Common.{refl}
use Rattle.envy_array.specs.Step.{Done as IsDone, Closed as IsClosed}
use Rattle.envy_mirror.specs.Replies.{Off, Said}
use Rattle.envy_pair.proofs.answers.commit.Goals as goal

pub returns-in-Ok : goal.returns-in-Ok
returns-in-Ok g c = record { answer = Said IsDone; shows = refl; answers = c.in-Ok.ensures; faults = λ e. cc }

pub returns-in-Err-Closed : goal.returns-in-Err-Closed
returns-in-Err-Closed g c = let e = rw c.in-Err-Closed.field-0-is at c.in-Err-Closed.ensures in record { answer = Said IsClosed; shows = refl; answers = e; faults = λ e. cc }

pub returns-in-Err-Off : goal.returns-in-Err-Off
returns-in-Err-Off g c = let e = rw c.in-Err-Off.field-0-is at c.in-Err-Off.ensures in record { answer = Off; shows = refl; answers = e; faults = λ e. cc }

use Rattle.std.proofs.Common.{refl}
use Rattle.envy_array.specs.Step.{Started as IsStarted, Busy as IsBusy}
use Rattle.envy_mirror.specs.Replies.{Off, Said}
use Rattle.envy_pair.proofs.answers.begin.Goals as goal

pub returns-in-Ok : goal.returns-in-Ok
returns-in-Ok g c = record { answer = Said (IsStarted c.in-Ok.slot); shows = refl; answers = c.in-Ok.ensures; faults = λ e. cc }

pub returns-in-Err-Busy : goal.returns-in-Err-Busy
returns-in-Err-Busy g c = let e = rw c.in-Err-Busy.field-0-is at c.in-Err-Busy.ensures in record { answer = Said IsBusy; shows = refl; answers = e; faults = λ e. cc }

pub returns-in-Err-Off : goal.returns-in-Err-Off
returns-in-Err-Off g c = let e = rw c.in-Err-Off.field-0-is at c.in-Err-Off.ensures in record { answer = Off; shows = refl; answers = e; faults = λ e. cc }

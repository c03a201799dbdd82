use Rattle.std.proofs.Common.{refl}
use Rattle.envy_array.specs.Step.{Done as IsDone}
use Rattle.envy_mirror.specs.Replies.{Off, Bad as WasBad, Said}
use Rattle.envy_pair.proofs.answers.tick.Goals as goal

pub returns-in-Ok : goal.returns-in-Ok
returns-in-Ok g c = record { answer = Said IsDone; shows = refl; answers = c.in-Ok.ensures.answers; faults = λ e. cc }

pub returns-in-Err-Bad : goal.returns-in-Err-Bad
returns-in-Err-Bad g c = let e = rw c.in-Err-Bad.field-0-is at c.in-Err-Bad.ensures in record { answer = WasBad; shows = refl; answers = e.answers; faults = λ e. refl }

pub returns-in-Err-Off : goal.returns-in-Err-Off
returns-in-Err-Off g c = let e = rw c.in-Err-Off.field-0-is at c.in-Err-Off.ensures in record { answer = Off; shows = refl; answers = e.answers; faults = λ e. cc }

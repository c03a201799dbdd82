-- The answer of a refused call.
use Rattle.envy_array.specs.Step.{Answer, Range as RangeAnswer, Closed as ClosedAnswer, Held as HeldAnswer, Full as FullAnswer, Busy as BusyAnswer}
use Rattle.envy_plain.specs.declared.refusal.Refusal.{Refusal}
use Rattle.envy_plain.specs.declared.refusal.Refusal.TheVariants.{Range, Closed, Held, Full, Busy}

abbrev pub answer_of : Refusal → Answer
answer_of Range = RangeAnswer
answer_of Closed = ClosedAnswer
answer_of (Held slot) = HeldAnswer slot
answer_of Full = FullAnswer
answer_of Busy = BusyAnswer

use Rattle.envy_plain.proofs.Powering.{IsClosedBelow}
use Rattle.envy_plain.proofs.plain.Plain.power.Given as goal

abbrev pub invariant-loop-t : goal.invariant-loop-t
invariant-loop-t l = IsClosedBelow l.initial.self l.self l.t

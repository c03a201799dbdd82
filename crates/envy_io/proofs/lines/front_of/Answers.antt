use Rattle.std.proofs.Common.{sym}
use Rattle.envy_io.proofs.FrontLemmas.{front-line, front-open, front-long}
use Rattle.envy_io.proofs.lines.front_of.Goals as goal

pub returns-in-Some : goal.returns-in-Some
returns-in-Some c = front-line _ _ c.min.ensures _ (sym c.in-Some.ensures)

pub returns-in-None : goal.returns-in-None
returns-in-None c = front-open _ _ c.min.ensures c.if-within-le-LINE.true (sym c.in-None.ensures)

pub returns-in-None-2 : goal.returns-in-None-2
returns-in-None-2 c = front-long _ _ c.min.ensures c.if-within-le-LINE.false (sym c.in-None-2.ensures)

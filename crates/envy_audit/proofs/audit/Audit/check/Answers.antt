use Rattle.std.proofs.Common.{subst}
use Rattle.envy_map.specs.Fields.{chart}
use Rattle.envy_audit.specs.Judging.{FindsFirst}
use Rattle.envy_audit.proofs.Sounding.{points-sound}
use Rattle.envy_audit.proofs.audit.Audit.check.Goals as goal

pub returns-in-None-clause-verdict : goal.returns-in-None-clause-verdict
returns-in-None-clause-verdict g c =
    (c.in_ok-formatted.ensures.0, (c.in_ok-formatted.ensures.1.0 c.if-not-formatted.false, points-sound (g.B.Board.state c.args.board.now) (g.met.B.Board.lawful c.args.board.now) (subst (FindsFirst (chart (g.B.Board.state c.args.board.now))) c.in-None.is c.in_ok-first.ensures.finds)))

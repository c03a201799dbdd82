use Rattle.std.proofs.Common.{sym}
use Rattle.envy_map.specs.Fields.{chart}
use Rattle.envy_wear.proofs.Exits.{none-if, none-power}
use Rattle.envy_wear.proofs.Quieting.{due-early, due-far, due-near}
use Rattle.envy_wear.proofs.overdue.due.Goals as goal

pub returns-then-not-powered : goal.returns-then-not-powered
returns-then-not-powered g c = record { due = tt; power = sym c.if-not-powered.ensures }

pub returns-then-since-limit : goal.returns-then-since-limit
returns-then-since-limit g c = record {
  due = due-early (chart (g.B.Board.state c.args.board.now)) c.args.limit c.args.since c.if-since-limit.true;
  power = sym c.if-not-powered.ensures;
}

pub returns-in_err-most : goal.returns-in_err-most
returns-in_err-most g c = record {
  due = none-if c.from_residual.result _ _ c.from_residual.ensures.1;
  power = none-power c.from_residual.result _ _ c.in_err-most.ensures.off c.from_residual.ensures.1;
}

pub returns-then-most-least : goal.returns-then-most-least
returns-then-most-least g c =
    let far = c.in_ok-most.ensures in
    record {
      due = due-far (chart (g.B.Board.state c.args.board.now)) c.args.limit c.args.since _ _ _ _ far.most.0 far.most.1 far.least.0 far.least.1 c.if-most-least.true c.if-since-limit.false;
      power = sym c.if-not-powered.ensures;
    }

pub returns : goal.returns
returns g c =
    let far = c.in_ok-most.ensures in
    record {
      due = due-near (chart (g.B.Board.state c.args.board.now)) c.args.limit c.args.since _ _ _ _ far.most.0 far.most.1 far.least.0 far.least.1 c.if-most-least.false;
      power = sym c.if-not-powered.ensures;
    }

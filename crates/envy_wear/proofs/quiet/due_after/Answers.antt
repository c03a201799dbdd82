use Rattle.std.proofs.Common.{refl, sym}
use Rattle.std.specs.Prelude.{IsTrue}
use Rattle.envy_map.specs.Fields.{chart}
use Rattle.envy_wear.proofs.Exits.{if-each, if-none, none-if, none-power}
use Rattle.envy_wear.proofs.Quieting.{due-early, due-quiet, quiet-none}
use Rattle.envy_wear.proofs.quiet.due_after.Goals as goal
use Rattle.envy_wear.proofs.quiet.due_after.Goals.{then-since-limit-via-then-since-limit, then-since-limit-via-else-since-limit+then-since-quiet}

pub returns-then-not-powered : goal.returns-then-not-powered
returns-then-not-powered g c = record { due = tt; quiet = c.requires.quiet; anew = tt; power = sym c.if-not-powered.ensures }

pub returns-then-since-limit : goal.returns-then-since-limit
returns-then-since-limit g c =
    let old = chart (g.B.Board.state c.args.board.now) in
    let on : IsTrue old.on = sym c.if-not-powered.ensures in
    record {
      due = elim c.then-since-limit.branch [
        | then-since-limit-via-then-since-limit w ↦ due-early old c.args.limit c.args.since w.if-since-limit.true
        | then-since-limit-via-else-since-limit+then-since-quiet w ↦ due-quiet old c.args.limit c.args.since c.args.quiet.now (c.requires.sound on) (c.requires.quiet on) w.if-since-quiet.true
      ];
      quiet = c.requires.quiet;
      anew = tt;
      power = on;
    }

pub returns-in_err-swap : goal.returns-in_err-swap
returns-in_err-swap g c = record {
  due = none-if c.from_residual.result _ _ c.from_residual.ensures.1;
  quiet = c.requires.quiet;
  anew = none-if c.from_residual.result _ _ c.from_residual.ensures.1;
  power = none-power c.from_residual.result _ _ c.in_err-swap.ensures.power c.from_residual.ensures.1;
}

pub returns-in_err-quiet-in-None : goal.returns-in_err-quiet-in-None
returns-in_err-quiet-in-None g c = record {
  due = none-if c.from_residual-in_err-quiet-in-None.result _ _ c.from_residual-in_err-quiet-in-None.ensures.1;
  quiet = c.requires.quiet;
  anew = none-if c.from_residual-in_err-quiet-in-None.result _ _ c.from_residual-in_err-quiet-in-None.ensures.1;
  power = none-power c.from_residual-in_err-quiet-in-None.result _ _ c.in_err-quiet-in-None.ensures.off c.from_residual-in_err-quiet-in-None.ensures.1;
}

pub returns-in-Some : goal.returns-in-Some
returns-in-Some g c =
    let old = chart (g.B.Board.state c.args.board.now) in
    record {
      due = c.in_ok-swap.ensures.due;
      quiet = λ on. quiet-none old c.args.limit c.args.since;
      anew = if-each c.in_ok-swap.swap _ refl;
      power = sym c.if-not-powered.ensures;
    }

pub returns-in_ok-quiet-in-None : goal.returns-in_ok-quiet-in-None
returns-in_ok-quiet-in-None g c = record {
  due = c.in_ok-swap.ensures.due;
  quiet = λ on. c.in_ok-quiet-in-None.ensures.quiet;
  anew = if-none c.in_ok-swap.swap _ c.in-None.is;
  power = sym c.if-not-powered.ensures;
}

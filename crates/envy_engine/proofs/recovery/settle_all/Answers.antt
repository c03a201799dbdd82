use Rattle.std.proofs.Common.{◌∙◌, ◌<◌, subst}
use Rattle.envy_base.specs.declared.shape.Shape.{Shape}
use Rattle.envy_map.specs.Fields.{chart}
use Rattle.envy_soundness.specs.Same.{Same, Stays, Framed, SameDurable}
use Rattle.envy_reloc.proofs.Exits.{none-if, none-power}
use Rattle.envy_engine.proofs.SettleAnswers.{durable-both, settled-both, restarted-both}
use Rattle.envy_engine.proofs.recovery.settle_all.Goals as goal

pub settle-requires : goal.settle-requires
settle-requires g c = record { sound = λ on. c.requires.sound }

pub settle-requires-2 : goal.settle-requires-2
settle-requires-2 g c =
    let first = c.settle.ensures.durable c.requires.sound in
    record {
      sound = λ on. SameDurable.sound first;
      clear = λ on p lt. c.in_ok-settle.ensures.settles.undos p (subst (λ (sh : Shape). p < sh.pages) (SameDurable.shape first) lt);
    }

pub returns-in_err-settle : goal.returns-in_err-settle
returns-in_err-settle g c = record {
  durable = c.settle.ensures.durable c.requires.sound;
  settled = none-if c.from_residual.result _ _ c.from_residual.ensures.1;
  restarted = none-if c.from_residual.result _ _ c.from_residual.ensures.1;
  power = none-power c.from_residual.result _ (g.B.Board.state c.settle.new.board).on c.in_err-settle.ensures.power c.from_residual.ensures.1;
}

pub returns-in_err-settle-2 : goal.returns-in_err-settle-2
returns-in_err-settle-2 g c =
    let old = chart (g.B.Board.state c.args.board.now) in
    let mid = chart (g.B.Board.state c.settle.new.board) in
    let new = chart (g.B.Board.state c.settle-2.new.board) in
    let first = c.settle.ensures.durable c.requires.sound in
    record {
      durable = durable-both old mid new first (c.settle-2.ensures.same (SameDurable.sound first));
      settled = none-if c.from_residual-in_err-settle-2.result _ _ c.from_residual-in_err-settle-2.ensures.1;
      restarted = none-if c.from_residual-in_err-settle-2.result _ _ c.from_residual-in_err-settle-2.ensures.1;
      power = none-power c.from_residual-in_err-settle-2.result _ (g.B.Board.state c.settle-2.new.board).on c.in_err-settle-2.ensures.power c.from_residual-in_err-settle-2.ensures.1;
    }

pub returns : goal.returns
returns g c =
    let old = chart (g.B.Board.state c.args.board.now) in
    let mid = chart (g.B.Board.state c.settle.new.board) in
    let new = chart (g.B.Board.state c.settle-2.new.board) in
    let first = c.settle.ensures.durable c.requires.sound in
    let second = c.settle-2.ensures.same (SameDurable.sound first) in
    let owners = c.in_ok-settle.ensures.settles in
    record {
      durable = durable-both old mid new first second;
      settled = settled-both old mid new c.requires.version owners c.settle-2.ensures.others (Framed.shape (Stays.framed (Same.stays second)) ∙ SameDurable.shape first) c.in_ok-settle-2.ensures.job;
      restarted = restarted-both old mid new owners c.in_ok-settle-2.ensures.settles c.in_ok-settle-2.ensures.flash;
      power = c.in_ok-settle-2.ensures.power;
    }

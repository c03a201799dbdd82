use Rattle.std.proofs.Common.{◌≡◌, false, sym, subst, refl}
use Rattle.std.specs.Prelude.{IsTrue}
use Rattle.envy_base.specs.State.{State}
use Rattle.envy_map.specs.Fields.{chart}
use Rattle.envy_run.specs.Prepares.{IsPrepared}
use Rattle.envy_run.proofs.Attaching.{no-lives}
use Rattle.envy_run.proofs.Preparing.{prepared-again, prepared-bad, prepared-first, prepared-more, prepared-ready, unspent-first}
use Rattle.envy_run.proofs.preparation.prepare.Goals as goal

pub loop-memory-init : goal.loop-memory-init
loop-memory-init g c = (c.requires.on, (prepared-first (chart (g.B.Board.state c.args.board)), unspent-first (chart (g.B.Board.state c.args.board))))

pub returns-in-Ok : goal.returns-in-Ok
returns-in-Ok g c = prepared-ready (chart (g.B.Board.state c.args.board)) (g.B.Board.state c.loop-memory.board) c.args.setup c.in-Ok.memory c.loop-memory.invariant.1 c.in-Ok.ensures.counts c.in-Ok.ensures.made

pub returns-then-not-power_on : goal.returns-then-not-power_on
returns-then-not-power_on g c =
    let d = rw c.in-Err-default-Off.field-0-1-is at c.in-Err-default-Off.ensures in
    let p = prepared-more (chart (g.B.Board.state c.args.board)) (chart (g.B.Board.state c.loop-memory.board)) (chart (g.B.Board.state c.in-Err-default-Off.back)) c.loop-memory.invariant.1 d.counts in
    let none = no-lives (g.B.Board.state c.in-Err-default-Off.back).lives (c.if-not-power_on.ensures.answer.1) in
    subst (λ (x : State). IsPrepared (chart (g.B.Board.state c.args.board)) (chart x) × (x.on ≡ false) × (x.lives ≡ 0)) (sym c.if-not-power_on.ensures.state) (p, d.made.0, none)

pub loop-memory-preserved : goal.loop-memory-preserved
loop-memory-preserved g c =
    let d = rw c.in-Err-default-Off.field-0-1-is at c.in-Err-default-Off.ensures in
    let again = prepared-again (chart (g.B.Board.state c.args.board)) (g.B.Board.state c.loop-memory.board) (g.B.Board.state c.in-Err-default-Off.back) (g.B.Board.state c.power_on.new.self) c.args.setup c.loop-memory.invariant.0 (c.if-not-power_on.ensures.answer.0 refl) c.loop-memory.invariant.1 d.counts d.made c.if-not-power_on.ensures.state in
    (subst (λ (x : State). IsTrue x.on) (sym c.if-not-power_on.ensures.state) refl, again)

pub returns-in-Err-default-Bad : goal.returns-in-Err-default-Bad
returns-in-Err-default-Bad g c =
    let d = rw c.in-Err-default-Bad.field-0-1-is at c.in-Err-default-Bad.ensures in
    prepared-bad (chart (g.B.Board.state c.args.board)) (g.B.Board.state c.loop-memory.board) (g.B.Board.state c.in-Err-default-Bad.back) c.args.setup c.loop-memory.invariant.1 d.counts d.made

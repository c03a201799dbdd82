use Rattle.std.proofs.Common.{◌≡◌, ◌∙◌, false, refl, sym, subst}
use Rattle.std.specs.Prelude.{IsTrue}
use Rattle.envy_base.specs.State.{State}
use Rattle.envy_map.specs.Fields.{chart}
use Rattle.envy_memory.specs.Attaching.{MayAttach}
use Rattle.envy_run.specs.Attached.{IsUntouched, KeepsImage}
use Rattle.envy_run.proofs.Attaching.{attached-kept, keeps-first, keeps-lit, keeps-off, lives-fall, never-declined, no-lives}
use Rattle.envy_run.proofs.attachment.attach.Goals as goal

pub returns-then-not-power_on : goal.returns-then-not-power_on
returns-then-not-power_on g c =
    let d = rw c.in-Off.is at c.in-Err.ensures in
    let k = keeps-off (chart (g.B.Board.state c.args.board)) (g.B.Board.state c.loop-memory.board) (g.B.Board.state c.in-Err.back) c.args.setup c.loop-memory.invariant d in
    let none = no-lives (g.B.Board.state c.in-Err.back).lives (c.if-not-power_on.ensures.answer.1) in
    subst (λ (x : State). KeepsImage (chart (g.B.Board.state c.args.board)) (chart x) × (x.on ≡ false) × (x.lives ≡ 0)) (sym c.if-not-power_on.ensures.state) (k, d.0, none)

pub returns-in-Memory : goal.returns-in-Memory
returns-in-Memory g c =
    let (may, same) = rw c.in-Memory.is at c.in-Err.ensures in
    subst (λ (x : State). KeepsImage (chart (g.B.Board.state c.args.board)) (chart x) × IsTrue x.on) (sym same) (c.loop-memory.invariant, MayAttach.on may)

pub loop-memory-preserved : goal.loop-memory-preserved
loop-memory-preserved g c =
    let d = rw c.in-Off.is at c.in-Err.ensures in
    let k = keeps-off (chart (g.B.Board.state c.args.board)) (g.B.Board.state c.loop-memory.board) (g.B.Board.state c.in-Err.back) c.args.setup c.loop-memory.invariant d in
    keeps-lit (chart (g.B.Board.state c.args.board)) (g.B.Board.state c.in-Err.back) (g.B.Board.state c.power_on.new.self) k c.if-not-power_on.ensures.state

pub loop-memory-init : goal.loop-memory-init
loop-memory-init g c = keeps-first (chart (g.B.Board.state c.args.board)) c.requires.formatted c.requires.sound

pub attach-requires : goal.attach-requires
attach-requires g c = λ on formatted. c.loop-memory.invariant.still.sound

pub returns-in-Ok : goal.returns-in-Ok
returns-in-Ok g c = attached-kept (chart (g.B.Board.state c.args.board)) (chart (g.B.Board.state c.loop-memory.board)) c.args.setup c.in-Ok.memory c.loop-memory.invariant c.in-Ok.ensures

pub power_on-requires : goal.power_on-requires
power_on-requires g c = let d = rw c.in-Off.is at c.in-Err.ensures in d.0

pub loop-memory-smaller : goal.loop-memory-smaller
loop-memory-smaller g c =
    let d = rw c.in-Off.is at c.in-Err.ensures in
    lives-fall (g.B.Board.state c.loop-memory.board) (g.B.Board.state c.in-Err.back) (g.B.Board.state c.power_on.new.self) c.args.setup d (c.if-not-power_on.ensures.answer.0 refl) c.if-not-power_on.ensures.state

pub unreachable-requires : goal.unreachable-requires
unreachable-requires g c =
    never-declined (g.B.Board.state c.loop-memory.board) (g.B.Board.state c.in-Err.back) c.args.setup c.in-Err.fault c.requires.setup
    (IsUntouched.shape c.loop-memory.invariant.untouched ∙ c.requires.shape) c.loop-memory.invariant.still.formatted c.loop-memory.invariant.still.sound c.in_default.not-Off c.in_default.not-Memory c.in-Err.ensures

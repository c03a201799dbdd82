use Rattle.std.proofs.Common.{Bool, Err, ◌∙◌, ◌*◌, ◌+◌, refl, ap}
use Rattle.envy_base.specs.declared.board.Trouble.{Trouble}
use Rattle.std.proofs.lemmas.Result.{err_from_is_err_and}
use Rattle.envy_map.specs.Fields.{chart}
use Rattle.envy_soundness.specs.Same.{Same, Stays, Counted}
use Rattle.envy_engine.specs.Agreement.{Ready, Steady}
use Rattle.envy_engine.specs.Budgets.{Going, Spends}
use Rattle.envy_engine.specs.declared.parts.Parts.{Parts}
use Rattle.envy_engine.proofs.BudgetLemmas.{Going-start, Going-more, Going-stops, Going-last}
use Rattle.envy_engine.proofs.Leaving.{leaves_none, leaves_then, counts_bad_then}
use Rattle.envy_reloc.proofs.Exits.{err-if, err-after, err-bad, ok-bad}
use Rattle.envy_engine.proofs.Bounds.{le-same, turn-next, turn-less, three-four}
use Rattle.envy_engine.proofs.FlushLemmas.{err-at}
use Rattle.envy_engine.proofs.StepLemmas.{StepsBy-more, StepsBy-still}
use Rattle.envy_soundness.proofs.FrameStay.{FramesStay-trans}
use Rattle.envy_soundness.proofs.Composition.{Same-more}
use Rattle.envy_engine.proofs.job_rest.finish_all.Goals as goal

pub loop-turn-init : goal.loop-turn-init
loop-turn-init g c =
    let b = c.requires.budget in
    let now = chart (g.B.Board.state c.args.board.now) in
    record {
      ready = c.requires.ready;
      going = Going-start _ _ b.0 b.1 b.2 (3 * c.args.rows + 4) 3 (3 * c.args.rows + 15) (Ready.sound c.requires.ready) b.3 b.4 b.5 b.6;
      leaves = leaves_none now c.args.parts.now c.requires.ready;
      here = λ p k. ((λ h. h), (λ h. h));
      parts = refl;
      steps = (refl, refl);
    }

pub returns-in_err-turn-clause-same : goal.returns-in_err-turn-clause-same
returns-in_err-turn-clause-same g c =
    let k = c.loop-turn.invariant.going in
    Same-more (3 * c.args.rows + 4 + 1) 4 (3 * c.args.rows + 5) 4 _ _ (turn-next (3 * c.args.rows)) (le-same 4) (Going-stops _ _ _ _ _ _ _ _ k c.in_err-turn.ensures.turns)

pub returns-then-not-branch-clause-same : goal.returns-then-not-branch-clause-same
returns-then-not-branch-clause-same g c =
    let k = c.loop-turn.invariant.going in
    let w = Going.work k in
    Same-more (3 * c.args.rows + 4) 3 (3 * c.args.rows + 5) 4 _ _ (turn-less (3 * c.args.rows)) three-four (Going-last _ _ _ _ _ _ _ _ _ k (c.in_ok-turn.ensures.turns w.left_n w.left_e w.left_s w.left).0)

pub loop-turn-preserved : goal.loop-turn-preserved
loop-turn-preserved g c =
    let i = c.loop-turn.invariant in
    let k = i.going in
    let w = Going.work k in
    let e = c.in_ok-turn.ensures in
    let done = e.turns w.left_n w.left_e w.left_s w.left in
    let first = chart (g.B.Board.state c.args.board.now) in
    let mid = chart (g.B.Board.state c.loop-turn.board) in
    let new = chart (g.B.Board.state c.turn.new.board) in
    record {
      ready = record { on = e.power; sound = Stays.sound (Same.stays (Spends.same done.0)); fits = Steady.fits e.leaves.steady; agrees = Steady.agrees e.leaves.steady e.power };
      going = Going-more _ _ _ _ _ _ _ _ _ k done.0 (done.1 c.if-not-branch.false);
      leaves = leaves_then first mid new c.args.parts.now c.loop-turn.parts c.turn.new.parts i.leaves e.leaves;
      here = FramesStay-trans first.fields.places mid.fields.places new.fields.places i.here (e.here e.power);
      parts = e.parts ∙ ap (λ (z : Parts). record z { space = c.turn.new.parts.space; cache = c.turn.new.parts.cache; reloc = c.turn.new.parts.reloc; stages = c.turn.new.parts.stages }) i.parts;
      steps = StepsBy-more c.loop-turn._turn first c.args.parts.now mid c.loop-turn.parts new c.turn.new.parts i.steps (e.steps c.if-not-branch.false);
    }

pub returns-in_err-turn-clause-here : goal.returns-in_err-turn-clause-here
returns-in_err-turn-clause-here g c on =
    let first = chart (g.B.Board.state c.args.board.now) in
    let mid = chart (g.B.Board.state c.loop-turn.board) in
    let new = chart (g.B.Board.state c.turn.new.board) in
    FramesStay-trans first.fields.places mid.fields.places new.fields.places c.loop-turn.invariant.here (c.turn.ensures.here on)

pub returns-then-not-branch-clause-here : goal.returns-then-not-branch-clause-here
returns-then-not-branch-clause-here g c on =
    let first = chart (g.B.Board.state c.args.board.now) in
    let mid = chart (g.B.Board.state c.loop-turn.board) in
    let new = chart (g.B.Board.state c.turn.new.board) in
    FramesStay-trans first.fields.places mid.fields.places new.fields.places c.loop-turn.invariant.here (c.turn.ensures.here on)

pub returns-in_err-turn-clause-stops : goal.returns-in_err-turn-clause-stops
returns-in_err-turn-clause-stops g c =
    let p = err_from_is_err_and c.from_residual.result c.from_residual.ensures.1 in
    rw (p.1, p.2) (λ is. let e = c.in_err-turn.ensures.stops (err-at _ _ is) in record { steps = c.loop-turn._turn; mid = chart (g.B.Board.state c.loop-turn.board); between = c.loop-turn.parts; made = c.loop-turn.invariant.steps; running = e.0; stops = e.1 })

pub returns-then-not-branch-clause-finishes : goal.returns-then-not-branch-clause-finishes
returns-then-not-branch-clause-finishes g c =
    let first = chart (g.B.Board.state c.args.board.now) in
    let mid = chart (g.B.Board.state c.loop-turn.board) in
    let new = chart (g.B.Board.state c.turn.new.board) in
    let e = c.in_ok-turn.ensures in
    let still = e.still c.if-not-branch.true in
    let idle = e.idle c.if-not-branch.true in
    record {
      steps = c.loop-turn._turn;
      made = StepsBy-still c.loop-turn._turn first c.args.parts.now mid c.loop-turn.parts new c.turn.new.parts c.loop-turn.invariant.steps still.0 still.1;
      job = idle.0;
      stages = idle.1;
    }

pub returns-in_err-turn-clause-leaves : goal.returns-in_err-turn-clause-leaves
returns-in_err-turn-clause-leaves g c = leaves_then _ (chart (g.B.Board.state c.loop-turn.board)) _ _ c.loop-turn.parts _ c.loop-turn.invariant.leaves c.turn.ensures.leaves

pub returns-then-not-branch-clause-leaves : goal.returns-then-not-branch-clause-leaves
returns-then-not-branch-clause-leaves g c = leaves_then _ (chart (g.B.Board.state c.loop-turn.board)) _ _ c.loop-turn.parts _ c.loop-turn.invariant.leaves c.turn.ensures.leaves

pub turn-requires : goal.turn-requires
turn-requires g c = record { ready = c.loop-turn.invariant.ready }

pub returns-in_err-turn-clause-parts : goal.returns-in_err-turn-clause-parts
returns-in_err-turn-clause-parts g c =
    let y = c.turn.new.parts in
    c.turn.ensures.parts ∙ ap (λ (z : Parts). record z { space = y.space; cache = y.cache; reloc = y.reloc; stages = y.stages }) c.loop-turn.invariant.parts

pub returns-in_err-turn-clause-finishes : goal.returns-in_err-turn-clause-finishes
returns-in_err-turn-clause-finishes g c = err-if c.from_residual.result _ c.in_err-turn.field-0.0 c.from_residual.ensures.1

pub returns-in_err-turn-clause-power : goal.returns-in_err-turn-clause-power
returns-in_err-turn-clause-power g c = err-after Bool c.from_residual.result (g.B.Board.state c.turn.new.board).on c.in_err-turn.field-0.0 c.in_err-turn.ensures.power c.from_residual.ensures.1

pub returns-in_err-turn-clause-bad : goal.returns-in_err-turn-clause-bad
returns-in_err-turn-clause-bad g c is =
    counts_bad_then (Counted.bads (Stays.counted (Same.stays (Spends.same (Going.work c.loop-turn.invariant.going))))) (Counted.bads (Stays.counted (Same.stays c.in_err-turn.ensures.turns)))
    (c.in_err-turn.ensures.bad (ap (λ (e : Trouble). Err e) (err-bad c.from_residual.result c.in_err-turn.field-0.0 c.from_residual.ensures.1 is)))

pub returns-then-not-branch-clause-parts : goal.returns-then-not-branch-clause-parts
returns-then-not-branch-clause-parts g c =
    let y = c.turn.new.parts in
    c.turn.ensures.parts ∙ ap (λ (z : Parts). record z { space = y.space; cache = y.cache; reloc = y.reloc; stages = y.stages }) c.loop-turn.invariant.parts

pub returns-then-not-branch-clause-stops : goal.returns-then-not-branch-clause-stops
returns-then-not-branch-clause-stops g c is = ok-bad tt is

pub returns-then-not-branch-clause-power : goal.returns-then-not-branch-clause-power
returns-then-not-branch-clause-power g c = c.in_ok-turn.ensures.power

pub returns-then-not-branch-clause-bad : goal.returns-then-not-branch-clause-bad
returns-then-not-branch-clause-bad g c is = ok-bad tt is

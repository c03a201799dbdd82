use Rattle.std.proofs.Common.{ap, refl, sym, subst, arith}
use Rattle.envy_array.specs.Array.{zeros}
use Rattle.envy_io.specs.Taking.{Taking}
use Rattle.envy_soundness.specs.Sound.{IsSound}
use Rattle.envy_map.specs.Fields.{chart}
use Rattle.envy_memory.specs.Formats.{IsFresh}
use Rattle.envy_memory.specs.Picture.{Picture}
use Rattle.envy_run.specs.Outcome.{outcome_of}
use Rattle.envy_run.specs.Prepares.{IsReady}
use Rattle.envy_run.proofs.Checked.{shape-of-checked}
use Rattle.envy_run.proofs.Preparing.{no-second}
use Rattle.envy_run.proofs.IndexTold.{Back, index-began, index-ended, index-none, index-quiet}
use Rattle.envy_run.proofs.index_run.run_index.Goals as goal

pub returns-in-Err-clause-runs : goal.returns-in-Err-clause-runs
returns-in-Err-clause-runs g c =
    index-quiet c.args.setup c.args.lives (outcome_of g.M.Made.Board.state c.in-Err.finished) (g.S.Source.feed c.args.source.now) (g.K.Sink.drain c.args.sink.now) c.ranges.lives.fits c.in-Err.ensures

pub new-requires : goal.new-requires
new-requires g c =
    let p = c.in-Ok.memory in
    (zeros p.chart.shape.pages p.chart.shape.shadows, IsFresh.stands (IsReady.fresh c.in-Ok.ensures.ready), refl)

pub serve-served-requires-clause-begun : goal.serve-served-requires-clause-begun
serve-served-requires-clause-begun g c =
    let b = c.in-Ok.ensures in
    let ready = subst (λ (p : Picture). IsReady (chart b.made) c.args.setup p) (sym c.new.ensures.same) b.ready in
    (_, index-none c.args.setup c.args.lives b.made c.new.result.memory c.new.result.begun (shape-of-checked c.args.setup c.requires.rules) c.requires.room c.requires.size c.requires.few b.new ready c.new.ensures.shut)

pub returns-clause-runs : goal.returns-clause-runs
returns-clause-runs g c =
    let b = c.in-Ok.ensures in
    let sizes = shape-of-checked c.args.setup c.requires.rules in
    let ready = subst (λ (p : Picture). IsReady (chart b.made) c.args.setup p) (sym c.new.ensures.same) b.ready in
    let first = c.new.result.memory in
    let w = c.serve-served.new.service.words in
    let now = c.into_memory.result.chart in
    let back : Back w.memory w.begun now = record {
      same = ap (λ (p : Picture). p.chart) c.into_memory.ensures.same;
      sound = subst IsSound c.into_board.ensures.same c.into_board.ensures.sound;
      magic = c.into_memory.ensures.magic;
      version = c.into_memory.ensures.version;
      stands = c.into_memory.ensures.stands;
    } in
    index-ended g.M.Made.Board.state c.args.setup c.args.lives first.chart w.memory w.begun now c.serve-served.result.end c.serve-served.result.lines c.serve-served.result.taken c.new-3.result.taken c.into_board.result c.finished_with.result (record { from = g.S.Source.feed c.args.source.now; feed = g.S.Source.feed c.serve-served.new.source; to = g.K.Sink.drain c.args.sink.now; sink = g.K.Sink.drain c.serve-served.new.sink }) c.finished_with.ensures c.into_board.ensures.same (ap (λ (t : Taking). t.taken) c.new-3.ensures) (let few = c.serve-served.ensures.few in let read = c.serve-served.ensures.read in omega arith) back (index-began c.args.setup c.args.lives b.made first.chart c.ranges.lives.fits b.new (IsReady.prepared ready)) (c.serve-served.ensures.serves first.chart (index-none c.args.setup c.args.lives b.made first c.new.result.begun sizes c.requires.room c.requires.size c.requires.few b.new ready c.new.ensures.shut))

pub returns-in-Err-clause-few : goal.returns-in-Err-clause-few
returns-in-Err-clause-few g c = let lines = c.in-Err.ensures.lines in let taken = c.in-Err.ensures.taken in omega arith

pub returns-in-Err-clause-read : goal.returns-in-Err-clause-read
returns-in-Err-clause-read g c = let taken = c.in-Err.ensures.taken in omega arith

pub returns-in-Err-clause-second : goal.returns-in-Err-clause-second
returns-in-Err-clause-second g c = no-second (λ board. chart (g.M.Made.Board.state board)) c.in-Err.finished.second c.in-Err.ensures.second

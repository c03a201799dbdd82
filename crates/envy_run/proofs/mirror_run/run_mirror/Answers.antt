use Rattle.std.proofs.Common.{inl, inr, ap, subst, sym, refl, ◌∙◌, arith}
use Rattle.std.specs.Prelude.{None, Some}
use Rattle.envy_base.specs.Shape.{IsShape}
use Rattle.envy_base.specs.State.{IsMade}
use Rattle.envy_io.specs.Taking.{Taking}
use Rattle.envy_map.specs.Fields.{chart}
use Rattle.envy_mirror.specs.Pair.{Pair}
use Rattle.envy_run.proofs.Checked.{shape-of-checked}
use Rattle.envy_run.specs.Prepares.{ending_of_unready}
use Rattle.envy_run.specs.declared.endings.Ending.TheVariants.{OutOfMemory}
use Rattle.envy_run.specs.declared.preparation.Unready.TheVariants.{Memory}
use Rattle.envy_run.proofs.Mirrored.{as-made, at-start, blank-made, blank-prepared, blank-board, Stopped, stopped-by, lit-board, not-stopped, mirror-unmade, mirror-unready, are-ready, start_of, begins-as, ended-so, mirror-ended}
use Rattle.envy_run.proofs.Preparing.{few-none, read-none}
use Rattle.envy_run.proofs.mirror_run.run_mirror.Goals as goal

pub serve-served-requires-clause-reader : goal.serve-served-requires-clause-reader
serve-served-requires-clause-reader g c = at-start c.new-2.result (g.S.Source.feed c.args.source.now) c.new-2.ensures

pub make-requires : goal.make-requires
make-requires g c = shape-of-checked c.args.setup c.requires

pub returns-in_default-clause-runs : goal.returns-in_default-clause-runs
returns-in_default-clause-runs g c =
    mirror-unmade g.M.Made.Board.state c.args.setup c.args.lives None c.unserved.result (g.S.Source.feed c.args.source.now) (g.K.Sink.drain c.args.sink.now) c.unserved.ensures tt

pub returns-in_default-make-clause-runs : goal.returns-in_default-make-clause-runs
returns-in_default-make-clause-runs g c =
    mirror-unmade g.M.Made.Board.state c.args.setup c.args.lives (Some c.in-Ok.one) c.unserved-in_default-make.result (g.S.Source.feed c.args.source.now) (g.K.Sink.drain c.args.sink.now) c.unserved-in_default-make.ensures (as-made c.args.setup c.args.lives (g.M.Made.Board.state c.in-Ok.one) c.in-Ok.ensures)

pub returns-in-Err-clause-runs : goal.returns-in-Err-clause-runs
returns-in-Err-clause-runs g c =
    let old = chart (g.M.Made.Board.state c.in-Ok.one) in
    let now = chart (g.M.Made.Board.state c.in-Err.one) in
    let stopped = stopped-by c.in-Err.unready old now (subst IsShape (sym (IsMade.shape c.in-Ok.ensures)) (shape-of-checked c.args.setup c.requires)) (IsMade.bads c.in-Ok.ensures) c.in-Err.ensures in
    mirror-unready g.M.Made.Board.state c.args.setup c.args.lives c.in-Err.unready c.in-Err.one c.in-Ok-make.two c.unmirrored.result (g.S.Source.feed c.args.source.now) (g.K.Sink.drain c.args.sink.now) c.unmirrored.ensures (inl stopped.1)
    (λ memory. (Stopped.on stopped.1 memory, IsMade.on c.in-Ok-make.ensures))
    (blank-prepared c.args.setup c.args.lives old now stopped.0 (blank-made c.args.setup c.args.lives (g.M.Made.Board.state c.in-Ok.one) c.in-Ok.ensures))
    (blank-made c.args.setup c.args.lives (g.M.Made.Board.state c.in-Ok-make.two) c.in-Ok-make.ensures)

pub returns-in-Err-prepare-clause-runs : goal.returns-in-Err-prepare-clause-runs
returns-in-Err-prepare-clause-runs g c =
    let old = chart (g.M.Made.Board.state c.in-Ok-make.two) in
    let now = chart (g.M.Made.Board.state c.in-Err-prepare.two) in
    let stopped = stopped-by c.in-Err-prepare.unready old now (subst IsShape (sym (IsMade.shape c.in-Ok-make.ensures)) (shape-of-checked c.args.setup c.requires)) (IsMade.bads c.in-Ok-make.ensures) c.in-Err-prepare.ensures in
    mirror-unready g.M.Made.Board.state c.args.setup c.args.lives c.in-Err-prepare.unready c.into_board.result c.in-Err-prepare.two c.unmirrored-in-Err-prepare.result (g.S.Source.feed c.args.source.now) (g.K.Sink.drain c.args.sink.now) c.unmirrored-in-Err-prepare.ensures (inr stopped.1)
    (λ memory. (lit-board (chart (g.M.Made.Board.state c.in-Ok.one)) c.args.setup c.in-Ok-prepare.memory (chart (g.M.Made.Board.state c.into_board.result)) c.in-Ok-prepare.ensures c.into_board.ensures.same, Stopped.on stopped.1 memory))
    (blank-board c.args.setup c.args.lives (g.M.Made.Board.state c.in-Ok.one) c.in-Ok-prepare.memory (chart (g.M.Made.Board.state c.into_board.result)) c.in-Ok.ensures c.in-Ok-prepare.ensures c.into_board.ensures.same)
    (blank-prepared c.args.setup c.args.lives old now stopped.0 (blank-made c.args.setup c.args.lives (g.M.Made.Board.state c.in-Ok-make.two) c.in-Ok-make.ensures))

pub returns-in-Err-new-clause-runs : goal.returns-in-Err-new-clause-runs
returns-in-Err-new-clause-runs g c =
    let one = c.into_board-in-Err-new.result in
    let two = c.into_board-in-Err-new-2.result in
    let first = chart (g.M.Made.Board.state one) in
    let second = chart (g.M.Made.Board.state two) in
    let first_on = lit-board (chart (g.M.Made.Board.state c.in-Ok.one)) c.args.setup c.in-Ok-prepare.memory first c.in-Ok-prepare.ensures (c.into_board-in-Err-new.ensures.same ∙ ap (λ p. p.chart) c.in-Err-new.ensures.pair.0) in
    let second_on = lit-board (chart (g.M.Made.Board.state c.in-Ok-make.two)) c.args.setup c.in-Ok-prepare-2.memory second c.in-Ok-prepare-2.ensures (c.into_board-in-Err-new-2.ensures.same ∙ ap (λ p. p.chart) c.in-Err-new.ensures.pair.1) in
    mirror-unready g.M.Made.Board.state c.args.setup c.args.lives Memory one two c.unmirrored-in-Err-new.result (g.S.Source.feed c.args.source.now) (g.K.Sink.drain c.args.sink.now) c.unmirrored-in-Err-new.ensures (inl (not-stopped first first_on)) (λ memory. (first_on, second_on))
    (blank-board c.args.setup c.args.lives (g.M.Made.Board.state c.in-Ok.one) c.in-Ok-prepare.memory first c.in-Ok.ensures c.in-Ok-prepare.ensures (c.into_board-in-Err-new.ensures.same ∙ ap (λ p. p.chart) c.in-Err-new.ensures.pair.0))
    (blank-board c.args.setup c.args.lives (g.M.Made.Board.state c.in-Ok-make.two) c.in-Ok-prepare-2.memory second c.in-Ok-make.ensures c.in-Ok-prepare-2.ensures (c.into_board-in-Err-new-2.ensures.same ∙ ap (λ p. p.chart) c.in-Err-new.ensures.pair.1))

pub serve-served-requires-clause-begun : goal.serve-served-requires-clause-begun
serve-served-requires-clause-begun g c =
    (start_of c.in-Ok-prepare.memory c.in-Ok-prepare-2.memory, begins-as c.in-Ok-prepare.memory c.in-Ok-prepare-2.memory c.new-pairing.result.mirror c.new-pairing.result.side (c.new-pairing.ensures.mirror ∙ c.in-Ok-new.ensures.pair) c.new-pairing.ensures.side (rw c.new-pairing.ensures.mirror c.in-Ok-new.ensures.mirrors))

pub returns-clause-runs : goal.returns-clause-runs
returns-clause-runs g c =
    let a = c.in-Ok-prepare.memory in
    let b = c.in-Ok-prepare-2.memory in
    let first = begins-as a b c.new-pairing.result.mirror c.new-pairing.result.side (c.new-pairing.ensures.mirror ∙ c.in-Ok-new.ensures.pair) c.new-pairing.ensures.side (rw c.new-pairing.ensures.mirror c.in-Ok-new.ensures.mirrors) in
    mirror-ended g.M.Made.Board.state c.args.setup c.args.lives a b c.new-pairing.result.mirror c.serve-served.new.service.mirror c.new-pairing.result.side c.serve-served.new.service.side c.serve-served.result.end c.serve-served.result.lines c.serve-served.result.taken c.new-2.result.taken c.into_boards-one.result.0 c.into_boards-one.result.1 _ (record { from = g.S.Source.feed c.args.source.now; feed = g.S.Source.feed c.serve-served.new.source; to = g.K.Sink.drain c.args.sink.now; sink = g.K.Sink.drain c.serve-served.new.sink })
    (ended-so c.after.result c.serve-served.result.end c.serve-served.result.lines c.serve-served.result.taken c.into_boards-one.result.0 c.into_boards-one.result.1 _ refl c.after.ensures)
    (c.into_boards-one.ensures.first ∙ ap (λ (p : Pair). p.first.memory.chart) c.into_mirror.ensures)
    (c.into_boards-one.ensures.second ∙ ap (λ (p : Pair). p.second.memory.chart) c.into_mirror.ensures)
    (ap (λ (t : Taking). t.taken) c.new-2.ensures)
    (let few = c.serve-served.ensures.few in let read = c.serve-served.ensures.read in omega arith)
    (are-ready (g.M.Made.Board.state c.in-Ok.one) (g.M.Made.Board.state c.in-Ok-make.two) c.args.setup c.args.lives a b c.in-Ok.ensures c.in-Ok-make.ensures c.in-Ok-prepare.ensures c.in-Ok-prepare-2.ensures)
    first c.serve-served.ensures.serves

pub returns-in_default-clause-few : goal.returns-in_default-clause-few
returns-in_default-clause-few g c = few-none OutOfMemory None None c.unserved.result c.unserved.ensures

pub returns-in_default-clause-read : goal.returns-in_default-clause-read
returns-in_default-clause-read g c = read-none OutOfMemory None None c.unserved.result c.unserved.ensures

pub returns-in_default-make-clause-few : goal.returns-in_default-make-clause-few
returns-in_default-make-clause-few g c = few-none OutOfMemory (Some c.in-Ok.one) None c.unserved-in_default-make.result c.unserved-in_default-make.ensures

pub returns-in_default-make-clause-read : goal.returns-in_default-make-clause-read
returns-in_default-make-clause-read g c = read-none OutOfMemory (Some c.in-Ok.one) None c.unserved-in_default-make.result c.unserved-in_default-make.ensures

pub returns-in-Err-clause-few : goal.returns-in-Err-clause-few
returns-in-Err-clause-few g c = few-none (ending_of_unready c.in-Err.unready) (Some c.in-Err.one) (Some c.in-Ok-make.two) c.unmirrored.result c.unmirrored.ensures

pub returns-in-Err-clause-read : goal.returns-in-Err-clause-read
returns-in-Err-clause-read g c = read-none (ending_of_unready c.in-Err.unready) (Some c.in-Err.one) (Some c.in-Ok-make.two) c.unmirrored.result c.unmirrored.ensures

pub returns-in-Err-prepare-clause-few : goal.returns-in-Err-prepare-clause-few
returns-in-Err-prepare-clause-few g c = few-none (ending_of_unready c.in-Err-prepare.unready) (Some c.into_board.result) (Some c.in-Err-prepare.two) c.unmirrored-in-Err-prepare.result c.unmirrored-in-Err-prepare.ensures

pub returns-in-Err-prepare-clause-read : goal.returns-in-Err-prepare-clause-read
returns-in-Err-prepare-clause-read g c = read-none (ending_of_unready c.in-Err-prepare.unready) (Some c.into_board.result) (Some c.in-Err-prepare.two) c.unmirrored-in-Err-prepare.result c.unmirrored-in-Err-prepare.ensures

pub returns-in-Err-new-clause-few : goal.returns-in-Err-new-clause-few
returns-in-Err-new-clause-few g c = few-none OutOfMemory (Some c.into_board-in-Err-new.result) (Some c.into_board-in-Err-new-2.result) c.unmirrored-in-Err-new.result c.unmirrored-in-Err-new.ensures

pub returns-in-Err-new-clause-read : goal.returns-in-Err-new-clause-read
returns-in-Err-new-clause-read g c = read-none OutOfMemory (Some c.into_board-in-Err-new.result) (Some c.into_board-in-Err-new-2.result) c.unmirrored-in-Err-new.result c.unmirrored-in-Err-new.ensures

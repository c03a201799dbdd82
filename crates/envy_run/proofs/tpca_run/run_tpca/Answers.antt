use Rattle.std.proofs.Common.{inr, ap, sym, subst, ◌∙◌, arith}
use Rattle.envy_array.specs.Area.{Fits}
use Rattle.envy_base.specs.State.{IsMade}
use Rattle.envy_base.specs.Shape.{IsShape}
use Rattle.envy_base.specs.declared.shape.Shape.{Shape}
use Rattle.envy_memory.specs.Formats.{IsFresh}
use Rattle.envy_map.specs.Fields.{chart}
use Rattle.envy_run.specs.Outcome.{outcome_of}
use Rattle.envy_run.specs.Prepares.{IsPrepared, IsReady}
use Rattle.envy_run.proofs.Checked.{shape-of-checked}
use Rattle.envy_run.proofs.Preparing.{no-second}
use Rattle.envy_run.proofs.Driving.{drives-ended, drives-quiet, ends-unserved, tells-ended}
use Rattle.envy_run.proofs.tpca_run.run_tpca.Goals as goal

pub returns-in-Err-clause-drives : goal.returns-in-Err-clause-drives
returns-in-Err-clause-drives g c = λ feed.
    drives-quiet c.args.setup c.args.lives c.args.start c.args.area.now c.args.every (outcome_of g.M.Made.Board.state c.in-Err.finished) feed (g.K.Sink.drain c.args.sink.now) c.in-Err.ensures

pub returns-in-Err-clause-told : goal.returns-in-Err-clause-told
returns-in-Err-clause-told g c = λ kind feed.
    inr (ends-unserved c.args.setup c.args.lives (outcome_of g.M.Made.Board.state c.in-Err.finished) feed (g.K.Sink.drain c.args.sink.now) c.in-Err.ensures)

pub drive_load-ending-requires-clause-fits : goal.drive_load-ending-requires-clause-fits
drive_load-ending-requires-clause-fits g c =
    let b = c.in-Ok.ensures in
    let shape = IsPrepared.shape (IsReady.prepared b.ready) ∙ IsMade.shape b.new in
    subst (λ (sh : Shape). Fits c.args.area.now sh.pages) (sym shape) c.requires.fits

pub drive_load-ending-requires-clause-low : goal.drive_load-ending-requires-clause-low
drive_load-ending-requires-clause-low g c =
    let b = c.in-Ok.ensures in
    let shape = IsPrepared.shape (IsReady.prepared b.ready) ∙ IsMade.shape b.new in
    let low = IsShape.few_pages (shape-of-checked c.args.setup c.requires.rules) in
    let same = ap (λ (sh : Shape). sh.pages) shape in
    omega arith

pub drive_load-ending-requires-clause-room : goal.drive_load-ending-requires-clause-room
drive_load-ending-requires-clause-room g c =
    let b = c.in-Ok.ensures in
    let shape = IsPrepared.shape (IsReady.prepared b.ready) ∙ IsMade.shape b.new in
    let same = ap (λ (sh : Shape). sh.shadows) shape in
    let room = c.requires.room in
    omega arith

pub drive_load-ending-requires-clause-zeros : goal.drive_load-ending-requires-clause-zeros
drive_load-ending-requires-clause-zeros g c = IsFresh.stands (IsReady.fresh c.in-Ok.ensures.ready)

pub returns-clause-drives : goal.returns-clause-drives
returns-clause-drives g c = λ feed.
    let low = IsShape.few_pages (shape-of-checked c.args.setup c.requires.rules) in
    let room = Fits.room c.requires.fits in
    drives-ended g.M.Made.Board.state c.args.setup c.args.lives c.args.start c.args.area.now c.args.every c.in-Ok.memory c.drive_load-ending.new.memory c.drive_load-ending.result c.into_board.result c.unserved.result feed (g.K.Sink.drain c.args.sink.now) (g.K.Sink.drain c.drive_load-ending.new.sink) c.unserved.ensures c.into_board.ensures.same c.into_board.ensures.sound (omega arith) c.in-Ok.ensures c.drive_load-ending.ensures

pub returns-clause-told : goal.returns-clause-told
returns-clause-told g c = λ kind feed.
    tells-ended g.M.Made.Board.state c.args.setup c.args.lives c.args.start c.args.area.now c.args.every c.in-Ok.memory c.drive_load-ending.new.memory c.drive_load-ending.result c.into_board.result c.board.result.now c.unserved.result feed (g.K.Sink.drain c.args.sink.now) (g.K.Sink.drain c.drive_load-ending.new.sink) c.unserved.ensures c.into_board.ensures.same c.in-Ok.ensures kind c.board.ensures.same c.drive_load-ending.ensures

pub returns-in-Err-clause-few : goal.returns-in-Err-clause-few
returns-in-Err-clause-few g c = let lines = c.in-Err.ensures.lines in let taken = c.in-Err.ensures.taken in omega arith

pub returns-in-Err-clause-read : goal.returns-in-Err-clause-read
returns-in-Err-clause-read g c = let taken = c.in-Err.ensures.taken in omega arith

pub returns-in-Err-clause-second : goal.returns-in-Err-clause-second
returns-in-Err-clause-second g c = no-second (λ board. chart (g.M.Made.Board.state board)) c.in-Err.finished.second c.in-Err.ensures.second

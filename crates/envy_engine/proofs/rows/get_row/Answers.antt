use Rattle.std.proofs.Common.{◌+◌, ◌*◌, arith}
use Rattle.envy_map.specs.Fields.{chart}
use Rattle.envy_soundness.proofs.Composition.{Same-more}
use Rattle.envy_reloc.proofs.Exits.{unpowered}
use Rattle.envy_engine.proofs.rows.get_row.Goals as goal

pub is_busy-requires : goal.is_busy-requires
is_busy-requires g c = record { ready = c.requires.ready }

pub returns-in_err-is_busy : goal.returns-in_err-is_busy
returns-in_err-is_busy g c = unpowered (g.B.Board.state c.args.board.now).on c.in_err-is_busy.ensures.power c.requires.ready.on

pub busy_row-requires-clause-ready : goal.busy_row-requires-clause-ready
busy_row-requires-clause-ready g c = c.requires.ready

pub busy_row-requires-clause-page : goal.busy_row-requires-clause-page
busy_row-requires-clause-page g c = c.requires.page

pub busy_row-requires-clause-busy : goal.busy_row-requires-clause-busy
busy_row-requires-clause-busy g c = c.in_ok-is_busy.ensures.busy c.if-branch.true

pub busy_row-requires-clause-home : goal.busy_row-requires-clause-home
busy_row-requires-clause-home g c = c.requires.home

pub returns-then-branch-clause-same : goal.returns-then-branch-clause-same
returns-then-branch-clause-same g c = c.busy_row.ensures.same

pub returns-then-branch-clause-leaves : goal.returns-then-branch-clause-leaves
returns-then-branch-clause-leaves g c = c.busy_row.ensures.leaves

pub returns-then-branch-clause-keeps : goal.returns-then-branch-clause-keeps
returns-then-branch-clause-keeps g c = c.busy_row.ensures.keeps

pub returns-then-branch-clause-gets : goal.returns-then-branch-clause-gets
returns-then-branch-clause-gets g c = c.busy_row.ensures.gets

pub returns-then-branch-clause-stops : goal.returns-then-branch-clause-stops
returns-then-branch-clause-stops g c = c.busy_row.ensures.stops

pub returns-then-branch-clause-power : goal.returns-then-branch-clause-power
returns-then-branch-clause-power g c = c.busy_row.ensures.power

pub idle_row-requires-clause-ready : goal.idle_row-requires-clause-ready
idle_row-requires-clause-ready g c = c.requires.ready

pub idle_row-requires-clause-rest : goal.idle_row-requires-clause-rest
idle_row-requires-clause-rest g c = c.in_ok-is_busy.ensures.rest c.if-branch.false

pub idle_row-requires-clause-page : goal.idle_row-requires-clause-page
idle_row-requires-clause-page g c = c.requires.page

pub idle_row-requires-clause-home : goal.idle_row-requires-clause-home
idle_row-requires-clause-home g c = c.requires.home

pub returns-else-branch-clause-same : goal.returns-else-branch-clause-same
returns-else-branch-clause-same g c = let p = (g.B.Board.state c.args.board.now).shape.rows in Same-more (p + 5) 2 (4 * p + 12) 6 (chart (g.B.Board.state c.args.board.now)) (chart (g.B.Board.state c.idle_row.new.board)) (omega arith) (omega arith) c.idle_row.ensures.same

pub returns-else-branch-clause-leaves : goal.returns-else-branch-clause-leaves
returns-else-branch-clause-leaves g c = c.idle_row.ensures.leaves

pub returns-else-branch-clause-keeps : goal.returns-else-branch-clause-keeps
returns-else-branch-clause-keeps g c = c.idle_row.ensures.keeps

pub returns-else-branch-clause-gets : goal.returns-else-branch-clause-gets
returns-else-branch-clause-gets g c = c.idle_row.ensures.gets

pub returns-else-branch-clause-stops : goal.returns-else-branch-clause-stops
returns-else-branch-clause-stops g c = c.idle_row.ensures.stops

pub returns-else-branch-clause-power : goal.returns-else-branch-clause-power
returns-else-branch-clause-power g c = c.idle_row.ensures.power

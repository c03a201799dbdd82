use Rattle.std.proofs.Common.{ℕ, Option, sym, subst}
use Rattle.envy_map.specs.Fields.{chart}
use Rattle.envy_engine.specs.Cleaning.{AreMoves}
use Rattle.envy_reloc.proofs.Exits.{unpowered}
use Rattle.envy_engine.proofs.cleaner.planned.Goals as goal

pub kept_rows-requires-clause-ready : goal.kept_rows-requires-clause-ready
kept_rows-requires-clause-ready g c = c.requires.ready

pub kept_rows-requires-clause-position : goal.kept_rows-requires-clause-position
kept_rows-requires-clause-position g c = c.requires.position

pub returns-in_err-moves-in-Some : goal.returns-in_err-moves-in-Some
returns-in_err-moves-in-Some g c = unpowered (g.B.Board.state c.args.board.now).on c.in_err-moves-in-Some.ensures.off c.requires.ready.on

pub returns-in-None-clause-off : goal.returns-in-None-clause-off
returns-in-None-clause-off g c = tt

pub returns-in_ok-moves-in-Some-clause-rows : goal.returns-in_ok-moves-in-Some-clause-rows
returns-in_ok-moves-in-Some-clause-rows g c = c.in_ok-moves-in-Some.ensures.rows

pub returns-in_ok-moves-in-Some-clause-moves : goal.returns-in_ok-moves-in-Some-clause-moves
returns-in_ok-moves-in-Some-clause-moves g c =
    let now = (chart (g.B.Board.state c.args.board.now)) in
    subst (λ (o : Option ℕ). AreMoves now.shape now.fields c.args.position o c.in_ok-moves-in-Some.moves.items) (sym c.in-Some.is) c.in_ok-moves-in-Some.ensures.lowest

pub returns-in_ok-moves-in-Some-clause-off : goal.returns-in_ok-moves-in-Some-clause-off
returns-in_ok-moves-in-Some-clause-off g c = tt

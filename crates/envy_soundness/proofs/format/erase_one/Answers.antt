use Rattle.std.proofs.Common.{◌<◌, length, arith}
use Rattle.envy_base.specs.State.{IsBoard}
use Rattle.envy_soundness.proofs.Clearing.{erase-stops, erase-spoils}
use Rattle.envy_soundness.proofs.format.erase_one.Goals as goal

pub returns-else-may_fail-clause-spoilt : goal.returns-else-may_fail-clause-spoilt
returns-else-may_fail-clause-spoilt g c is =
    let long = IsBoard.erases (g.met.B.Board.lawful c.args.board.now) in
    let inside = c.requires.segment in
    let room : c.args.segment < length (g.B.Board.state c.args.board.now).erases = omega arith in
    (c.if-may_fail.false, erase-spoils (g.B.Board.state c.args.board.now) (g.B.Board.state c.erase.new.self) c.args.segment c.in-Err-Bad.field-0 room c.in-Err-Bad.ensures c.in-Err-Bad.field-0-is)

pub returns-in-Err-Off-clause-stopped : goal.returns-in-Err-Off-clause-stopped
returns-in-Err-Off-clause-stopped g c is =
    let long = IsBoard.erases (g.met.B.Board.lawful c.args.board.now) in
    let inside = c.requires.segment in
    let room : c.args.segment < length (g.B.Board.state c.args.board.now).erases = omega arith in
    erase-stops (g.B.Board.state c.args.board.now) (g.B.Board.state c.erase.new.self) c.args.segment c.in-Err-Off.field-0 c.requires.on room c.in-Err-Off.ensures c.in-Err-Off.field-0-is

use Rattle.std.proofs.Common.{refl}
use Rattle.envy_map.specs.Fields.{chart}
use Rattle.envy_audit.specs.declared.verdict.Rule.TheVariants.{A, B, C, D, E}
use Rattle.envy_audit.proofs.Order.{before-first, before_next, fails}
use Rattle.envy_audit.proofs.audit.Audit.first_broken.Goals as goal

pub returns-then-not-fields-clause-finds : goal.returns-then-not-fields-clause-finds
returns-then-not-fields-clause-finds g c =
    let bA = before-first (chart (g.B.Board.state c.args.board.now)) in
    fails A (chart (g.B.Board.state c.args.board.now)) c.in_ok-fields.fields bA c.in_ok-fields.ensures c.if-not-fields.true

pub returns-then-not-positions-clause-finds : goal.returns-then-not-positions-clause-finds
returns-then-not-positions-clause-finds g c =
    let bA = before-first (chart (g.B.Board.state c.args.board.now)) in
    let bB = before_next A B (chart (g.B.Board.state c.args.board.now)) refl bA (c.in_ok-fields.ensures.0 c.if-not-fields.false) in
    fails B (chart (g.B.Board.state c.args.board.now)) c.in_ok-positions.positions bB c.in_ok-positions.ensures.tells c.if-not-positions.true

pub returns-then-not-frames-clause-finds : goal.returns-then-not-frames-clause-finds
returns-then-not-frames-clause-finds g c =
    let bA = before-first (chart (g.B.Board.state c.args.board.now)) in
    let bB = before_next A B (chart (g.B.Board.state c.args.board.now)) refl bA (c.in_ok-fields.ensures.0 c.if-not-fields.false) in
    let bC = before_next B C (chart (g.B.Board.state c.args.board.now)) refl bB (c.in_ok-positions.ensures.tells.0 c.if-not-positions.false) in
    fails C (chart (g.B.Board.state c.args.board.now)) c.in_ok-frames.frames bC c.in_ok-frames.ensures c.if-not-frames.true

pub returns-then-not-rows-clause-finds : goal.returns-then-not-rows-clause-finds
returns-then-not-rows-clause-finds g c =
    let bA = before-first (chart (g.B.Board.state c.args.board.now)) in
    let bB = before_next A B (chart (g.B.Board.state c.args.board.now)) refl bA (c.in_ok-fields.ensures.0 c.if-not-fields.false) in
    let bC = before_next B C (chart (g.B.Board.state c.args.board.now)) refl bB (c.in_ok-positions.ensures.tells.0 c.if-not-positions.false) in
    let bD = before_next C D (chart (g.B.Board.state c.args.board.now)) refl bC (c.in_ok-frames.ensures.0 c.if-not-frames.false) in
    fails D (chart (g.B.Board.state c.args.board.now)) c.in_ok-rows.rows bD c.in_ok-rows.ensures.tells c.if-not-rows.true

pub first_of_kept-requires-clause-before : goal.first_of_kept-requires-clause-before
first_of_kept-requires-clause-before g c =
    let bA = before-first (chart (g.B.Board.state c.args.board.now)) in
    let bB = before_next A B (chart (g.B.Board.state c.args.board.now)) refl bA (c.in_ok-fields.ensures.0 c.if-not-fields.false) in
    let bC = before_next B C (chart (g.B.Board.state c.args.board.now)) refl bB (c.in_ok-positions.ensures.tells.0 c.if-not-positions.false) in
    let bD = before_next C D (chart (g.B.Board.state c.args.board.now)) refl bC (c.in_ok-frames.ensures.0 c.if-not-frames.false) in
    let bE = before_next D E (chart (g.B.Board.state c.args.board.now)) refl bD (c.in_ok-rows.ensures.tells.0 c.if-not-rows.false) in
    bE

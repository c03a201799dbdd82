use Rattle.std.proofs.Common.{refl}
use Rattle.envy_map.specs.Fields.{chart}
use Rattle.envy_audit.specs.declared.verdict.Rule.TheVariants.{E, F, G, H, I}
use Rattle.envy_audit.proofs.Order.{before_next, fails}
use Rattle.envy_audit.proofs.sequence.first_of_kept.Goals as goal

pub returns-then-not-claimed : goal.returns-then-not-claimed
returns-then-not-claimed g c =
    let bE = c.requires.before in
    fails E (chart (g.B.Board.state c.args.board.now)) c.in_ok-claimed.claimed bE c.in_ok-claimed.ensures c.if-not-claimed.true

pub returns-then-not-ones : goal.returns-then-not-ones
returns-then-not-ones g c =
    let bE = c.requires.before in
    let bF = before_next E F (chart (g.B.Board.state c.args.board.now)) refl bE (c.in_ok-claimed.ensures.0 c.if-not-claimed.false) in
    fails F (chart (g.B.Board.state c.args.board.now)) c.in_ok-ones.ones bF c.in_ok-ones.ensures c.if-not-ones.true

pub returns-then-not-empty : goal.returns-then-not-empty
returns-then-not-empty g c =
    let bE = c.requires.before in
    let bF = before_next E F (chart (g.B.Board.state c.args.board.now)) refl bE (c.in_ok-claimed.ensures.0 c.if-not-claimed.false) in
    let bG = before_next F G (chart (g.B.Board.state c.args.board.now)) refl bF (c.in_ok-ones.ensures.0 c.if-not-ones.false) in
    fails G (chart (g.B.Board.state c.args.board.now)) c.in_ok-empty.empty bG c.in_ok-empty.ensures c.if-not-empty.true

pub returns-then-not-in_place : goal.returns-then-not-in_place
returns-then-not-in_place g c =
    let bE = c.requires.before in
    let bF = before_next E F (chart (g.B.Board.state c.args.board.now)) refl bE (c.in_ok-claimed.ensures.0 c.if-not-claimed.false) in
    let bG = before_next F G (chart (g.B.Board.state c.args.board.now)) refl bF (c.in_ok-ones.ensures.0 c.if-not-ones.false) in
    let bH = before_next G H (chart (g.B.Board.state c.args.board.now)) refl bG (c.in_ok-empty.ensures.0 c.if-not-empty.false) in
    fails H (chart (g.B.Board.state c.args.board.now)) c.in_ok-in_place.in_place bH c.in_ok-in_place.ensures c.if-not-in_place.true

pub first_of_job-requires-clause-before : goal.first_of_job-requires-clause-before
first_of_job-requires-clause-before g c =
    let bE = c.requires.before in
    let bF = before_next E F (chart (g.B.Board.state c.args.board.now)) refl bE (c.in_ok-claimed.ensures.0 c.if-not-claimed.false) in
    let bG = before_next F G (chart (g.B.Board.state c.args.board.now)) refl bF (c.in_ok-ones.ensures.0 c.if-not-ones.false) in
    let bH = before_next G H (chart (g.B.Board.state c.args.board.now)) refl bG (c.in_ok-empty.ensures.0 c.if-not-empty.false) in
    let bI = before_next H I (chart (g.B.Board.state c.args.board.now)) refl bH (c.in_ok-in_place.ensures.0 c.if-not-in_place.false) in
    bI

use Rattle.std.proofs.Common.{refl, lit≤}
use Rattle.envy_map.specs.Fields.{chart}
use Rattle.envy_audit.specs.declared.verdict.Rule.TheVariants.{B, I, J, K, L, M}
use Rattle.envy_audit.proofs.Order.{before_next, all-hold, fails}
use Rattle.envy_audit.proofs.sequence.first_of_job.Goals as goal

pub returns-then-not-stands : goal.returns-then-not-stands
returns-then-not-stands g c =
    let bI = c.requires.before in
    fails I (chart (g.B.Board.state c.args.board.now)) c.in_ok-stands.stands bI c.in_ok-stands.ensures c.if-not-stands.true

pub returns-then-not-once : goal.returns-then-not-once
returns-then-not-once g c =
    let bI = c.requires.before in
    let bJ = before_next I J (chart (g.B.Board.state c.args.board.now)) refl bI (c.in_ok-stands.ensures.0 c.if-not-stands.false) in
    fails J (chart (g.B.Board.state c.args.board.now)) c.in_ok-once.once bJ c.in_ok-once.ensures c.if-not-once.true

pub returns-then-not-few : goal.returns-then-not-few
returns-then-not-few g c =
    let bI = c.requires.before in
    let bJ = before_next I J (chart (g.B.Board.state c.args.board.now)) refl bI (c.in_ok-stands.ensures.0 c.if-not-stands.false) in
    let bK = before_next J K (chart (g.B.Board.state c.args.board.now)) refl bJ (c.in_ok-once.ensures.0 c.if-not-once.false) in
    fails K (chart (g.B.Board.state c.args.board.now)) c.in_ok-few.few bK c.in_ok-few.ensures c.if-not-few.true

pub returns-then-not-in_use : goal.returns-then-not-in_use
returns-then-not-in_use g c =
    let bI = c.requires.before in
    let bJ = before_next I J (chart (g.B.Board.state c.args.board.now)) refl bI (c.in_ok-stands.ensures.0 c.if-not-stands.false) in
    let bK = before_next J K (chart (g.B.Board.state c.args.board.now)) refl bJ (c.in_ok-once.ensures.0 c.if-not-once.false) in
    let bL = before_next K L (chart (g.B.Board.state c.args.board.now)) refl bK (c.in_ok-few.ensures.0 c.if-not-few.false) in
    fails L (chart (g.B.Board.state c.args.board.now)) c.in_ok-in_use.in_use bL c.in_ok-in_use.ensures c.if-not-in_use.true

pub reserves_are_unkept-unkept-requires-clause-apart : goal.reserves_are_unkept-unkept-requires-clause-apart
reserves_are_unkept-unkept-requires-clause-apart g c = c.requires.before B (lit≤ tt)

pub returns-then-not-unkept : goal.returns-then-not-unkept
returns-then-not-unkept g c =
    let bI = c.requires.before in
    let bJ = before_next I J (chart (g.B.Board.state c.args.board.now)) refl bI (c.in_ok-stands.ensures.0 c.if-not-stands.false) in
    let bK = before_next J K (chart (g.B.Board.state c.args.board.now)) refl bJ (c.in_ok-once.ensures.0 c.if-not-once.false) in
    let bL = before_next K L (chart (g.B.Board.state c.args.board.now)) refl bK (c.in_ok-few.ensures.0 c.if-not-few.false) in
    let bM = before_next L M (chart (g.B.Board.state c.args.board.now)) refl bL (c.in_ok-in_use.ensures.0 c.if-not-in_use.false) in
    fails M (chart (g.B.Board.state c.args.board.now)) c.reserves_are_unkept-unkept.result bM c.reserves_are_unkept-unkept.ensures c.if-not-unkept.true

pub returns : goal.returns
returns g c =
    let bI = c.requires.before in
    let bJ = before_next I J (chart (g.B.Board.state c.args.board.now)) refl bI (c.in_ok-stands.ensures.0 c.if-not-stands.false) in
    let bK = before_next J K (chart (g.B.Board.state c.args.board.now)) refl bJ (c.in_ok-once.ensures.0 c.if-not-once.false) in
    let bL = before_next K L (chart (g.B.Board.state c.args.board.now)) refl bK (c.in_ok-few.ensures.0 c.if-not-few.false) in
    let bM = before_next L M (chart (g.B.Board.state c.args.board.now)) refl bL (c.in_ok-in_use.ensures.0 c.if-not-in_use.false) in
    all-hold (chart (g.B.Board.state c.args.board.now)) bM (c.reserves_are_unkept-unkept.ensures.0 c.if-not-unkept.false)

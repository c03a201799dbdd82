use Rattle.std.proofs.Common.{below_more, arith}
use Rattle.envy_audit.proofs.Naming.{named-row}
use Rattle.envy_audit.proofs.Turning.{not-so, refuted, shown, no-owner, some-owner, in-rows, of-rows}
use Rattle.envy_audit.proofs.kept.kept_are_claimed.Goals as goal

pub loop-row-preserved-then-owner-eq0 : goal.loop-row-preserved-then-owner-eq0
loop-row-preserved-then-owner-eq0 g c =
    below_more _ _ c.loop-row.invariant (λ p told. no-owner _ p c.if-owner-eq0.true told)

pub returns-then-not-claimed : goal.returns-then-not-claimed
returns-then-not-claimed g c =
    let told = some-owner _ c.if-owner-eq0.false in
    refuted (λ all. not-so _ c.in_ok-claimed.ensures c.if-not-claimed.true (all _ c.loop-row.row ((c.requires.notes.notes c.loop-row.row _ (of-rows (g.B.Board.state c.args.board.now).shape c.shape-shape.result c.loop-row.row c.shape-shape.ensures c.loop-row-test.true)).0 told)))

pub loop-row-preserved : goal.loop-row-preserved
loop-row-preserved g c =
    below_more _ _ c.loop-row.invariant (λ p told.
    let claimed = c.in_ok-claimed.ensures.0 c.if-not-claimed.false in
    (claimed.0, omega (arith, claimed.1, told)))

pub returns : goal.returns
returns g c =
    shown (λ p q named.
    let within = named-row (g.B.Board.state c.args.board.now) (g.met.B.Board.lawful c.args.board.now) c.requires.decodes p q named in
    c.loop-row.invariant q (in-rows (g.B.Board.state c.args.board.now).shape c.shape-shape.result q c.loop-row.row c.shape-shape.ensures c.loop-row-test.false within) p ((c.requires.notes.notes q p within).1 named))

use Rattle.std.proofs.Common.{below_more, ◌≡◌, ◌↔◌, ◌⊎◌, ◌<◌, ◌/◌, Bool, true, false, IsTrue, subst, arith}
use Rattle.std.specs.Prelude.{slice_index_or}
use Rattle.envy_base.specs.declared.shape.Shape.{Shape}
use Rattle.envy_map.specs.Fields.{chart}
use Rattle.envy_audit.proofs.Naming.{named-row}
use Rattle.envy_audit.proofs.Turning.{refuted, shown, no-owner, some-owner, in-rows, of-rows, segment-of, home-at, is-home, no-home}
use Rattle.envy_audit.proofs.kept.kept_are_placed.Goals as goal

pub loop-row-preserved-then-owners-row-eq0 : goal.loop-row-preserved-then-owners-row-eq0
loop-row-preserved-then-owners-row-eq0 g c =
    below_more _ _ c.loop-row.invariant (λ p told. no-owner _ p c.if-owners-row-eq0.true told)

pub returns-then-not-home : goal.returns-then-not-home
returns-then-not-home g c =
    let s = g.B.Board.state c.args.board.now in
    let row = of-rows s.shape c.shape-shape.result c.loop-row.row c.shape-shape.ensures c.loop-row-test.true in
    let within = segment-of s.shape c.loop-row.row (omega (arith, (g.met.B.Board.lawful c.args.board.now).shape.rows)) row in
    let named = (c.requires.notes.notes c.loop-row.row _ row).0 (some-owner _ c.if-owners-row-eq0.false) in
    let home = home-at c.args.placed.now s.shape c.shape-shape.result c.loop-row.row _ _ c.shape-shape.ensures c.is_home-home.ensures in
    refuted (λ all. no-home (chart s) c.args.placed.now c.requires.marks _ c.in_ok-switching.ensures _ within _ home c.if-not-home.true (all _ c.loop-row.row named))

pub loop-row-preserved : goal.loop-row-preserved
loop-row-preserved g c = below_more _ _ c.loop-row.invariant (λ p told.
    let s = g.B.Board.state c.args.board.now in
    let row = of-rows s.shape c.shape-shape.result c.loop-row.row c.shape-shape.ensures c.loop-row-test.true in
    let within = segment-of s.shape c.loop-row.row (omega (arith, (g.met.B.Board.lawful c.args.board.now).shape.rows)) row in
    let home = home-at c.args.placed.now s.shape c.shape-shape.result c.loop-row.row _ _ c.shape-shape.ensures c.is_home-home.ensures in
    is-home (chart s) c.args.placed.now c.requires.marks _ c.in_ok-switching.ensures _ within _ home c.if-not-home.false)

pub returns : goal.returns
returns g c =
    shown (λ p q named.
    let within = named-row (g.B.Board.state c.args.board.now) (g.met.B.Board.lawful c.args.board.now) c.requires.decodes p q named in
    c.loop-row.invariant q (in-rows (g.B.Board.state c.args.board.now).shape c.shape-shape.result q c.loop-row.row c.shape-shape.ensures c.loop-row-test.false within) p ((c.requires.notes.notes q p within).1 named))

use Rattle.std.proofs.Common.{below_more, ℕ, ◌+◌, ◌-◌, ◌*◌, ◌<◌, sym, ◌∙◌, ap, subst, arith}
use Rattle.std.specs.Prelude.{slice_index}
use Rattle.envy_base.specs.declared.shape.Shape.{Shape}
use Rattle.envy_map.specs.Fields.{chart}
use Rattle.envy_soundness.specs.Sound.{Names}
use Rattle.envy_audit.specs.Points.{rows_of}
use Rattle.envy_audit.proofs.Turning.{refuted, shown, no-owner, some-owner, row-in}
use Rattle.envy_audit.proofs.copies.is_kept_once.Goals as goal

pub loop-i-preserved-then-owners-spare-eq0 : goal.loop-i-preserved-then-owners-spare-eq0
loop-i-preserved-then-owners-spare-eq0 g c =
    let rows = ap (λ (sh : Shape). c.args.spare * sh.rows + c.loop-i.i) c.shape-rows.ensures in
    below_more _ _ c.loop-i.invariant (λ p r told. no-owner _ p c.if-owners-spare-eq0.true (ap (slice_index c.args.owners.now) rows ∙ told))

pub returns-then-owners-from-ne0 : goal.returns-then-owners-from-ne0
returns-then-owners-from-ne0 g c =
    let index = ap (λ (sh : Shape). c.args.spare * sh.rows + c.loop-i.i) c.shape-rows.ensures in
    let below : c.loop-i.i < (g.B.Board.state c.args.board.now).shape.rows = omega (arith, ap (λ (sh : Shape). sh.rows) c.shape-rows.ensures) in
    let within = row-in (g.B.Board.state c.args.board.now).shape c.args.spare c.loop-i.i c.requires.spare below in
    let from = c.in_ok-from.ensures.1 in
    let room : c.in_ok-from.from < rows_of (g.B.Board.state c.args.board.now).shape = omega (arith, from, c.requires.decodes.origins c.loop-i.i below) in
    let told = sym (ap (slice_index c.args.owners.now) index) ∙ some-owner _ c.if-owners-spare-eq0.false in
    let kept = (c.requires.notes.notes _ _ within).0 told in
    let origin = (c.requires.notes.notes _ _ room).0 (some-owner _ c.if-owners-from-ne0.true) in
    refuted (λ once. once c.loop-i.i below (_, kept) (_, subst (λ (q : ℕ). Names (chart (g.B.Board.state c.args.board.now)).fields (slice_index c.args.owners.now c.in_ok-from.from - 1) q) from origin))

pub loop-i-preserved : goal.loop-i-preserved
loop-i-preserved g c = below_more _ _ c.loop-i.invariant (λ p r told also. no-owner _ r c.if-owners-from-ne0.false (ap (slice_index c.args.owners.now) c.in_ok-from.ensures.1 ∙ also))

pub returns : goal.returns
returns g c = shown (λ i below (p, kept) (r, from).
    let rows = ap (λ (sh : Shape). sh.rows) c.shape-rows.ensures in
    c.loop-i.invariant i (omega (arith, below, rows)) p r ((c.requires.notes.notes _ p (row-in (g.B.Board.state c.args.board.now).shape c.args.spare i c.requires.spare below)).1 kept) ((c.requires.notes.notes _ r (c.requires.decodes.origins i below)).1 from))

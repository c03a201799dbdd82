use Rattle.std.proofs.Common.{below_more, ℕ, ◌-◌, ◌<◌, ◌∙◌, ap, subst, arith}
use Rattle.std.specs.Prelude.{slice_index}
use Rattle.envy_base.specs.declared.shape.Shape.{Shape}
use Rattle.envy_map.specs.Fields.{chart}
use Rattle.envy_soundness.specs.Sound.{Names}
use Rattle.envy_audit.specs.Points.{rows_of}
use Rattle.envy_audit.proofs.Turning.{refuted, shown, no-owner, some-owner, not-so, copy-told, copy-known}
use Rattle.envy_audit.proofs.copies.copies_are_same.Goals as goal

pub loop-i-preserved-then-owners-from-eq0 : goal.loop-i-preserved-then-owners-from-eq0
loop-i-preserved-then-owners-from-eq0 g c =
    below_more _ _ c.loop-i.invariant (λ p told. no-owner _ p c.if-owners-from-eq0.true (ap (slice_index c.args.owners.now) c.in_ok-from.ensures.1 ∙ told))

pub returns-then-not-same : goal.returns-then-not-same
returns-then-not-same g c =
    let from = c.in_ok-from.ensures.1 in
    let below : c.loop-i.i < (g.B.Board.state c.args.board.now).shape.rows = omega (arith, c.requires.fill) in
    let told = some-owner _ c.if-owners-from-eq0.false in
    let room : c.in_ok-from.from < rows_of (g.B.Board.state c.args.board.now).shape = omega (arith, from, c.requires.decodes.origins c.loop-i.i below) in
    let named = (c.requires.notes.notes _ _ room).0 told in
    refuted (λ all. not-so _ c.in_ok-same.ensures c.if-not-same.true (copy-told (chart (g.B.Board.state c.args.board.now)) c.args.spare c.loop-i.i _ c.shape-rows.result (ap (λ (sh : Shape). sh.rows) c.shape-rows.ensures) from (all c.loop-i.i (omega arith) (_, subst (λ (q : ℕ). Names (chart (g.B.Board.state c.args.board.now)).fields (slice_index c.args.owners.now c.in_ok-from.from - 1) q) from named))))

pub loop-i-preserved : goal.loop-i-preserved
loop-i-preserved g c = below_more _ _ c.loop-i.invariant (λ p told.
    copy-known (chart (g.B.Board.state c.args.board.now)) c.args.spare c.loop-i.i _ c.shape-rows.result (ap (λ (sh : Shape). sh.rows) c.shape-rows.ensures) c.in_ok-from.ensures.1 (c.in_ok-same.ensures.0 c.if-not-same.false))

pub returns : goal.returns
returns g c = shown (λ i below (p, named).
    c.loop-i.invariant i (omega (arith, below)) p ((c.requires.notes.notes _ p (c.requires.decodes.origins i (omega (arith, below, c.requires.fill)))).1 named))

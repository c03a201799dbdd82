use Rattle.std.proofs.Common.{ℕ, ◌∙◌, ◌<◌, ◌≤◌, refl, sym, ap, subst}
use Rattle.std.proofs.lemmas.Result.{IfOk-from_err}
use Rattle.envy_base.specs.declared.shape.Shape.{Shape}
use Rattle.envy_map.specs.Fields.{chart}
use Rattle.envy_map.proofs.Going.{OnErr-any}
use Rattle.envy_space.specs.Pool.{Pool, IsPool}
use Rattle.envy_space.proofs.ReadLemmas.{all-read, more-stand, none-read, segment-fits}
use Rattle.envy_space.proofs.SpaceLemmas.{IsPool-space}
use Rattle.envy_space.proofs.space.Space.read_positions.Goals as goal
use Rattle.envy_base.specs.Shape.{all_positions_of}

pub loop-position-init : goal.loop-position-init
loop-position-init g c =
    let s = c.self.inside in (
      none-read c.args.self.now.positions (chart (g.B.Board.state c.args.board.now)).fields.positions,
      subst IsPool c.self.view_is (IsPool-space s.shape s.fills.items s.kept.items s.order s.dead s.has_free s.has_dead c.self.invariant),
      refl,
      refl,
      refl,
    )

pub returns-in_err-segment_at-clause-positions : goal.returns-in_err-segment_at-clause-positions
returns-in_err-segment_at-clause-positions g c = IfOk-from_err c.from_residual.result _ c.from_residual.ensures.0

pub returns-in_err-segment_at-clause-off : goal.returns-in_err-segment_at-clause-off
returns-in_err-segment_at-clause-off g c = OnErr-any c.from_residual.result c.in_err-segment_at.ensures

pub stand-requires-clause-position : goal.stand-requires-clause-position
stand-requires-clause-position g c =
    subst (λ (x : Shape). c.loop-position.position < all_positions_of x) (ap (λ (p : Pool). p.shape) c.self.view_is ∙ sym c.loop-position.invariant.2) (subst (λ (n : ℕ). c.loop-position.position < n) c.all_positions_of-position-end.ensures c.loop-position-test.true)

pub stand-requires-clause-segment : goal.stand-requires-clause-segment
stand-requires-clause-segment g c =
    let now = chart (g.B.Board.state c.args.board.now) in
    let low = subst (λ (x : Shape). c.loop-position.position < all_positions_of x) (ap (λ (p : Pool). p.shape) c.self.view_is ∙ c.requires.shape) (subst (λ (n : ℕ). c.loop-position.position < n) c.all_positions_of-position-end.ensures c.loop-position-test.true) in
    segment-fits now.fields.positions c.loop-position.position c.in_ok-segment_at.field-0 now.shape c.loop-position.self.shape (c.loop-position.invariant.2 ∙ c.requires.shape) c.in_ok-segment_at.ensures.1 (c.requires.sound.numbers.positions_fit c.loop-position.position low)

pub loop-position-preserved : goal.loop-position-preserved
loop-position-preserved g c =
    let now = chart (g.B.Board.state c.args.board.now) in
    let i = c.loop-position.invariant in
    let low = subst (λ (x : Shape). c.loop-position.position < all_positions_of x) (ap (λ (p : Pool). p.shape) c.self.view_is ∙ c.requires.shape) (subst (λ (n : ℕ). c.loop-position.position < n) c.all_positions_of-position-end.ensures c.loop-position-test.true) in (
      more-stand now.shape c.loop-position.self c.stand.new.self now.fields.positions c.loop-position.position c.in_ok-segment_at.field-0 (i.2 ∙ c.requires.shape) low c.requires.sound.numbers.apart c.in_ok-segment_at.ensures.1 c.stand.ensures i.0,
      c.stand.ensures.is_pool,
      c.stand.ensures.shape ∙ i.2,
      c.stand.ensures.fills ∙ i.3,
      c.stand.ensures.kept ∙ i.4,
    )

pub returns-clause-positions : goal.returns-clause-positions
returns-clause-positions g c =
    let now = chart (g.B.Board.state c.args.board.now) in
    let i = c.loop-position.invariant in
    let past = subst (λ (x : Shape). all_positions_of x ≤ c.loop-position.position) (ap (λ (p : Pool). p.shape) c.self.view_is ∙ c.requires.shape) (subst (λ (n : ℕ). n ≤ c.loop-position.position) c.all_positions_of-position-end.ensures c.loop-position-test.false) in
    all-read c.loop-position.self.positions now.fields.positions (all_positions_of now.shape) c.loop-position.position
    (IsPool.positions_long i.1 ∙ ap (λ (x : Shape). all_positions_of x) (i.2 ∙ c.requires.shape)) c.requires.sound.numbers.positions_long past i.0

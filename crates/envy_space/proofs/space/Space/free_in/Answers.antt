use Rattle.std.proofs.Common.{◌≡◌, ◌∙◌, ℕ, ◌+◌, ◌-◌, ◌*◌, arith, ap}
use Rattle.std.specs.Prelude.{sum_by}
use Rattle.std.specs.List.{range_with_len}
use Rattle.envy_space.specs.Pool.{free_at, free_rows}
use Rattle.envy_space.proofs.SpaceLemmas.{sum_by-range_more}
use Rattle.envy_space.proofs.space.Space.free_in.Goals as goal

pub loop-position-preserved : goal.loop-position-preserved
loop-position-preserved c =
    let pool = c.args.self.now in
    let first = c.args.first in
    let position = c.loop-position.position in
    let next : position + 1 - first ≡ position - first + 1 = omega arith in
    let here : c.free-free.result ≡ free_at pool position = c.free-free.ensures ∙ ap (free_rows pool) c.segment_at.ensures.segment in
    let more = ap (λ (n : ℕ). sum_by (free_at pool) (range_with_len first n)) next ∙ sum_by-range_more (free_at pool) first (position - first) position (omega arith) in
    let room : (position + 1 - first) * pool.shape.rows ≡ (position - first) * pool.shape.rows + pool.shape.rows = ap (λ (n : ℕ). n * pool.shape.rows) next ∙ omega arith in
    let bound = c.loop-position.invariant.1 in
    (omega arith, omega arith)

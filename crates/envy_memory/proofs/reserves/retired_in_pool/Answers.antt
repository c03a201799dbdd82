use Rattle.std.proofs.Common.{◌≡◌, ◌∙◌, not, ℕ, arith, ap}
use Rattle.std.specs.Prelude.{slice_index}
use Rattle.envy_base.specs.Shape.{positions_of}
use Rattle.envy_memory.specs.Reserves.{is_fresh}
use Rattle.envy_memory.proofs.ReserveLemmas.{count-more, counts-claimed, counts-fresh}
use Rattle.envy_memory.proofs.reserves.retired_in_pool.Goals as goal
use Rattle.envy_memory.proofs.reserves.retired_in_pool.Goals.{then-fill-ne0, else-fill-ne0}

pub loop-position-preserved : goal.loop-position-preserved
loop-position-preserved c =
    let pool = c.args.space.now in
    let position = c.loop-position.position in
    let first = positions_of c.args.shape.now in
    let from = c.loop-position.auto.position in
    let here : c.fill.result ≡ slice_index pool.fills (slice_index pool.positions position) = c.fill.ensures.fill ∙ ap (λ (s : ℕ). slice_index pool.fills s) c.segment_at.ensures.segment in
    let more = count-more (λ k. not (is_fresh pool.fills pool.positions k)) first position (omega arith) in
    elim c.if-fill-ne0.branch [
      | then-fill-ne0 w ↦ (let one = counts-claimed pool.fills pool.positions position c.fill.result here w.if-fill-ne0.true in omega arith, omega arith)
      | else-fill-ne0 w ↦ (let none = counts-fresh pool.fills pool.positions position c.fill.result here w.if-fill-ne0.false in omega arith, omega arith)
    ]

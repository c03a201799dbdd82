use Rattle.std.proofs.Common.{◌≡◌, below_more, Some, false, inl, inr, arith}
use Rattle.envy_base.specs.declared.fields.Job.TheVariants.{Erase}
use Rattle.envy_map.specs.Fields.{chart}
use Rattle.envy_audit.proofs.Turning.{of-rows, at-rows, segment-of, is-spare}
use Rattle.envy_audit.proofs.segments.free_are_ones.Goals as goal

pub loop-row-preserved : goal.loop-row-preserved
loop-row-preserved g c = below_more _ _ c.loop-row.invariant (λ free.
    let row = of-rows (g.B.Board.state c.args.board.now).shape c.shape-shape.result c.loop-row.row c.shape-shape.ensures c.loop-row-test.true in
    let within = segment-of (g.B.Board.state c.args.board.now).shape c.loop-row.row (omega (arith, (g.met.B.Board.lawful c.args.board.now).shape.rows)) row in
    elim (c.in_ok-right.ensures.0 c.if-not-right.false free) [
      | inl are_ones ↦ inl are_ones
      | inr any ↦
          let both = c.is_erased-any.ensures.0 any in
          let erase : (chart (g.B.Board.state c.args.board.now)).fields.job ≡ Some Erase = c.in_ok-erasing.ensures.0 both.0 in
          inr (erase, is-spare (chart (g.B.Board.state c.args.board.now)) c.args.placed.now c.requires.marks _ within (at-rows c.args.placed.now (g.B.Board.state c.args.board.now).shape c.shape-shape.result c.loop-row.row false c.shape-shape.ensures both.1))
    ])

use Rattle.std.proofs.Common.{arith, refl}
use Rattle.envy_map.specs.Fields.{chart}
use Rattle.envy_index_calls.proofs.Lending.{may-serve}
use Rattle.envy_index_calls.proofs.words.refusal.Goals as goal

pub returns-in-Ok-false-clause-reason : goal.returns-in-Ok-false-clause-reason
returns-in-Ok-false-clause-reason g c =
    may-serve c.args.memory.now c.shape-shape.result (chart (g.B.Board.state c.board.result.now)) c.args.memory.now.chart c.in-Ok-false.field-0 c.requires c.board.ensures.same refl c.shape-shape.ensures (omega (arith, c.if-shape-lt-LEAST_PAGES.false)) (omega (arith, c.if-shape-gt-MOST_MAP_PAGES.false)) (omega (arith, c.if-shape-lt-LEAST_SHADOWS.false)) c.in-Ok-false.field-0-test c.in-Ok-false.ensures.open

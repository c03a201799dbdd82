use Rattle.std.proofs.Common.{◌/◌}
use Rattle.envy_soundness.specs.Words.{durable}
use Rattle.envy_memory.specs.Calls.{fresh}
use Rattle.envy_tpca.proofs.Loading.{load-none-refused, word-loaded, accessed-one}
use Rattle.envy_tpca.proofs.load_sums.load_at.Goals as goal

pub unreachable-requires : goal.unreachable-requires
unreachable-requires g c = load-none-refused (durable c.args.memory.now.chart) c.args.memory.now c.load.new.self c.args.a c.requires.within c.in-Err.field-0 (c.in-Err.ensures.step (fresh c.args.memory.now.chart.shape.shadows (durable c.args.memory.now.chart)) c.requires.rests)

pub returns-clause-word : goal.returns-clause-word
returns-clause-word g c = word-loaded (durable c.args.memory.now.chart) c.args.memory.now c.load.new.self c.args.a c.in-Ok.word (c.in-Ok.ensures.step (fresh c.args.memory.now.chart.shape.shadows (durable c.args.memory.now.chart)) c.requires.rests)

pub returns-clause-loaded : goal.returns-clause-loaded
returns-clause-loaded g c = record { same = c.load.ensures.below.kept; accessed = accessed-one (c.args.a / 32) c.args.memory.now.parts.cache c.load.new.self.parts.cache c.in-Ok.ensures.below.visits }

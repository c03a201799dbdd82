use Rattle.envy_array.specs.Array.{page_of}
use Rattle.envy_tpca.proofs.Loading.{accessed-one}
use Rattle.envy_tpca.proofs.Calling.{load-done, load-never}
use Rattle.envy_tpca.proofs.Since.{since-load}
use Rattle.envy_tpca.proofs.calls.load_word.Goals as goal

pub returns-in_err-load-clause-after : goal.returns-in_err-load-clause-after
returns-in_err-load-clause-after g c =
    λ n first before now t most last r lt. absurd (load-never n first before now t most last c.args.a c.args.memory.now c.load.new.self r lt c.in_err-load.field-0.0 (c.in_err-load.ensures.step r.array r.stands))

pub returns-clause-after : goal.returns-clause-after
returns-clause-after g c =
    λ n first before now t most last r lt.
    load-done n first before now t most last c.args.a c.in_ok-load.field-0 c.args.memory.now c.load.new.self r (since-load c.args.memory.now c.load.new.self _ c.load.ensures.below.kept) (c.in_ok-load.ensures.step r.array r.stands)

pub returns-clause-accessed : goal.returns-clause-accessed
returns-clause-accessed g c = accessed-one (page_of c.args.a) c.args.memory.now.parts.cache c.load.new.self.parts.cache c.in_ok-load.ensures.below.visits

use Rattle.std.proofs.Common.{refl}
use Rattle.envy_io.specs.declared.lines.Next.TheVariants.{Failed}
use Rattle.envy_io.proofs.ReadsLemmas.{NextLine-given}
use Rattle.envy_io.proofs.lines.Lines.next_line.Goals as goal

pub returns-in-Ok-clause-next : goal.returns-in-Ok-clause-next
returns-in-Ok-clause-next g c =
    NextLine-given _ c.gather.new.self _ _ _ _ _ c.gather.ensures.gathers c.give.ensures.same (c.give.ensures.answers _ _)

pub returns-in-Err-clause-next : goal.returns-in-Err-clause-next
returns-in-Err-clause-next g c =
    NextLine-given _ c.gather.new.self c.gather.new.self _ _ c.clear.new.self.items Failed c.gather.ensures.gathers refl (record { none = c.clear.ensures; held = refl }, c.in-Err.ensures.err, c.in-Err.ensures.failed)

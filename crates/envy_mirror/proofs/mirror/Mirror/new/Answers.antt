use Rattle.std.proofs.Common.{refl, subst}
use Rattle.envy_array.specs.Array.{zeros}
use Rattle.envy_base.specs.declared.shape.Shape.{Shape}
use Rattle.envy_meaning.specs.Stands.{Stands}
use Rattle.envy_mirror.proofs.mirror.Mirror.new.Goals as goal

pub returns-in-Ok-clause-mirrors : goal.returns-in-Ok-clause-mirrors
returns-in-Ok-clause-mirrors g c =
    let second = subst (λ (sh : Shape). Stands c.args.b.chart (zeros sh.pages sh.shadows)) c.requires.shape c.requires.second in
    record { some = refl; first = c.requires.first; second = second }

use Rattle.std.proofs.Common.{ap, refl}
use Rattle.envy_table.specs.Entries.{Translations}
use Rattle.envy_table.proofs.Filling.{AreCurrent-filled}
use Rattle.envy_table.proofs.cache.Cache.translate.Goals as goal

pub returns-clause-agrees : goal.returns-clause-agrees
returns-clause-agrees g c = λ on.
    let entries = ap (λ (t : Translations). t.entries) c.self.view_is in
    rw (c.fill.ensures, entries)
    (AreCurrent-filled _ _ _ c.args.self.now.entries c.args.page c.in_ok-found.found (c.requires.agrees on) c.kept.ensures.some c.requires.page c.in_ok-found.ensures.value.1 (λ q apart. refl))

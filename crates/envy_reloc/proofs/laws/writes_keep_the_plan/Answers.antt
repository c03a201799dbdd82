use Rattle.envy_reloc.proofs.WriteLemmas.{IsPlanOf-claimed, IsPlanOf-programmed, IsPlanOf-rowed, IsPlanOf-unrowed, IsPlanOf-shaded, IsPlanOf-blanked, IsPlanOf-cleared, IsPlanOf-unused, IsPlanOf-closed}
use Rattle.envy_reloc.proofs.laws.writes_keep_the_plan.Goals as goal

pub returns-clause-claimed : goal.returns-clause-claimed
returns-clause-claimed c = IsPlanOf-claimed

pub returns-clause-programmed : goal.returns-clause-programmed
returns-clause-programmed c = IsPlanOf-programmed

pub returns-clause-rowed : goal.returns-clause-rowed
returns-clause-rowed c = IsPlanOf-rowed

pub returns-clause-unrowed : goal.returns-clause-unrowed
returns-clause-unrowed c = IsPlanOf-unrowed

pub returns-clause-shaded : goal.returns-clause-shaded
returns-clause-shaded c = IsPlanOf-shaded

pub returns-clause-blanked : goal.returns-clause-blanked
returns-clause-blanked c = IsPlanOf-blanked

pub returns-clause-cleared : goal.returns-clause-cleared
returns-clause-cleared c = IsPlanOf-cleared

pub returns-clause-unused : goal.returns-clause-unused
returns-clause-unused c = IsPlanOf-unused

pub returns-clause-closed : goal.returns-clause-closed
returns-clause-closed c = IsPlanOf-closed

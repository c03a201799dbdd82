use Rattle.envy_victims.specs.Choosing.{frees, deads}
use Rattle.envy_victims.proofs.ChoosingLemmas.{choice-free, choice-clean, some-dead}
use Rattle.envy_victims.proofs.choice.free_or_clean.Goals as goal

pub returns-in-Some : goal.returns-in-Some
returns-in-Some c home nearest = choice-free c.args.chooser.now (frees c.args.space.now) (deads c.args.space.now) home c.args.partition c.in-Some.position nearest c.in-Some.ensures

pub victim-requires-clause-some : goal.victim-requires-clause-some
victim-requires-clause-some c = some-dead c.args.chooser.now c.args.space.now c.args.partition c.requires.usable c.in-None.ensures

pub returns-in-None : goal.returns-in-None
returns-in-None c home nearest = choice-clean c.args.chooser.now (frees c.args.space.now) (deads c.args.space.now) home c.args.partition c.victim.result c.aside.result nearest c.in-None.ensures c.victim.ensures c.aside.ensures

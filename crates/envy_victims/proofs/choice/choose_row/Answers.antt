use Rattle.std.proofs.Common.{◌≡◌, ◌∙◌, Some, sym, ap, arith}
use Rattle.std.specs.Option.{option_copied}
use Rattle.envy_victims.proofs.PooledLemmas.{lives-long}
use Rattle.envy_victims.proofs.choice.choose_row.Goals as goal

pub choose_by_lives-requires-clause-positions : goal.choose_by_lives-requires-clause-positions
choose_by_lives-requires-clause-positions c =
    let same : c.args.chooser.now.lives ≡ Some c.in-Some.lives.now = sym c.lives.ensures.lives ∙ ap option_copied c.in-Some.is in
    let long = lives-long c.args.chooser.now c.in-Some.lives.now c.lives.ensures.whole same in
    long.1 ∙ c.requires.positions

pub choose_by_lives-requires-clause-page : goal.choose_by_lives-requires-clause-page
choose_by_lives-requires-clause-page c =
    let same : c.args.chooser.now.lives ≡ Some c.in-Some.lives.now = sym c.lives.ensures.lives ∙ ap option_copied c.in-Some.is in
    let long = lives-long c.args.chooser.now c.in-Some.lives.now c.lives.ensures.whole same in
    omega (arith, long.0, c.requires.page)

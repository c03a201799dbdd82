use Rattle.std.proofs.Common.{◌≡◌, ◌∙◌, ◌-◌, None, Some, sym, ap, arith}
use Rattle.std.specs.Option.{option_copied}
use Rattle.envy_base.specs.declared.shape.Shape.{Shape}
use Rattle.envy_map.specs.Fields.{chart}
use Rattle.envy_victims.proofs.PooledLemmas.{lives-long}
use Rattle.envy_engine.proofs.AvailLemmas.{available-lives, available-near}
use Rattle.envy_engine.proofs.FlushLemmas.{if-done}
use Rattle.envy_engine.proofs.beside.usable.Goals as goal
use Rattle.envy_base.specs.Shape.{positions_of}

pub usable_by_lives-requires-clause-positions : goal.usable_by_lives-requires-clause-positions
usable_by_lives-requires-clause-positions g c =
    let x = c.args.parts.now in
    let same : x.chooser.lives ≡ Some c.in-Some.lives.now = sym c.lives.ensures.lives ∙ ap option_copied c.in-Some.is in
    let long = lives-long x.chooser c.in-Some.lives.now c.lives.ensures.whole same in
    long.1 ∙ c.requires.ready.fits.positions ∙ ap (λ (sh : Shape). positions_of sh) (sym c.requires.ready.fits.pool)

pub usable_by_lives-requires-clause-page : goal.usable_by_lives-requires-clause-page
usable_by_lives-requires-clause-page g c =
    let x = c.args.parts.now in
    let same : x.chooser.lives ≡ Some c.in-Some.lives.now = sym c.lives.ensures.lives ∙ ap option_copied c.in-Some.is in
    let long = lives-long x.chooser c.in-Some.lives.now c.lives.ensures.whole same in
    omega (arith, long.0, c.requires.ready.fits.pages, c.requires.page)

pub returns-in-Some-clause-lowest : goal.returns-in-Some-clause-lowest
returns-in-Some-clause-lowest g c =
    let x = c.args.parts.now in
    let same : x.chooser.lives ≡ Some c.in-Some.lives.now = sym c.lives.ensures.lives ∙ ap option_copied c.in-Some.is in
    if-done c.usable_by_lives.result _ _ c.usable_by_lives.ensures.goes (λ found goes. available-lives x c.in-Some.lives.now c.args.home c.args.page (chart (g.B.Board.state c.args.board.now)) found same goes)

pub returns-in-None-clause-lowest : goal.returns-in-None-clause-lowest
returns-in-None-clause-lowest g c =
    let x = c.args.parts.now in
    let same : x.chooser.lives ≡ None = sym c.lives.ensures.lives ∙ ap option_copied c.in-None.is in
    if-done c.usable_near.result _ _ c.usable_near.ensures.lowest (λ found near. available-near x c.args.home c.args.page (chart (g.B.Board.state c.args.board.now)) found same near)

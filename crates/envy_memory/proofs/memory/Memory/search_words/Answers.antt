use Rattle.std.proofs.Common.{◌/◌, ◌<◌, sym, subst}
use Rattle.envy_array.specs.Words.{IsPlace}
use Rattle.envy_map.specs.Fields.{chart}
use Rattle.envy_soundness.specs.Words.{live}
use Rattle.envy_memory.specs.Picture.{Picture}
use Rattle.envy_memory.proofs.LoadRuns.{place-on}
use Rattle.envy_memory.proofs.memory.Memory.search_words.Goals as goal

pub returns-clause-place : goal.returns-clause-place
returns-clause-place g c =
    let x = c.in-Ok-found.place in
    let page = subst (λ (p : Picture). c.args.a / 32 < p.chart.shape.pages) (sym c.self.view_is) c.requires.page in
    subst (λ (p : Picture). IsPlace (live p.chart) c.args.a c.args.n c.args.key c.args.low c.args.top x.index x.low x.top) c.self.view_is
    (place-on (chart (g.B.Board.state c.self.inside.board)) c.args.a c.args.n c.args.key c.args.low c.args.top x.index x.low x.top c.in-Ok.from page c.requires.within c.in-Ok.ensures.place.1 c.in-Ok-found.ensures.place)

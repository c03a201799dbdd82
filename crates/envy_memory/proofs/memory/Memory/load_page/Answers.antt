use Rattle.std.proofs.Common.{◌/◌, ◌<◌, ◌∙◌, sym, subst, arith}
use Rattle.envy_map.specs.Fields.{chart}
use Rattle.envy_memory.specs.LoadRuns.{AreLive}
use Rattle.envy_memory.specs.Picture.{Picture}
use Rattle.envy_memory.proofs.LoadRuns.{live-on}
use Rattle.envy_memory.proofs.memory.Memory.load_page.Goals as goal

pub returns-clause-words : goal.returns-clause-words
returns-clause-words g c =
    let page = subst (λ (p : Picture). c.args.a / 32 < p.chart.shape.pages) (sym c.self.view_is) c.requires.page in
    subst (λ (p : Picture). AreLive p.chart c.args.a c.page_words.new.into) c.self.view_is
    (λ i lt. c.in-Ok-page_words.ensures.words i lt ∙ sym (live-on (chart (g.B.Board.state c.self.inside.board)) c.args.a i c.in-Ok.from page (omega (arith, c.requires.within, c.page_words.ensures.long)) c.in-Ok.ensures.place.1))

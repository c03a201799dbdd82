use Rattle.std.proofs.Common.{◌*◌, ◌∙◌, ap, sym}
use Rattle.std.specs.Prelude.{◌&&◌}
use Rattle.envy_base.specs.declared.shape.Shape.{Shape}
use Rattle.envy_map.specs.Fields.{Chart}
use Rattle.envy_memory.specs.Lawful.{words_long}
use Rattle.envy_memory.proofs.one_tx.OneTxWords.size.Goals as goal

pub returns : goal.returns
returns g c =
    let p = c.args.self.now.memory in
    ap (λ (sh : Shape). 32 * sh.pages) (c.shape.ensures ∙ ap (λ (x : Chart). x.shape) c.board.ensures.same) ∙ sym (words_long (p.chart.on && c.args.self.now.begun) p.chart)

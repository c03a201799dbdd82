use Rattle.std.proofs.Common.{◌≡◌, refl, sym, get_or, subst, ap, ◌∙◌, arith}
use Rattle.std.specs.Prelude.{Ok}
use Rattle.envy_base.specs.declared.shape.Shape.{Shape}
use Rattle.envy_map.specs.Fields.{chart}
use Rattle.envy_meaning.specs.Stands.{Stands}
use Rattle.envy_soundness.specs.Words.{durable}
use Rattle.envy_memory.specs.Picture.{Picture}
use Rattle.envy_memory.proofs.Standing.{beyond, inside, word-committed, word-durable}
use Rattle.envy_memory.proofs.memory.Memory.look.Goals as goal

pub returns-then-a-shape-clause-step : goal.returns-then-a-shape-clause-step
returns-then-a-shape-clause-step g c m stood =
    let stands : Stands (chart (g.B.Board.state c.self.inside.board)) m = subst (λ (p : Picture). Stands p.chart m) (sym c.self.view_is) stood in
    let pages = ap (λ (sh : Shape). sh.pages) c.shape.ensures in
    (m, (beyond _ m c.args.a stands (omega arith), refl), stood)

pub returns-clause-step : goal.returns-clause-step
returns-clause-step g c m stood =
    let stands : Stands (chart (g.B.Board.state c.self.inside.board)) m = subst (λ (p : Picture). Stands p.chart m) (sym c.self.view_is) stood in
    let pages = ap (λ (sh : Shape). sh.pages) c.shape.ensures in
    (m, (inside _ m c.args.a stands (omega arith), c.in_ok-word.ensures ∙ sym (word-committed _ m c.args.a c.in_ok-from.from stands (omega arith) c.in_ok-from.ensures.value), refl), stood)

pub returns-clause-word : goal.returns-clause-word
returns-clause-word g c =
    let pages = ap (λ (sh : Shape). sh.pages) c.shape.ensures in
    subst (λ (p : Picture). Ok c.in_ok-word.field-0 ≡ Ok (get_or (durable p.chart) c.args.a 0)) c.self.view_is
    (ap Ok (c.in_ok-word.ensures ∙ sym (word-durable (chart (g.B.Board.state c.self.inside.board)) c.args.a c.in_ok-from.from (omega arith) c.in_ok-from.ensures.value)))

use Rattle.std.proofs.Common.{ap, sym, subst, refl, arith}
use Rattle.envy_base.specs.declared.shape.Shape.{Shape}
use Rattle.envy_map.specs.Fields.{chart}
use Rattle.envy_meaning.specs.Stands.{Stands}
use Rattle.envy_memory.specs.Picture.{Picture}
use Rattle.envy_memory.proofs.LoadRuns.{loads-run, past-run}
use Rattle.envy_memory.proofs.memory.Memory.load_run.Goals as goal

pub returns-then-into-saturating_sub-clause-step : goal.returns-then-into-saturating_sub-clause-step
returns-then-into-saturating_sub-clause-step g c m stood =
    let stands : Stands (chart (g.B.Board.state c.self.inside.board)) m = subst (λ (p : Picture). Stands p.chart m) (sym c.self.view_is) stood in
    let pages = ap (λ (sh : Shape). sh.pages) c.shape-words.ensures in
    (m, (past-run (chart (g.B.Board.state c.self.inside.board)) m _ _ stands (omega arith), refl), stood)

pub returns-then-not-is_empty-clause-step : goal.returns-then-not-is_empty-clause-step
returns-then-not-is_empty-clause-step g c m stood =
    let pages = ap (λ (sh : Shape). sh.pages) c.shape-words.ensures in
    let here = ap (λ (p : Picture). p.chart.shape.pages) c.self.view_is in
    loads-run c.args.self.now.chart c.load_pages.new.self.chart m c.args.a c.load_pages.new.into (ap (λ (p : Picture). p.chart) c.load_pages.ensures.kept) stood (λ some. omega arith) c.load_pages.ensures.words

use Rattle.std.proofs.Common.{◌≡◌, ◌∙◌, ℕ, ◌+◌, ◌≤◌, List, length, get_or, refl, sym, ap, arith, subst}
use Rattle.envy_base.specs.declared.shape.Shape.{Shape}
use Rattle.envy_map.specs.Fields.{chart}
use Rattle.envy_space.specs.Pool.{Pool, kept_in_first}
use Rattle.envy_space.proofs.CountLemmas.{kept_in_first-le-fill}
use Rattle.envy_space.proofs.ReadLemmas.{HasCounted-all, HasCounted-none}
use Rattle.envy_space.proofs.space.Space.count_kept.Goals as goal

pub count_page-requires-clause-room : goal.count_page-requires-clause-room
count_page-requires-clause-room g c s =
    let now = chart (g.B.Board.state c.args.board.now) in
    let pages = ap (λ (p : Pool). p.shape.pages) c.self.view_is in
    let same = ap (λ (sh : Shape). sh.pages) c.requires.shape in
    let fills : c.loop-page.self.fills ≡ now.fields.fills = c.loop-page.invariant.2 ∙ c.requires.fills in
    subst (λ (xs : List ℕ). kept_in_first now.shape now.fields (c.loop-page.page + 1) s ≤ get_or xs s 0) (sym fills)
    (kept_in_first-le-fill now.shape now.fields now.flash (c.loop-page.page + 1) s c.requires.sound (omega arith))

pub loop-page-init : goal.loop-page-init
loop-page-init g c =
    let now = chart (g.B.Board.state c.args.board.now) in
    let long = subst (λ (p : Pool). length p.kept ≡ p.shape.segments) c.self.view_is c.self.invariant.kept_long ∙ ap (λ (x : Shape). x.segments) c.requires.shape in
    (HasCounted-none now.shape now.fields c.args.self.now c.args.self.now.shape.segments long c.requires.none, refl, refl, refl)

pub loop-page-preserved : goal.loop-page-preserved
loop-page-preserved g c = (c.in_ok-count_page.ensures.counted, c.in_ok-count_page.ensures.shape ∙ c.loop-page.invariant.1, c.in_ok-count_page.ensures.fills ∙ c.loop-page.invariant.2, c.in_ok-count_page.ensures.positions ∙ c.loop-page.invariant.3)

pub returns-clause-counted : goal.returns-clause-counted
returns-clause-counted g c =
    let now = chart (g.B.Board.state c.args.board.now) in
    HasCounted-all now.shape c.self.inside.shape now.fields c.loop-page.self c.loop-page.page (ap (λ (p : Pool). p.shape) c.self.view_is ∙ c.requires.shape) c.loop-page.auto.page-end c.loop-page-test.false c.loop-page.invariant.0

use Rattle.std.proofs.Common.{◌≡◌, ◌∙◌, sym, subst}
use Rattle.std.specs.Prelude.{◌-◌, IsTrue, ℕ}
use Rattle.envy_map.specs.Fields.{chart}
use Rattle.envy_memory.specs.Picture.{Picture}
use Rattle.envy_memory.specs.Reserves.{TellsErases, left, retired}
use Rattle.envy_memory.proofs.ReserveLemmas.{left-is, none-left, retired-is}
use Rattle.envy_memory.proofs.memory.Memory.worn.Goals as goal

pub returns-clause-left : goal.returns-clause-left
returns-clause-left g c =
    let old = chart (g.B.Board.state c.self.inside.board) in
    let lit : IsTrue c.args.self.now.chart.on = sym c.if-not-powered.ensures in
    let on : IsTrue old.on = subst (λ (p : Picture). IsTrue p.chart.on) (sym c.self.view_is) lit in
    let sh = c.shape-shape.result in
    let count = c.retired_in_pool-retired.result in
    let told : count ≡ retired old = c.retired_in_pool-retired.ensures.count ∙ retired-is old c.self.inside.parts sh (c.self.invariant.0.agrees on) c.shape-shape.ensures in
    subst (λ (p : Picture). sh.reserves - count ≡ left p.chart) c.self.view_is (left-is old sh count c.shape-shape.ensures told)

pub returns-clause-tells : goal.returns-clause-tells
returns-clause-tells g c =
    let now = c.args.self.now.chart in
    subst (λ (n : ℕ). TellsErases now n) (sym (returns-clause-left g c)) (none-left now.shape now.fields.fills now.fields.positions c.invariant_holds.ensures.shape)

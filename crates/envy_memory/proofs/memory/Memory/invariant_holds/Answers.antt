use Rattle.std.proofs.Common.{◌≡◌, [], sym, subst}
use Rattle.envy_map.specs.Fields.{chart}
use Rattle.envy_meaning.specs.Stands.{Stands}
use Rattle.envy_memory.specs.Picture.{IsMemory, Picture}
use Rattle.envy_memory.proofs.Ended.{unowned-shut}
use Rattle.envy_memory.proofs.memory.Memory.invariant_holds.Goals as goal

pub returns-clause-memory : goal.returns-clause-memory
returns-clause-memory g c = subst (λ (p : Picture). IsMemory p.chart p.parts p.owned p.limit p.mark) c.self.view_is c.self.invariant.0

pub returns-clause-unowned : goal.returns-clause-unowned
returns-clause-unowned g c m stood shut =
    let old = chart (g.B.Board.state c.self.inside.board) in
    let stands : Stands old m = subst (λ (p : Picture). Stands p.chart m) (sym c.self.view_is) stood in
    subst (λ (p : Picture). p.owned.pairs ≡ []) c.self.view_is (unowned-shut old m c.self.inside.owned.pairs stands shut (c.self.invariant.0.owned (Stands.on stands)))

-- A pair of which the side that was Good last is revived.
use Rattle.std.proofs.Common.{◌≡◌, ◌≤◌, Bool, true, false, List, length, Result, Ok, Err, sym, ◌∙◌, ap, subst}
use Rattle.std.proofs.lemmas.List.{length-replicate}
use Rattle.envy_base.specs.declared.shape.Shape.{Shape}
use Rattle.envy_soundness.specs.Same.{Kept}
use Rattle.envy_meaning.specs.Stands.{Stands}
use Rattle.envy_memory.specs.declared.faults.ReviveFault.{ReviveFault}
use Rattle.envy_memory.specs.declared.faults.ReviveFault.TheVariants.{Dead, Off}
use Rattle.envy_mirror.specs.Catching.{Wakes}
use Rattle.envy_mirror.specs.Pair.{Side, Pair, is_good, is_good_by, IsPair, IsSide, IsSideBy, Leads, MayLead}
use Rattle.envy_mirror.specs.Reviving.{Returns}
use Rattle.envy_mirror.specs.declared.standing.Standing.{Standing}
use Rattle.envy_mirror.specs.declared.standing.Standing.TheVariants.{Good, Behind, Gone}
use Rattle.envy_mirror.specs.declared.standing.Which.{Which}
use Rattle.envy_mirror.specs.declared.standing.Which.TheVariants.{First, Second}
use Rattle.envy_mirror.proofs.Following.{with_first, with_second}

side-returned : (result : Result Unit ReviveFault) (old s : Side) (stale left : List Bool) → IsSide old → Returns result old stale s left → IsSide s
side-returned (Ok done) old s stale left side r = subst (λ (g : Standing). IsSideBy g s.memory.chart) (sym r.0) (Stands.on r.1)
side-returned (Err Dead) old s stale left side r = subst IsSide (sym r.1) side
side-returned (Err Off) old s stale left side r = subst (λ (g : Standing). IsSideBy g s.memory.chart) (sym r.0) r.1

shape-returned : (result : Result Unit ReviveFault) (old s : Side) (stale left : List Bool) → Returns result old stale s left → s.memory.chart.shape ≡ old.memory.chart.shape
shape-returned (Ok done) old s stale left r = Kept.shape (Wakes.kept r.3)
shape-returned (Err Dead) old s stale left r = ap (λ (x : Side). x.memory.chart.shape) r.1
shape-returned (Err Off) old s stale left r = Kept.shape (Wakes.kept r.2)

length-returned : (result : Result Unit ReviveFault) (old s : Side) (stale left : List Bool) → Returns result old stale s left → length left ≡ length stale
length-returned (Ok done) old s stale left r = ap length r.4 ∙ length-replicate (length stale) true
length-returned (Err Dead) old s stale left r = ap length r.2
length-returned (Err Off) old s stale left r = ap length r.4

gone-leads : (g other : Standing) → is_good_by g ≡ false → MayLead g other → MayLead Gone other
gone-leads Good other not_good leads = cc
gone-leads Behind other not_good leads = absurd leads
gone-leads Gone other not_good leads = leads

leads-returned : (result : Result Unit ReviveFault) (old s : Side) (stale left : List Bool) (other : Standing) → is_good old ≡ false → MayLead old.standing other → Returns result old stale s left → MayLead s.standing other
leads-returned (Ok done) old s stale left other dark leads r = rw r.0 tt
leads-returned (Err Dead) old s stale left other dark leads r = subst (λ (x : Side). MayLead x.standing other) (sym r.1) leads
leads-returned (Err Off) old s stale left other dark leads r = subst (λ (g : Standing). MayLead g other) (sym r.0) (gone-leads old.standing other dark leads)

-- the first side comes back to a pair that lost it last,
pub IsPair-returned-first : (result : Result Unit ReviveFault) (old : Pair) (s : Side) (left : List Bool) → IsPair old → is_good old.first ≡ false → old.last ≡ First → Returns result old.first old.stale s left → IsPair (with_first old s left)
IsPair-returned-first result old s left i dark last r =
    let shape = shape-returned result old.first s old.stale left r in
    let leads : MayLead old.first.standing old.second.standing = subst (λ (w : Which). Leads w old.first.standing old.second.standing) last i.last in
    record {
      first = side-returned result old.first s old.stale left i.first r;
      second = i.second;
      shape = i.shape ∙ sym shape;
      marks = length-returned result old.first s old.stale left r ∙ i.marks ∙ ap (λ (sh : Shape). sh.pages) (sym shape);
      few = subst (λ (sh : Shape). sh.pages ≤ 16777216) (sym shape) i.few;
      last = subst (λ (w : Which). Leads w s.standing old.second.standing) (sym last) (leads-returned result old.first s old.stale left old.second.standing dark leads r);
    }

-- or the second
pub IsPair-returned-second : (result : Result Unit ReviveFault) (old : Pair) (s : Side) (left : List Bool) → IsPair old → is_good old.second ≡ false → old.last ≡ Second → Returns result old.second old.stale s left → IsPair (with_second old s left)
IsPair-returned-second result old s left i dark last r =
    let shape = shape-returned result old.second s old.stale left r in
    let leads : MayLead old.second.standing old.first.standing = subst (λ (w : Which). Leads w old.first.standing old.second.standing) last i.last in
    record {
      first = i.first;
      second = side-returned result old.second s old.stale left i.second r;
      shape = shape ∙ i.shape;
      marks = length-returned result old.second s old.stale left r ∙ i.marks;
      few = i.few;
      last = subst (λ (w : Which). Leads w old.first.standing s.standing) (sym last) (leads-returned result old.second s old.stale left old.first.standing dark leads r);
    }

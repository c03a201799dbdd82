use Rattle.std.proofs.Common.{arith, ap, sym, subst, true, false, ◌∙◌, ℕ}
use Rattle.std.specs.Prelude.{Result, Err}
use Rattle.envy_array.specs.Array.{Array}
use Rattle.envy_meaning.specs.Stands.{Stands}
use Rattle.envy_memory.specs.Calls.{Begins, Works}
use Rattle.envy_memory.specs.Picture.{Picture}
use Rattle.envy_memory.specs.declared.faults.BeginFault.{BeginFault}
use Rattle.envy_txn.specs.Owners.{Ownership}
use Rattle.envy_memory.proofs.Ended.{few-as, lit-ok, start-gone, words-as, start-any, and-true}
use Rattle.envy_memory.proofs.Pricing.{sheet-spends}
use Rattle.envy_memory.proofs.Transacting.{flag-is, never-busy, pages_of, sheet-keeps, shut-on, start-pages, started-kept, started-words, was-on}
use Rattle.envy_memory.proofs.one_tx.OneTxWords.start.Goals as goal

pub invariant_of-self : goal.invariant_of-self
invariant_of-self g c =
    let p = c.args.self.now.memory in
    let e = c.begin-begun.ensures in
    record {
      few = few-as p.chart c.begin-begun.new.self.chart (Works.shape e.below.works) c.args.self.now.few;
      held = start-any p.chart c.begin-begun.new.self.chart c.args.self.now.begun c.begin-begun.result c.requires c.args.self.now.held e.step e.off e.busy e.below.works;
    }

pub unreachable-requires : goal.unreachable-requires
unreachable-requires g c =
    let p = c.args.self.now.memory in
    let b = c.args.self.now.begun in
    let busy = c.begin-begun.ensures.busy.0 (c.in-Err-Busy.is ∙ ap (λ e. Err e) (rw c.in-Err-Busy.is at c.in-Err-Busy.field-0-is)) in
    never-busy p.chart busy.0 (flag-is p.chart b false (shut-on p.chart.on b busy.0 c.requires) c.args.self.now.held) busy.1

pub returns-in-Ok-clause-keeps : goal.returns-in-Ok-clause-keeps
returns-in-Ok-clause-keeps g c = sheet-keeps 0 0 c.args.self.now.memory c.begin-begun.new.self c.args.self.now.begun true c.begin-begun.ensures.below.works c.begin-begun.ensures.cut

pub returns-in-Err-Off-clause-keeps : goal.returns-in-Err-Off-clause-keeps
returns-in-Err-Off-clause-keeps g c = sheet-keeps 0 0 c.args.self.now.memory c.begin-begun.new.self c.args.self.now.begun true c.begin-begun.ensures.below.works c.begin-begun.ensures.cut

pub returns-in-Ok-clause-answer : goal.returns-in-Ok-clause-answer
returns-in-Ok-clause-answer g c =
    let p = c.args.self.now.memory in
    let q = c.begin-begun.new.self in
    let b = c.args.self.now.begun in
    let e = c.begin-begun.ensures in
    let lit = lit-ok q.chart.on c.in-Ok.field-0 _ c.begin-begun.result c.in-Ok.is e.off in
    let on = was-on 0 0 p.chart q.chart e.below.works lit in
    let shut = shut-on p.chart.on b on c.requires in
    let held = flag-is p.chart b false shut c.args.self.now.held in
    let same = ap (λ (x : Picture). x.owned) e.below.kept in (
      lit,
      and-true q.chart.on lit,
      started-words p q c.in-Ok.field-0 on lit held c.in-Ok.ensures.step ∙ sym (words-as p b false shut),
      started-kept p q c.in-Ok.field-0 on held c.in-Ok.ensures.step,
      ap (λ (o : Ownership). pages_of o.pairs) same ∙ start-pages p on held c.invariant_holds.ensures.unowned,
    )

pub returns-in-Err-Off-clause-answer : goal.returns-in-Err-Off-clause-answer
returns-in-Err-Off-clause-answer g c =
    let p = c.args.self.now.memory in
    let q = c.begin-begun.new.self in
    let b = c.args.self.now.begun in
    let e = c.begin-begun.ensures in
    let it = rw c.in-Err-Off.is at c.in-Err-Off.field-0-is in
    let is = c.in-Err-Off.is ∙ ap (λ x. Err x) it in
    let step = subst (λ (r : Result ℕ BeginFault). (m : Array) → Stands p.chart m → Begins m r q.chart) is e.step in
    (e.off.0 is, start-gone p.chart q.chart b c.requires c.args.self.now.held step e.below.works)

pub returns-in-Ok-clause-spends : goal.returns-in-Ok-clause-spends
returns-in-Ok-clause-spends g c = sheet-spends 1 0 0 c.args.self.now.memory c.begin-begun.new.self c.args.self.now.begun true (omega arith) (omega arith) c.begin-begun.ensures.below.works

pub returns-in-Err-Off-clause-spends : goal.returns-in-Err-Off-clause-spends
returns-in-Err-Off-clause-spends g c = sheet-spends 1 0 0 c.args.self.now.memory c.begin-begun.new.self c.args.self.now.begun true (omega arith) (omega arith) c.begin-begun.ensures.below.works

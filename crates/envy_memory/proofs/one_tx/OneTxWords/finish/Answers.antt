use Rattle.std.proofs.Common.{arith, ◌≡◌, ap, sym, subst, true, false, ◌∙◌, ◌⊎◌, List, ℕ}
use Rattle.std.specs.Prelude.{Result, Err}
use Rattle.envy_array.specs.Array.{Array}
use Rattle.envy_meaning.specs.Stands.{Stands}
use Rattle.envy_soundness.specs.Words.{durable}
use Rattle.envy_memory.specs.Calls.{Commits, Works}
use Rattle.envy_memory.specs.declared.faults.EndFault.{EndFault}
use Rattle.envy_memory.proofs.Ended.{few-as, lit-ok, and-false, finish-all, finish-kept, finish-lost, words-as}
use Rattle.envy_memory.proofs.Pricing.{sheet-spends}
use Rattle.envy_memory.proofs.Transacting.{flag-is, begun-on, is-active, sheet-keeps}
use Rattle.envy_memory.proofs.one_tx.OneTxWords.finish.Goals as goal

pub invariant_of-self : goal.invariant_of-self
invariant_of-self g c =
    let p = c.args.self.now.memory in
    let b = c.args.self.now.begun in
    let live = begun-on p.chart.on b c.requires in
    let e = c.commit-ended.ensures in
    record {
      few = few-as p.chart c.commit-ended.new.self.chart (Works.shape e.below.works) c.args.self.now.few;
      held = finish-all p.chart c.commit-ended.new.self.chart b c.commit-ended.result live.1 live.0 c.args.self.now.held e.step e.off e.closed;
    }

pub unreachable-requires : goal.unreachable-requires
unreachable-requires g c =
    let p = c.args.self.now.memory in
    let b = c.args.self.now.begun in
    let live = begun-on p.chart.on b c.requires in
    let closed = c.commit-ended.ensures.closed.0 (c.in-Err-Closed.is ∙ ap (λ e. Err e) (rw c.in-Err-Closed.is at c.in-Err-Closed.field-0-is)) in
    is-active p.chart live.0 (flag-is p.chart b true live.1 c.args.self.now.held) closed.1

pub returns-in-Ok-clause-keeps : goal.returns-in-Ok-clause-keeps
returns-in-Ok-clause-keeps g c = sheet-keeps 0 0 c.args.self.now.memory c.commit-ended.new.self c.args.self.now.begun false c.commit-ended.ensures.below.works c.commit-ended.ensures.cut

pub returns-in-Err-Off-clause-keeps : goal.returns-in-Err-Off-clause-keeps
returns-in-Err-Off-clause-keeps g c = sheet-keeps 0 0 c.args.self.now.memory c.commit-ended.new.self c.args.self.now.begun false c.commit-ended.ensures.below.works c.commit-ended.ensures.cut

pub returns-in-Ok-clause-answer : goal.returns-in-Ok-clause-answer
returns-in-Ok-clause-answer g c =
    let p = c.args.self.now.memory in
    let q = c.commit-ended.new.self in
    let b = c.args.self.now.begun in
    let live = begun-on p.chart.on b c.requires in
    let lit = lit-ok q.chart.on tt _ c.commit-ended.result c.in-Ok.is c.commit-ended.ensures.off in
    (lit, and-false q.chart.on, finish-kept p q.chart live.0 (flag-is p.chart b true live.1 c.args.self.now.held) c.in-Ok.ensures.step ∙ sym (words-as p b true live.1))

pub returns-in-Err-Off-clause-answer : goal.returns-in-Err-Off-clause-answer
returns-in-Err-Off-clause-answer g c =
    let p = c.args.self.now.memory in
    let q = c.commit-ended.new.self in
    let b = c.args.self.now.begun in
    let live = begun-on p.chart.on b c.requires in
    let e = c.commit-ended.ensures in
    let it = rw c.in-Err-Off.is at c.in-Err-Off.field-0-is in
    let is = c.in-Err-Off.is ∙ ap (λ x. Err x) it in
    let step = subst (λ (r : Result Unit EndFault). (m : Array) → Stands p.chart m → Commits m 0 r q.chart) is e.step in
    (e.off.0 is, subst (λ (ws : List ℕ). (durable q.chart ≡ durable p.chart) ⊎ (durable q.chart ≡ ws)) (sym (words-as p b true live.1)) (finish-lost p q.chart live.0 (flag-is p.chart b true live.1 c.args.self.now.held) step))

pub returns-in-Ok-clause-spends : goal.returns-in-Ok-clause-spends
returns-in-Ok-clause-spends g c = sheet-spends 0 0 0 c.args.self.now.memory c.commit-ended.new.self c.args.self.now.begun false (omega arith) (omega arith) c.commit-ended.ensures.below.works

pub returns-in-Err-Off-clause-spends : goal.returns-in-Err-Off-clause-spends
returns-in-Err-Off-clause-spends g c = sheet-spends 0 0 0 c.args.self.now.memory c.commit-ended.new.self c.args.self.now.begun false (omega arith) (omega arith) c.commit-ended.ensures.below.works

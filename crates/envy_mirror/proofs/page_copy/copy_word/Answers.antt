use Rattle.std.proofs.Common.{ℕ, set, Err, ◌∙◌, ap, arith}
use Rattle.envy_soundness.specs.Words.{live}
use Rattle.envy_memory.specs.declared.faults.StoreFault.{StoreFault}
use Rattle.envy_mirror.proofs.Closing.{closed-stored, closed-failed, never-held}
use Rattle.envy_mirror.proofs.page_copy.copy_word.Goals as goal

pub unreachable-requires-in-Err-Range : goal.unreachable-requires-in-Err-Range
unreachable-requires-in-Err-Range g c =
    let past = (c.in-Err-Range.ensures.range.0 (ap (λ (e : StoreFault). Err e) c.in-Err-Range.field-0-is)).1 in
    let within = c.requires.within in
    omega arith

pub returns-in-Ok-store-clause-closed : goal.returns-in-Ok-store-clause-closed
returns-in-Ok-store-clause-closed g c = λ _. (closed-stored c.args.to.now.chart c.store.new.self.chart c.args.a c.in-Ok.word c.store.ensures.below.works.shape (c.in-Ok-store.ensures.step _ c.requires.closed)).0

pub returns-in-Ok-store-clause-live : goal.returns-in-Ok-store-clause-live
returns-in-Ok-store-clause-live g c =
    let word = c.in-Ok.ensures.word in
    (closed-stored c.args.to.now.chart c.store.new.self.chart c.args.a c.in-Ok.word c.store.ensures.below.works.shape (c.in-Ok-store.ensures.step _ c.requires.closed)).1
    ∙ ap (λ (w : ℕ). set (live c.args.to.now.chart) c.args.a w) cc

pub returns-in-Err-Bad-clause-closed : goal.returns-in-Err-Bad-clause-closed
returns-in-Err-Bad-clause-closed g c =
    let e = rw c.in-Err-Bad.field-0-is at c.in-Err-Bad.ensures.step in
    λ _. (closed-failed c.args.to.now.chart c.store.new.self.chart c.args.a c.in-Ok.word c.store.ensures.below.works.shape (e _ c.requires.closed)).0

pub returns-in-Err-Bad-clause-bad : goal.returns-in-Err-Bad-clause-bad
returns-in-Err-Bad-clause-bad g c = λ _.
    let e = rw c.in-Err-Bad.field-0-is at c.in-Err-Bad.ensures.step in
    (closed-failed c.args.to.now.chart c.store.new.self.chart c.args.a c.in-Ok.word c.store.ensures.below.works.shape (e _ c.requires.closed)).1

pub unreachable-requires-in-Err-Held : goal.unreachable-requires-in-Err-Held
unreachable-requires-in-Err-Held g c =
    let e = rw c.in-Err-Held.field-0-is at c.in-Err-Held.ensures.step in
    never-held c.args.to.now.chart c.store.new.self.chart c.args.a c.in-Ok.word _ (e _ c.requires.closed)

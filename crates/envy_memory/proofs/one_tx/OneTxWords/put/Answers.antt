use Rattle.std.proofs.Common.{arith, sym, subst}
use Rattle.std.specs.Prelude.{Result}
use Rattle.envy_array.specs.Words.{Puts}
use Rattle.envy_base.specs.declared.board.Trouble.{Trouble}
use Rattle.envy_memory.specs.Below.{flush_erases, flush_programs}
use Rattle.envy_memory.specs.Calls.{Works}
use Rattle.envy_memory.specs.Sheets.{sheet_of}
use Rattle.envy_memory.proofs.Ended.{PutMeets, few-as, put-keeps, never-refused, put-works, put-answer}
use Rattle.envy_memory.proofs.Pricing.{sheet-spends}
use Rattle.envy_memory.proofs.Transacting.{begun-on}
use Rattle.envy_memory.proofs.one_tx.OneTxWords.put.Goals as goal

pub invariant_of-self : goal.invariant_of-self
invariant_of-self g c =
    let p = c.args.self.now.memory in
    let b = c.args.self.now.begun in
    let live = begun-on p.chart.on b c.requires.begun in
    record {
      few = few-as p.chart c.put.new.self.chart (Works.shape c.put.ensures.below.works) c.args.self.now.few;
      held = put-keeps p.chart c.put.new.self.chart b c.args.a c.args.w c.put.result live.1 live.0 c.args.self.now.held c.put.ensures.step c.put.ensures.off;
    }

pub trouble-requires : goal.trouble-requires
trouble-requires g c =
    let p = c.args.self.now.memory in
    let b = c.args.self.now.begun in
    let live = begun-on p.chart.on b c.requires.begun in
    let e = c.put.ensures in
    let meets : PutMeets p c.put.new.self b c.args.a c.args.w c.put.result = record { begun = live.1; on = live.0; held = c.args.self.now.held; address = c.requires.address; room = c.requires.room; step = e.step; off = e.off; cut = e.cut; range = e.range; closed = e.closed; full = e.full; bad = e.bad; below = e.below } in
    never-refused p c.put.new.self b c.args.a c.args.w c.put.result meets

pub returns-clause-works : goal.returns-clause-works
returns-clause-works g c =
    let p = c.args.self.now.memory in
    let b = c.args.self.now.begun in
    let live = begun-on p.chart.on b c.requires.begun in
    let e = c.put.ensures in
    let meets : PutMeets p c.put.new.self b c.args.a c.args.w c.put.result = record { begun = live.1; on = live.0; held = c.args.self.now.held; address = c.requires.address; room = c.requires.room; step = e.step; off = e.off; cut = e.cut; range = e.range; closed = e.closed; full = e.full; bad = e.bad; below = e.below } in
    put-works p c.put.new.self b c.args.a c.args.w c.put.result meets (never-refused p c.put.new.self b c.args.a c.args.w c.put.result meets)

pub returns-clause-answer : goal.returns-clause-answer
returns-clause-answer g c =
    let p = c.args.self.now.memory in
    let b = c.args.self.now.begun in
    let live = begun-on p.chart.on b c.requires.begun in
    let e = c.put.ensures in
    let meets : PutMeets p c.put.new.self b c.args.a c.args.w c.put.result = record { begun = live.1; on = live.0; held = c.args.self.now.held; address = c.requires.address; room = c.requires.room; step = e.step; off = e.off; cut = e.cut; range = e.range; closed = e.closed; full = e.full; bad = e.bad; below = e.below } in
    subst (λ (r : Result Unit Trouble). Puts (sheet_of p b) c.args.a c.args.w r (sheet_of c.put.new.self b)) (sym c.trouble.ensures) (put-answer p c.put.new.self b c.args.a c.args.w c.put.result meets (never-refused p c.put.new.self b c.args.a c.args.w c.put.result meets))

pub returns-clause-spends : goal.returns-clause-spends
returns-clause-spends g c = sheet-spends 1 (flush_programs c.args.self.now.memory.chart.shape.rows) flush_erases c.args.self.now.memory c.put.new.self c.args.self.now.begun c.args.self.now.begun (omega arith) (omega arith) c.put.ensures.below.works

use Rattle.std.proofs.Common.{◌/◌, arith, sym, subst}
use Rattle.std.specs.Prelude.{Result}
use Rattle.envy_array.specs.Words.{PutsRun}
use Rattle.envy_base.specs.declared.board.Trouble.{Trouble}
use Rattle.envy_memory.specs.Sheets.{sheet_of}
use Rattle.envy_memory.proofs.RunSheets.{Meets, RunLeaves, run-answers, run-few}
use Rattle.envy_memory.proofs.Transacting.{begun-on}
use Rattle.envy_memory.proofs.one_tx.OneTxWords.put_run.Goals as goal

pub invariant_of-self : goal.invariant_of-self
invariant_of-self g c =
    let p = c.args.self.now.memory in
    let b = c.args.self.now.begun in
    let live = begun-on p.chart.on b c.requires.begun in
    let meets : Meets b c.args.a c.args.list.now p = record { on = live.0; held = c.args.self.now.held; within = c.requires.within; page = c.requires.page; room = c.requires.room } in
    let leaves = run-answers b c.args.a c.put_run-answer.result.0 c.args.list.now c.put_run-answer.result.1 p c.put_run-answer.new.self live.1 meets (omega (arith, c.left-left.ensures)) c.put_run-answer.ensures.full c.put_run-answer.ensures.puts in
    record {
      few = run-few p c.put_run-answer.new.self b (c.args.a / 32) (RunLeaves.page leaves) c.args.self.now.few;
      held = RunLeaves.held leaves;
    }

pub trouble-requires : goal.trouble-requires
trouble-requires g c =
    let p = c.args.self.now.memory in
    let b = c.args.self.now.begun in
    let live = begun-on p.chart.on b c.requires.begun in
    let meets : Meets b c.args.a c.args.list.now p = record { on = live.0; held = c.args.self.now.held; within = c.requires.within; page = c.requires.page; room = c.requires.room } in
    RunLeaves.fine (run-answers b c.args.a c.put_run-answer.result.0 c.args.list.now c.put_run-answer.result.1 p c.put_run-answer.new.self live.1 meets (omega (arith, c.left-left.ensures)) c.put_run-answer.ensures.full c.put_run-answer.ensures.puts)

pub returns-clause-works : goal.returns-clause-works
returns-clause-works g c =
    let p = c.args.self.now.memory in
    let b = c.args.self.now.begun in
    let live = begun-on p.chart.on b c.requires.begun in
    let meets : Meets b c.args.a c.args.list.now p = record { on = live.0; held = c.args.self.now.held; within = c.requires.within; page = c.requires.page; room = c.requires.room } in
    RunLeaves.page (run-answers b c.args.a c.put_run-answer.result.0 c.args.list.now c.put_run-answer.result.1 p c.put_run-answer.new.self live.1 meets (omega (arith, c.left-left.ensures)) c.put_run-answer.ensures.full c.put_run-answer.ensures.puts)

pub returns-clause-spends : goal.returns-clause-spends
returns-clause-spends g c =
    let p = c.args.self.now.memory in
    let b = c.args.self.now.begun in
    let live = begun-on p.chart.on b c.requires.begun in
    let meets : Meets b c.args.a c.args.list.now p = record { on = live.0; held = c.args.self.now.held; within = c.requires.within; page = c.requires.page; room = c.requires.room } in
    RunLeaves.spends (run-answers b c.args.a c.put_run-answer.result.0 c.args.list.now c.put_run-answer.result.1 p c.put_run-answer.new.self live.1 meets (omega (arith, c.left-left.ensures)) c.put_run-answer.ensures.full c.put_run-answer.ensures.puts)

pub returns-clause-answer : goal.returns-clause-answer
returns-clause-answer g c =
    let p = c.args.self.now.memory in
    let b = c.args.self.now.begun in
    let live = begun-on p.chart.on b c.requires.begun in
    let meets : Meets b c.args.a c.args.list.now p = record { on = live.0; held = c.args.self.now.held; within = c.requires.within; page = c.requires.page; room = c.requires.room } in
    let leaves = run-answers b c.args.a c.put_run-answer.result.0 c.args.list.now c.put_run-answer.result.1 p c.put_run-answer.new.self live.1 meets (omega (arith, c.left-left.ensures)) c.put_run-answer.ensures.full c.put_run-answer.ensures.puts in
    subst (λ (r : Result Unit Trouble). PutsRun (sheet_of p b) c.args.a c.args.list.now r (sheet_of c.put_run-answer.new.self b)) (sym c.trouble.ensures) (RunLeaves.puts leaves)

use Rattle.std.proofs.Common.{arith}
use Rattle.std.specs.Prelude.{slice_set}
use Rattle.envy_array.specs.Array.{page_of, put_back}
use Rattle.envy_tpca.specs.Tpc.{deltas_of}
use Rattle.envy_tpca.specs.Trial.{balances_of}
use Rattle.envy_tpca.proofs.Loading.{accessed-more, where-done}
use Rattle.envy_tpca.proofs.Calling.{put-ok, put-err}
use Rattle.envy_tpca.proofs.Chaining.{new_account, new_teller, first-add, second-add, third-add, same-delta, add-at, put-fails}
use Rattle.envy_tpca.proofs.trial.put_balances.Goals as goal

pub returns-in_err-add-clause-after : goal.returns-in_err-add-clause-after
returns-in_err-add-clause-after g c = λ n first l size ts before run tried.
    let same = same-delta c.args.t.delta tried.range.delta in
    let five = tried.room in
    let x = deltas_of (λ s. s.account) c.args.t.account ts in
    let w = slice_set before c.args.at.account (new_account ts c.args.t) in
    let a = add-at n first before before c.args.slot 0 0 c.args.at.account x c.args.t.delta _ c.add.result c.add.new.memory same (first-add _ l size ts before _ c.args.t c.args.at tried) (omega arith) (c.add.ensures.after n first before before 0 1 0 x run) in
    put-fails n first before (put_back (balances_of c.args.at ts c.args.t) before) c.args.slot 3 (page_of c.args.at.branch) c.from_residual.result c.add.new.memory c.in_err-add.field-0.0
    (put-err n first before w c.args.slot 1 (page_of c.args.at.account) c.add.result c.add.new.memory c.in_err-add.field-0.0 a c.in_err-add.was) c.from_residual.ensures.0 c.from_residual.ensures.1

pub returns-in_err-add-2-clause-after : goal.returns-in_err-add-2-clause-after
returns-in_err-add-2-clause-after g c = λ n first l size ts before run tried.
    let same = same-delta c.args.t.delta tried.range.delta in
    let five = tried.room in
    let x = deltas_of (λ s. s.account) c.args.t.account ts in
    let y = deltas_of (λ s. s.teller) c.args.t.teller ts in
    let w = slice_set before c.args.at.account (new_account ts c.args.t) in
    let v = slice_set w c.args.at.teller (new_teller ts c.args.t) in
    let a = add-at n first before before c.args.slot 0 0 c.args.at.account x c.args.t.delta _ c.add.result c.add.new.memory same (first-add _ l size ts before _ c.args.t c.args.at tried) (omega arith) (c.add.ensures.after n first before before 0 1 0 x run) in
    let run1 = put-ok n first before w c.args.slot 1 (page_of c.args.at.account) c.add.result c.add.new.memory _ a c.in_ok-add.was in
    let b = add-at n first before w c.args.slot 1 (page_of c.args.at.account) c.args.at.teller y c.args.t.delta _ c.add-2.result c.add-2.new.memory same (second-add _ l size ts before _ c.args.t c.args.at tried) (omega arith) (c.add-2.ensures.after n first before w 1 2 (page_of c.args.at.account) y run1) in
    put-fails n first before (put_back (balances_of c.args.at ts c.args.t) before) c.args.slot 3 (page_of c.args.at.branch) c.from_residual-in_err-add-2.result c.add-2.new.memory c.in_err-add-2.field-0.0
    (put-err n first before v c.args.slot 2 (page_of c.args.at.teller) c.add-2.result c.add-2.new.memory c.in_err-add-2.field-0.0 b c.in_err-add-2.was) c.from_residual-in_err-add-2.ensures.0 c.from_residual-in_err-add-2.ensures.1

pub returns-clause-after : goal.returns-clause-after
returns-clause-after g c = λ n first l size ts before run tried.
    let same = same-delta c.args.t.delta tried.range.delta in
    let five = tried.room in
    let x = deltas_of (λ s. s.account) c.args.t.account ts in
    let y = deltas_of (λ s. s.teller) c.args.t.teller ts in
    let z = deltas_of (λ s. s.branch) c.args.t.branch ts in
    let w = slice_set before c.args.at.account (new_account ts c.args.t) in
    let v = slice_set w c.args.at.teller (new_teller ts c.args.t) in
    let a = add-at n first before before c.args.slot 0 0 c.args.at.account x c.args.t.delta _ c.add.result c.add.new.memory same (first-add _ l size ts before _ c.args.t c.args.at tried) (omega arith) (c.add.ensures.after n first before before 0 1 0 x run) in
    let run1 = put-ok n first before w c.args.slot 1 (page_of c.args.at.account) c.add.result c.add.new.memory _ a c.in_ok-add.was in
    let b = add-at n first before w c.args.slot 1 (page_of c.args.at.account) c.args.at.teller y c.args.t.delta _ c.add-2.result c.add-2.new.memory same (second-add _ l size ts before _ c.args.t c.args.at tried) (omega arith) (c.add-2.ensures.after n first before w 1 2 (page_of c.args.at.account) y run1) in
    let run2 = put-ok n first before v c.args.slot 2 (page_of c.args.at.teller) c.add-2.result c.add-2.new.memory _ b c.in_ok-add-2.was in
    add-at n first before v c.args.slot 2 (page_of c.args.at.teller) c.args.at.branch z c.args.t.delta _ c.add-3.result c.add-3.new.memory same (third-add _ l size ts before _ c.args.t c.args.at tried) (omega arith) (c.add-3.ensures.after n first before v 2 3 (page_of c.args.at.teller) z run2)

pub returns-clause-accessed : goal.returns-clause-accessed
returns-clause-accessed g c =
    let four = accessed-more 2 2 c.args.memory.now.parts.cache c.add.new.memory.parts.cache c.add-2.new.memory.parts.cache c.in_ok-add.ensures.accessed c.in_ok-add-2.ensures.accessed in
    where-done c.add-3.result (accessed-more 4 2 c.args.memory.now.parts.cache c.add-2.new.memory.parts.cache c.add-3.new.memory.parts.cache four) c.add-3.ensures.accessed

use Rattle.std.proofs.Common.{ℕ, List, arith, ◌+◌, ◌∙◌, ap, sym, subst}
use Rattle.std.specs.Prelude.{slice_set}
use Rattle.envy_array.specs.Array.{page_of, put_back}
use Rattle.envy_tpca.specs.Trial.{balances_of, row_of, writes, IsTried}
use Rattle.envy_tpca.specs.Trying.{AfterTry}
use Rattle.envy_tpca.proofs.Loading.{accessed-more, where-done}
use Rattle.envy_tpca.proofs.Calling.{begin-ok, begin-err, put-ok, put-err}
use Rattle.envy_tpca.proofs.Chaining.{row-roomy, count-within, all-eight, widens-first, try-fails}
use Rattle.envy_tpca.proofs.trial.try_transfer.Goals as goal

pub returns-in_err-slot-clause-after : goal.returns-in_err-slot-clause-after
returns-in_err-slot-clause-after g c = λ n first l size ts before rests since tried.
    try-fails n first before (put_back (writes l ts c.args.t) before) c.from_residual.result c.open.new.memory c.in_err-slot.field-0.0
    (begin-err n first before c.open.result c.open.new.memory c.in_err-slot.field-0.0 (c.open.ensures.after n first before rests since) c.in_err-slot.was) c.from_residual.ensures.0 c.from_residual.ensures.1

pub returns-in_err-put_balances-clause-after : goal.returns-in_err-put_balances-clause-after
returns-in_err-put_balances-clause-after g c = λ n first l size ts before rests since tried.
    let run = begin-ok n first before c.in_ok-slot.slot c.open.result c.open.new.memory (c.open.ensures.after n first before rests since) c.in_ok-slot.was in
    let counted = subst (λ (k : ℕ). IsTried first.chart.shape.shadows l size ts before k c.args.t c.args.at) (sym tried.count) tried in
    let w = put_back (balances_of c.args.at ts c.args.t) before in
    let a = c.put_balances.ensures.after n first l size ts before run counted in
    try-fails n first before (put_back (writes l ts c.args.t) before) c.from_residual-in_err-put_balances.result c.put_balances.new.memory c.in_err-put_balances.field-0.0
    (put-err n first before w c.in_ok-slot.slot 3 (page_of c.args.at.branch) c.put_balances.result c.put_balances.new.memory c.in_err-put_balances.field-0.0 a c.in_err-put_balances.was) c.from_residual-in_err-put_balances.ensures.0 c.from_residual-in_err-put_balances.ensures.1

pub returns-in_err-put_row-clause-after : goal.returns-in_err-put_row-clause-after
returns-in_err-put_row-clause-after g c = λ n first l size ts before rests since tried.
    let run = begin-ok n first before c.in_ok-slot.slot c.open.result c.open.new.memory (c.open.ensures.after n first before rests since) c.in_ok-slot.was in
    let counted = subst (λ (k : ℕ). IsTried first.chart.shape.shadows l size ts before k c.args.t c.args.at) (sym tried.count) tried in
    let w = put_back (balances_of c.args.at ts c.args.t) before in
    let v = put_back (row_of c.args.at.row c.args.t) w in
    let a = c.put_balances.ensures.after n first l size ts before run counted in
    let run1 = put-ok n first before w c.in_ok-slot.slot 3 (page_of c.args.at.branch) c.put_balances.result c.put_balances.new.memory _ a c.in_ok-put_balances.was in
    let b = c.put_row.ensures.after n first before w (page_of c.args.at.branch) run1 (row-roomy _ l size ts before _ c.args.t c.args.at tried) in
    try-fails n first before (put_back (writes l ts c.args.t) before) c.from_residual-in_err-put_row.result c.put_row.new.memory c.in_err-put_row.field-0.0
    (put-err n first before v c.in_ok-slot.slot 4 (page_of c.args.at.row) c.put_row.result c.put_row.new.memory c.in_err-put_row.field-0.0 b c.in_err-put_row.was) c.from_residual-in_err-put_row.ensures.0 c.from_residual-in_err-put_row.ensures.1

pub returns-in_err-put_word-clause-after : goal.returns-in_err-put_word-clause-after
returns-in_err-put_word-clause-after g c = λ n first l size ts before rests since tried.
    let five = tried.room in
    let run = begin-ok n first before c.in_ok-slot.slot c.open.result c.open.new.memory (c.open.ensures.after n first before rests since) c.in_ok-slot.was in
    let counted = subst (λ (k : ℕ). IsTried first.chart.shape.shadows l size ts before k c.args.t c.args.at) (sym tried.count) tried in
    let w = put_back (balances_of c.args.at ts c.args.t) before in
    let v = put_back (row_of c.args.at.row c.args.t) w in
    let a = c.put_balances.ensures.after n first l size ts before run counted in
    let run1 = put-ok n first before w c.in_ok-slot.slot 3 (page_of c.args.at.branch) c.put_balances.result c.put_balances.new.memory _ a c.in_ok-put_balances.was in
    let roomy = row-roomy _ l size ts before _ c.args.t c.args.at tried in
    let b = c.put_row.ensures.after n first before w (page_of c.args.at.branch) run1 roomy in
    let run2 = put-ok n first before v c.in_ok-slot.slot 4 (page_of c.args.at.row) c.put_row.result c.put_row.new.memory _ b c.in_ok-put_row.was in
    let d = c.put_word.ensures.after n first before v 4 5 (page_of c.args.at.row) run2 (count-within _ w c.args.at.row c.args.t roomy) (widens-first first.chart.shape.shadows (page_of c.args.at.row) (page_of 0) 4 (omega arith)) in
    try-fails n first before (put_back (writes l ts c.args.t) before) c.from_residual-in_err-put_word.result c.put_word.new.memory c.in_err-put_word.field-0.0
    (put-err n first before (slice_set v 0 (c.from.result + 1)) c.in_ok-slot.slot 5 (page_of 0) c.put_word.result c.put_word.new.memory c.in_err-put_word.field-0.0 d c.in_err-put_word.was) c.from_residual-in_err-put_word.ensures.0 c.from_residual-in_err-put_word.ensures.1

pub returns-clause-after : goal.returns-clause-after
returns-clause-after g c = λ n first l size ts before rests since tried.
    let five = tried.room in
    let run = begin-ok n first before c.in_ok-slot.slot c.open.result c.open.new.memory (c.open.ensures.after n first before rests since) c.in_ok-slot.was in
    let counted = subst (λ (k : ℕ). IsTried first.chart.shape.shadows l size ts before k c.args.t c.args.at) (sym tried.count) tried in
    let w = put_back (balances_of c.args.at ts c.args.t) before in
    let v = put_back (row_of c.args.at.row c.args.t) w in
    let a = c.put_balances.ensures.after n first l size ts before run counted in
    let run1 = put-ok n first before w c.in_ok-slot.slot 3 (page_of c.args.at.branch) c.put_balances.result c.put_balances.new.memory _ a c.in_ok-put_balances.was in
    let roomy = row-roomy _ l size ts before _ c.args.t c.args.at tried in
    let b = c.put_row.ensures.after n first before w (page_of c.args.at.branch) run1 roomy in
    let run2 = put-ok n first before v c.in_ok-slot.slot 4 (page_of c.args.at.row) c.put_row.result c.put_row.new.memory _ b c.in_ok-put_row.was in
    let d = c.put_word.ensures.after n first before v 4 5 (page_of c.args.at.row) run2 (count-within _ w c.args.at.row c.args.t roomy) (widens-first first.chart.shape.shadows (page_of c.args.at.row) (page_of 0) 4 (omega arith)) in
    let run3 = put-ok n first before (slice_set v 0 (c.from.result + 1)) c.in_ok-slot.slot 5 (page_of 0) c.put_word.result c.put_word.new.memory _ d c.in_ok-put_word.was in
    let e = c.close.ensures.after n first before (slice_set v 0 (c.from.result + 1)) 5 (page_of 0) run3 in
    subst (λ (ws : List ℕ). AfterTry n first before ws c.close.result c.close.new.memory)
    (ap (λ (k : ℕ). slice_set v 0 (k + 1)) c.from.ensures ∙ all-eight l ts c.args.i c.args.t c.args.at before tried.count tried.spots) e

pub returns-clause-accessed : goal.returns-clause-accessed
returns-clause-accessed g c =
    let start = c.args.memory.now.parts.cache in
    let six = accessed-more 0 6 start c.open.new.memory.parts.cache c.put_balances.new.memory.parts.cache c.in_ok-slot.ensures.accessed c.in_ok-put_balances.ensures.accessed in
    let ten = accessed-more 6 4 start c.put_balances.new.memory.parts.cache c.put_row.new.memory.parts.cache six c.in_ok-put_row.ensures.accessed in
    let eleven = accessed-more 10 1 start c.put_row.new.memory.parts.cache c.put_word.new.memory.parts.cache ten c.in_ok-put_word.ensures.accessed in
    where-done c.close.result (accessed-more 11 0 start c.put_word.new.memory.parts.cache c.close.new.memory.parts.cache eleven) c.close.ensures.accessed

use Rattle.std.proofs.Common.{arith, ◌+◌, ◌∙◌, ap, sym}
use Rattle.std.proofs.Common.{w64}
use Rattle.std.specs.Int.{cast_unsigned}
use Rattle.std.specs.Prelude.{slice_set}
use Rattle.envy_array.specs.Array.{page_of, put_back}
use Rattle.envy_tpca.specs.Trial.{row_of}
use Rattle.envy_tpca.proofs.Loading.{accessed-more, where-done}
use Rattle.envy_tpca.proofs.Calling.{put-ok, put-err}
use Rattle.envy_tpca.proofs.Totals.{as_word-is}
use Rattle.envy_tpca.proofs.Chaining.{widens-first, widens-next, widens-row, row-within, row-within-2, row-within-3, row-done, put-fails, same-delta}
use Rattle.envy_tpca.proofs.trial.put_row.Goals as goal

pub returns-in_err-put_word-clause-after : goal.returns-in_err-put_word-clause-after
returns-in_err-put_word-clause-after g c = λ n first before now last run roomy.
    let five = roomy.room in
    let whole = roomy.whole in
    let le = roomy.within in
    let a0 = c.put_word.ensures.after n first before now 3 4 last run (omega arith) (widens-first first.chart.shape.shadows last (page_of c.args.row) 3 (omega arith)) in
    put-fails n first before (put_back (row_of c.args.row c.args.t) now) c.args.slot 4 (page_of c.args.row) c.from_residual.result c.put_word.new.memory c.in_err-put_word.field-0.0
    (put-err n first before (slice_set now c.args.row c.from.result) c.args.slot 4 (page_of c.args.row) c.put_word.result c.put_word.new.memory c.in_err-put_word.field-0.0 a0 c.in_err-put_word.was) c.from_residual.ensures.0 c.from_residual.ensures.1

pub returns-in_err-put_word-2-clause-after : goal.returns-in_err-put_word-2-clause-after
returns-in_err-put_word-2-clause-after g c = λ n first before now last run roomy.
    let five = roomy.room in
    let whole = roomy.whole in
    let le = roomy.within in
    let a0 = c.put_word.ensures.after n first before now 3 4 last run (omega arith) (widens-first first.chart.shape.shadows last (page_of c.args.row) 3 (omega arith)) in
    let run1 = put-ok n first before (slice_set now c.args.row c.from.result) c.args.slot 4 (page_of c.args.row) c.put_word.result c.put_word.new.memory _ a0 c.in_ok-put_word.was in
    let a1 = c.put_word-2.ensures.after n first before (slice_set now c.args.row c.from.result) 4 4 (page_of c.args.row) run1 (row-within now c.args.row 1 c.from.result le (omega arith)) (widens-next first.chart.shape.shadows c.args.row 1 whole (omega arith)) in
    put-fails n first before (put_back (row_of c.args.row c.args.t) now) c.args.slot 4 (page_of c.args.row) c.from_residual-in_err-put_word-2.result c.put_word-2.new.memory c.in_err-put_word-2.field-0.0
    (put-err n first before (slice_set (slice_set now c.args.row c.from.result) (c.args.row + 1) c.from-2.result) c.args.slot 4 (page_of (c.args.row + 1)) c.put_word-2.result c.put_word-2.new.memory c.in_err-put_word-2.field-0.0 a1 c.in_err-put_word-2.was) c.from_residual-in_err-put_word-2.ensures.0 c.from_residual-in_err-put_word-2.ensures.1

pub returns-in_err-put_word-3-clause-after : goal.returns-in_err-put_word-3-clause-after
returns-in_err-put_word-3-clause-after g c = λ n first before now last run roomy.
    let five = roomy.room in
    let whole = roomy.whole in
    let le = roomy.within in
    let a0 = c.put_word.ensures.after n first before now 3 4 last run (omega arith) (widens-first first.chart.shape.shadows last (page_of c.args.row) 3 (omega arith)) in
    let run1 = put-ok n first before (slice_set now c.args.row c.from.result) c.args.slot 4 (page_of c.args.row) c.put_word.result c.put_word.new.memory _ a0 c.in_ok-put_word.was in
    let a1 = c.put_word-2.ensures.after n first before (slice_set now c.args.row c.from.result) 4 4 (page_of c.args.row) run1 (row-within now c.args.row 1 c.from.result le (omega arith)) (widens-next first.chart.shape.shadows c.args.row 1 whole (omega arith)) in
    let run2 = put-ok n first before (slice_set (slice_set now c.args.row c.from.result) (c.args.row + 1) c.from-2.result) c.args.slot 4 (page_of (c.args.row + 1)) c.put_word-2.result c.put_word-2.new.memory _ a1 c.in_ok-put_word-2.was in
    let a2 = c.put_word-3.ensures.after n first before (slice_set (slice_set now c.args.row c.from.result) (c.args.row + 1) c.from-2.result) 4 4 (page_of (c.args.row + 1)) run2 (row-within-2 now c.args.row 2 c.from.result c.from-2.result le (omega arith)) (widens-row first.chart.shape.shadows c.args.row 1 2 whole (omega arith) (omega arith)) in
    put-fails n first before (put_back (row_of c.args.row c.args.t) now) c.args.slot 4 (page_of c.args.row) c.from_residual-in_err-put_word-3.result c.put_word-3.new.memory c.in_err-put_word-3.field-0.0
    (put-err n first before (slice_set (slice_set (slice_set now c.args.row c.from.result) (c.args.row + 1) c.from-2.result) (c.args.row + 2) c.from-3.result) c.args.slot 4 (page_of (c.args.row + 2)) c.put_word-3.result c.put_word-3.new.memory c.in_err-put_word-3.field-0.0 a2 c.in_err-put_word-3.was) c.from_residual-in_err-put_word-3.ensures.0 c.from_residual-in_err-put_word-3.ensures.1

pub returns-clause-after : goal.returns-clause-after
returns-clause-after g c = λ n first before now last run roomy.
    let five = roomy.room in
    let whole = roomy.whole in
    let le = roomy.within in
    let a0 = c.put_word.ensures.after n first before now 3 4 last run (omega arith) (widens-first first.chart.shape.shadows last (page_of c.args.row) 3 (omega arith)) in
    let run1 = put-ok n first before (slice_set now c.args.row c.from.result) c.args.slot 4 (page_of c.args.row) c.put_word.result c.put_word.new.memory _ a0 c.in_ok-put_word.was in
    let a1 = c.put_word-2.ensures.after n first before (slice_set now c.args.row c.from.result) 4 4 (page_of c.args.row) run1 (row-within now c.args.row 1 c.from.result le (omega arith)) (widens-next first.chart.shape.shadows c.args.row 1 whole (omega arith)) in
    let run2 = put-ok n first before (slice_set (slice_set now c.args.row c.from.result) (c.args.row + 1) c.from-2.result) c.args.slot 4 (page_of (c.args.row + 1)) c.put_word-2.result c.put_word-2.new.memory _ a1 c.in_ok-put_word-2.was in
    let a2 = c.put_word-3.ensures.after n first before (slice_set (slice_set now c.args.row c.from.result) (c.args.row + 1) c.from-2.result) 4 4 (page_of (c.args.row + 1)) run2 (row-within-2 now c.args.row 2 c.from.result c.from-2.result le (omega arith)) (widens-row first.chart.shape.shadows c.args.row 1 2 whole (omega arith) (omega arith)) in
    let run3 = put-ok n first before (slice_set (slice_set (slice_set now c.args.row c.from.result) (c.args.row + 1) c.from-2.result) (c.args.row + 2) c.from-3.result) c.args.slot 4 (page_of (c.args.row + 2)) c.put_word-3.result c.put_word-3.new.memory _ a2 c.in_ok-put_word-3.was in
    let a3 = c.put_word-4.ensures.after n first before (slice_set (slice_set (slice_set now c.args.row c.from.result) (c.args.row + 1) c.from-2.result) (c.args.row + 2) c.from-3.result) 4 4 (page_of (c.args.row + 2)) run3 (row-within-3 now c.args.row 3 c.from.result c.from-2.result c.from-3.result le (omega arith)) (widens-row first.chart.shape.shadows c.args.row 2 3 whole (omega arith) (omega arith)) in
    row-done n first before now c.args.slot c.args.row c.from.result c.from-2.result c.from-3.result c.cast_unsigned.result c.args.t c.put_word-4.result c.put_word-4.new.memory whole c.from.ensures c.from-2.ensures c.from-3.ensures (c.cast_unsigned.ensures ∙ ap (cast_unsigned w64) (same-delta c.args.t.delta roomy.delta) ∙ sym (as_word-is c.args.t.delta)) a3

pub returns-clause-accessed : goal.returns-clause-accessed
returns-clause-accessed g c =
    let start = c.args.memory.now.parts.cache in
    let two = accessed-more 1 1 start c.put_word.new.memory.parts.cache c.put_word-2.new.memory.parts.cache c.in_ok-put_word.ensures.accessed c.in_ok-put_word-2.ensures.accessed in
    let three = accessed-more 2 1 start c.put_word-2.new.memory.parts.cache c.put_word-3.new.memory.parts.cache two c.in_ok-put_word-3.ensures.accessed in
    where-done c.put_word-4.result (accessed-more 3 1 start c.put_word-3.new.memory.parts.cache c.put_word-4.new.memory.parts.cache three) c.put_word-4.ensures.accessed

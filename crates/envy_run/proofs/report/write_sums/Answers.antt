use Rattle.std.specs.Prelude.{◌++◌, codes, Ok, Err}
use Rattle.std.proofs.lemmas.Result.{err_from_is_err_and}
use Rattle.std.specs.Fmt.{signed_decimal}
use Rattle.envy_run.specs.Drives.{named}
use Rattle.envy_run.proofs.Reporting.{then-more, then-none}
use Rattle.envy_run.proofs.report.write_sums.Goals as goal

pub returns-in_err-write_sum : goal.returns-in_err-write_sum
returns-in_err-write_sum g c =
    let p = err_from_is_err_and c.from_residual.result c.from_residual.ensures.1 in
    rw p.1 (then-none (named (codes "branches ") (signed_decimal c.args.sums.now.branches) ++ named (codes "tellers ") (signed_decimal c.args.sums.now.tellers) ++ named (codes "accounts ") (signed_decimal c.args.sums.now.accounts) ++ named (codes "history ") (signed_decimal c.args.sums.now.history)) (named (codes "deltas ") (signed_decimal c.args.sums.now.deltas)) (g.K.Sink.drain c.args.sink.now) (g.K.Sink.drain c.write_sum.new.sink) p.0 (then-none (named (codes "branches ") (signed_decimal c.args.sums.now.branches) ++ named (codes "tellers ") (signed_decimal c.args.sums.now.tellers) ++ named (codes "accounts ") (signed_decimal c.args.sums.now.accounts)) (named (codes "history ") (signed_decimal c.args.sums.now.history)) (g.K.Sink.drain c.args.sink.now) (g.K.Sink.drain c.write_sum.new.sink) p.0 (then-none (named (codes "branches ") (signed_decimal c.args.sums.now.branches) ++ named (codes "tellers ") (signed_decimal c.args.sums.now.tellers)) (named (codes "accounts ") (signed_decimal c.args.sums.now.accounts)) (g.K.Sink.drain c.args.sink.now) (g.K.Sink.drain c.write_sum.new.sink) p.0 (then-none (named (codes "branches ") (signed_decimal c.args.sums.now.branches)) (named (codes "tellers ") (signed_decimal c.args.sums.now.tellers)) (g.K.Sink.drain c.args.sink.now) (g.K.Sink.drain c.write_sum.new.sink) p.0 c.in_err-write_sum.ensures))))

pub returns-in_err-write_sum-2 : goal.returns-in_err-write_sum-2
returns-in_err-write_sum-2 g c =
    let p = err_from_is_err_and c.from_residual-in_err-write_sum-2.result c.from_residual-in_err-write_sum-2.ensures.1 in
    rw p.1 (then-none (named (codes "branches ") (signed_decimal c.args.sums.now.branches) ++ named (codes "tellers ") (signed_decimal c.args.sums.now.tellers) ++ named (codes "accounts ") (signed_decimal c.args.sums.now.accounts) ++ named (codes "history ") (signed_decimal c.args.sums.now.history)) (named (codes "deltas ") (signed_decimal c.args.sums.now.deltas)) (g.K.Sink.drain c.args.sink.now) (g.K.Sink.drain c.write_sum-2.new.sink) p.0 (then-none (named (codes "branches ") (signed_decimal c.args.sums.now.branches) ++ named (codes "tellers ") (signed_decimal c.args.sums.now.tellers) ++ named (codes "accounts ") (signed_decimal c.args.sums.now.accounts)) (named (codes "history ") (signed_decimal c.args.sums.now.history)) (g.K.Sink.drain c.args.sink.now) (g.K.Sink.drain c.write_sum-2.new.sink) p.0 (then-none (named (codes "branches ") (signed_decimal c.args.sums.now.branches) ++ named (codes "tellers ") (signed_decimal c.args.sums.now.tellers)) (named (codes "accounts ") (signed_decimal c.args.sums.now.accounts)) (g.K.Sink.drain c.args.sink.now) (g.K.Sink.drain c.write_sum-2.new.sink) p.0 (then-more (named (codes "branches ") (signed_decimal c.args.sums.now.branches)) (named (codes "tellers ") (signed_decimal c.args.sums.now.tellers)) (g.K.Sink.drain c.args.sink.now) (g.K.Sink.drain c.write_sum.new.sink) (g.K.Sink.drain c.write_sum-2.new.sink) (Err p.0) c.in_ok-write_sum.ensures c.in_err-write_sum-2.ensures))))

pub returns-in_err-write_sum-3 : goal.returns-in_err-write_sum-3
returns-in_err-write_sum-3 g c =
    let p = err_from_is_err_and c.from_residual-in_err-write_sum-3.result c.from_residual-in_err-write_sum-3.ensures.1 in
    rw p.1 (then-none (named (codes "branches ") (signed_decimal c.args.sums.now.branches) ++ named (codes "tellers ") (signed_decimal c.args.sums.now.tellers) ++ named (codes "accounts ") (signed_decimal c.args.sums.now.accounts) ++ named (codes "history ") (signed_decimal c.args.sums.now.history)) (named (codes "deltas ") (signed_decimal c.args.sums.now.deltas)) (g.K.Sink.drain c.args.sink.now) (g.K.Sink.drain c.write_sum-3.new.sink) p.0 (then-none (named (codes "branches ") (signed_decimal c.args.sums.now.branches) ++ named (codes "tellers ") (signed_decimal c.args.sums.now.tellers) ++ named (codes "accounts ") (signed_decimal c.args.sums.now.accounts)) (named (codes "history ") (signed_decimal c.args.sums.now.history)) (g.K.Sink.drain c.args.sink.now) (g.K.Sink.drain c.write_sum-3.new.sink) p.0 (then-more (named (codes "branches ") (signed_decimal c.args.sums.now.branches) ++ named (codes "tellers ") (signed_decimal c.args.sums.now.tellers)) (named (codes "accounts ") (signed_decimal c.args.sums.now.accounts)) (g.K.Sink.drain c.args.sink.now) (g.K.Sink.drain c.write_sum-2.new.sink) (g.K.Sink.drain c.write_sum-3.new.sink) (Err p.0) (then-more (named (codes "branches ") (signed_decimal c.args.sums.now.branches)) (named (codes "tellers ") (signed_decimal c.args.sums.now.tellers)) (g.K.Sink.drain c.args.sink.now) (g.K.Sink.drain c.write_sum.new.sink) (g.K.Sink.drain c.write_sum-2.new.sink) (Ok tt) c.in_ok-write_sum.ensures c.in_ok-write_sum-2.ensures) c.in_err-write_sum-3.ensures)))

pub returns-in_err-write_sum-4 : goal.returns-in_err-write_sum-4
returns-in_err-write_sum-4 g c =
    let p = err_from_is_err_and c.from_residual-in_err-write_sum-4.result c.from_residual-in_err-write_sum-4.ensures.1 in
    rw p.1 (then-none (named (codes "branches ") (signed_decimal c.args.sums.now.branches) ++ named (codes "tellers ") (signed_decimal c.args.sums.now.tellers) ++ named (codes "accounts ") (signed_decimal c.args.sums.now.accounts) ++ named (codes "history ") (signed_decimal c.args.sums.now.history)) (named (codes "deltas ") (signed_decimal c.args.sums.now.deltas)) (g.K.Sink.drain c.args.sink.now) (g.K.Sink.drain c.write_sum-4.new.sink) p.0 (then-more (named (codes "branches ") (signed_decimal c.args.sums.now.branches) ++ named (codes "tellers ") (signed_decimal c.args.sums.now.tellers) ++ named (codes "accounts ") (signed_decimal c.args.sums.now.accounts)) (named (codes "history ") (signed_decimal c.args.sums.now.history)) (g.K.Sink.drain c.args.sink.now) (g.K.Sink.drain c.write_sum-3.new.sink) (g.K.Sink.drain c.write_sum-4.new.sink) (Err p.0) (then-more (named (codes "branches ") (signed_decimal c.args.sums.now.branches) ++ named (codes "tellers ") (signed_decimal c.args.sums.now.tellers)) (named (codes "accounts ") (signed_decimal c.args.sums.now.accounts)) (g.K.Sink.drain c.args.sink.now) (g.K.Sink.drain c.write_sum-2.new.sink) (g.K.Sink.drain c.write_sum-3.new.sink) (Ok tt) (then-more (named (codes "branches ") (signed_decimal c.args.sums.now.branches)) (named (codes "tellers ") (signed_decimal c.args.sums.now.tellers)) (g.K.Sink.drain c.args.sink.now) (g.K.Sink.drain c.write_sum.new.sink) (g.K.Sink.drain c.write_sum-2.new.sink) (Ok tt) c.in_ok-write_sum.ensures c.in_ok-write_sum-2.ensures) c.in_ok-write_sum-3.ensures) c.in_err-write_sum-4.ensures))

pub returns : goal.returns
returns g c = then-more (named (codes "branches ") (signed_decimal c.args.sums.now.branches) ++ named (codes "tellers ") (signed_decimal c.args.sums.now.tellers) ++ named (codes "accounts ") (signed_decimal c.args.sums.now.accounts) ++ named (codes "history ") (signed_decimal c.args.sums.now.history)) (named (codes "deltas ") (signed_decimal c.args.sums.now.deltas)) (g.K.Sink.drain c.args.sink.now) (g.K.Sink.drain c.write_sum-4.new.sink) (g.K.Sink.drain c.write_sum-5.new.sink) c.write_sum-5.result (then-more (named (codes "branches ") (signed_decimal c.args.sums.now.branches) ++ named (codes "tellers ") (signed_decimal c.args.sums.now.tellers) ++ named (codes "accounts ") (signed_decimal c.args.sums.now.accounts)) (named (codes "history ") (signed_decimal c.args.sums.now.history)) (g.K.Sink.drain c.args.sink.now) (g.K.Sink.drain c.write_sum-3.new.sink) (g.K.Sink.drain c.write_sum-4.new.sink) (Ok tt) (then-more (named (codes "branches ") (signed_decimal c.args.sums.now.branches) ++ named (codes "tellers ") (signed_decimal c.args.sums.now.tellers)) (named (codes "accounts ") (signed_decimal c.args.sums.now.accounts)) (g.K.Sink.drain c.args.sink.now) (g.K.Sink.drain c.write_sum-2.new.sink) (g.K.Sink.drain c.write_sum-3.new.sink) (Ok tt) (then-more (named (codes "branches ") (signed_decimal c.args.sums.now.branches)) (named (codes "tellers ") (signed_decimal c.args.sums.now.tellers)) (g.K.Sink.drain c.args.sink.now) (g.K.Sink.drain c.write_sum.new.sink) (g.K.Sink.drain c.write_sum-2.new.sink) (Ok tt) c.in_ok-write_sum.ensures c.in_ok-write_sum-2.ensures) c.in_ok-write_sum-3.ensures) c.in_ok-write_sum-4.ensures) c.write_sum-5.ensures

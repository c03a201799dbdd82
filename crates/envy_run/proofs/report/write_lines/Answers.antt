use Rattle.std.proofs.Common.{sym}
use Rattle.std.specs.Prelude.{[], ◌∷◌, ◌++◌, codes, decimal, Ok, Err}
use Rattle.std.proofs.lemmas.Result.{err_from_is_err_and}
use Rattle.envy_io.specs.Lines.{newline}
use Rattle.envy_trace.specs.Stat.{stat_bytes}
use Rattle.envy_run.specs.Drives.{named, sums_text}
use Rattle.envy_run.proofs.Reporting.{then-more, then-none}
use Rattle.envy_run.proofs.report.write_lines.Goals as goal

pub returns-in_err-write_count : goal.returns-in_err-write_count
returns-in_err-write_count g c =
    let p = err_from_is_err_and c.from_residual.result c.from_residual.ensures.1 in
    rw (p.1, sym c.from.ensures) (then-none (named (codes "transfers ") (decimal c.from.result) ++ sums_text c.args.sums.now ++ named (codes "cuts ") (decimal c.args.sums.now.cuts)) ((stat_bytes c.args.sums.now.counts ++ newline ∷ [])) (g.K.Sink.drain c.args.sink.now) (g.K.Sink.drain c.write_count.new.sink) p.0 (then-none (named (codes "transfers ") (decimal c.from.result) ++ sums_text c.args.sums.now) (named (codes "cuts ") (decimal c.args.sums.now.cuts)) (g.K.Sink.drain c.args.sink.now) (g.K.Sink.drain c.write_count.new.sink) p.0 (then-none (named (codes "transfers ") (decimal c.from.result)) (sums_text c.args.sums.now) (g.K.Sink.drain c.args.sink.now) (g.K.Sink.drain c.write_count.new.sink) p.0 c.in_err-write_count.ensures)))

pub returns-in_err-write_sums : goal.returns-in_err-write_sums
returns-in_err-write_sums g c =
    let p = err_from_is_err_and c.from_residual-in_err-write_sums.result c.from_residual-in_err-write_sums.ensures.1 in
    rw (p.1, sym c.from.ensures) (then-none (named (codes "transfers ") (decimal c.from.result) ++ sums_text c.args.sums.now ++ named (codes "cuts ") (decimal c.args.sums.now.cuts)) ((stat_bytes c.args.sums.now.counts ++ newline ∷ [])) (g.K.Sink.drain c.args.sink.now) (g.K.Sink.drain c.write_sums.new.sink) p.0 (then-none (named (codes "transfers ") (decimal c.from.result) ++ sums_text c.args.sums.now) (named (codes "cuts ") (decimal c.args.sums.now.cuts)) (g.K.Sink.drain c.args.sink.now) (g.K.Sink.drain c.write_sums.new.sink) p.0 (then-more (named (codes "transfers ") (decimal c.from.result)) (sums_text c.args.sums.now) (g.K.Sink.drain c.args.sink.now) (g.K.Sink.drain c.write_count.new.sink) (g.K.Sink.drain c.write_sums.new.sink) (Err p.0) c.in_ok-write_count.ensures c.in_err-write_sums.ensures)))

pub returns-in_err-write_count-2 : goal.returns-in_err-write_count-2
returns-in_err-write_count-2 g c =
    let p = err_from_is_err_and c.from_residual-in_err-write_count-2.result c.from_residual-in_err-write_count-2.ensures.1 in
    rw (p.1, sym c.from.ensures) (then-none (named (codes "transfers ") (decimal c.from.result) ++ sums_text c.args.sums.now ++ named (codes "cuts ") (decimal c.args.sums.now.cuts)) ((stat_bytes c.args.sums.now.counts ++ newline ∷ [])) (g.K.Sink.drain c.args.sink.now) (g.K.Sink.drain c.write_count-2.new.sink) p.0 (then-more (named (codes "transfers ") (decimal c.from.result) ++ sums_text c.args.sums.now) (named (codes "cuts ") (decimal c.args.sums.now.cuts)) (g.K.Sink.drain c.args.sink.now) (g.K.Sink.drain c.write_sums.new.sink) (g.K.Sink.drain c.write_count-2.new.sink) (Err p.0) (then-more (named (codes "transfers ") (decimal c.from.result)) (sums_text c.args.sums.now) (g.K.Sink.drain c.args.sink.now) (g.K.Sink.drain c.write_count.new.sink) (g.K.Sink.drain c.write_sums.new.sink) (Ok tt) c.in_ok-write_count.ensures c.in_ok-write_sums.ensures) c.in_err-write_count-2.ensures))

pub returns : goal.returns
returns g c = rw (sym c.from.ensures) (then-more (named (codes "transfers ") (decimal c.from.result) ++ sums_text c.args.sums.now ++ named (codes "cuts ") (decimal c.args.sums.now.cuts)) ((stat_bytes c.args.sums.now.counts ++ newline ∷ [])) (g.K.Sink.drain c.args.sink.now) (g.K.Sink.drain c.write_count-2.new.sink) (g.K.Sink.drain c.write_stat.new.sink) c.write_stat.result (then-more (named (codes "transfers ") (decimal c.from.result) ++ sums_text c.args.sums.now) (named (codes "cuts ") (decimal c.args.sums.now.cuts)) (g.K.Sink.drain c.args.sink.now) (g.K.Sink.drain c.write_sums.new.sink) (g.K.Sink.drain c.write_count-2.new.sink) (Ok tt) (then-more (named (codes "transfers ") (decimal c.from.result)) (sums_text c.args.sums.now) (g.K.Sink.drain c.args.sink.now) (g.K.Sink.drain c.write_count.new.sink) (g.K.Sink.drain c.write_sums.new.sink) (Ok tt) c.in_ok-write_count.ensures c.in_ok-write_sums.ensures) c.in_ok-write_count-2.ensures) c.write_stat.ensures)

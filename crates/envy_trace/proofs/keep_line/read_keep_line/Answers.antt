use Rattle.std.proofs.Common.{codes, true, false, Result, Ok, sym, ap, ◌∙◌}
use Rattle.std.proofs.lemmas.Result.{err_from_is_err_and}
use Rattle.envy_trace.specs.declared.fault.LineFault.{LineFault}
use Rattle.envy_trace.specs.declared.line.Line.TheVariants.{Empty}
use Rattle.envy_trace.specs.Grammar.{says, pieces, ◌>>=◌}
use Rattle.envy_trace.specs.declared.keep_line.KeepLine.TheVariants.{Trace, Sync}
use Rattle.envy_trace.specs.Keep.{keep_commands}
use Rattle.envy_trace.proofs.KeepLines.{keep-long, keep-short, word-sync, word-failure, keep-trace-named, is-kept, as_trace}
use Rattle.envy_trace.proofs.Tables.{is-word, none-as}
use Rattle.envy_trace.proofs.keep_line.read_keep_line.Goals as goal

pub returns-in_err-name : goal.returns-in_err-name
returns-in_err-name c =
    let p = err_from_is_err_and c.from_residual.result c.from_residual.ensures.1 in
    let fault = c.in_err-name.ensures in
    rw (p.1, p.2, fault.0) (sym (keep-long c.args.bytes.now fault.1))

pub returns-in_default : goal.returns-in_default
returns-in_default c =
    let found = c.in_ok-name.ensures in
    sym (keep-short c.args.bytes.now found.0 ∙ ap (says (Trace Empty) keep_commands) (rw c.in_default.is at found.1))

pub returns-in_err-no_number : goal.returns-in_err-no_number
returns-in_err-no_number c =
    let p = err_from_is_err_and c.from_residual-in_err-no_number.result c.from_residual-in_err-no_number.ensures.1 in
    let found = c.in_ok-name.ensures in
    let line = keep-short c.args.bytes.now found.0 ∙ ap (says (Trace Empty) keep_commands) (rw c.in-Some.is at found.1) in
    let read = word-sync c.in-Some.name.now (pieces c.in-Some.rest.now) (is-word c.in-Some.name.now (codes "sync") c.as_slice.result.now c.eq.result true c.eq.ensures c.as_slice.ensures c.if-eq.true) in
    rw (p.1, p.2) (sym (line ∙ read ∙ none-as Sync (pieces c.in-Some.rest.now) ∙ ap (λ (r : Result (Unit {0}) LineFault). r >>= λ x. Ok Sync) (sym c.in_err-no_number.ensures)))

pub returns-then-eq : goal.returns-then-eq
returns-then-eq c =
    let found = c.in_ok-name.ensures in
    let line = keep-short c.args.bytes.now found.0 ∙ ap (says (Trace Empty) keep_commands) (rw c.in-Some.is at found.1) in
    let read = word-sync c.in-Some.name.now (pieces c.in-Some.rest.now) (is-word c.in-Some.name.now (codes "sync") c.as_slice.result.now c.eq.result true c.eq.ensures c.as_slice.ensures c.if-eq.true) in
    sym (line ∙ read ∙ none-as Sync (pieces c.in-Some.rest.now) ∙ ap (λ (r : Result (Unit {0}) LineFault). r >>= λ x. Ok Sync) (sym c.in_ok-no_number.ensures))

pub returns-then-names_failure : goal.returns-then-names_failure
returns-then-names_failure c =
    let found = c.in_ok-name.ensures in
    let line = keep-short c.args.bytes.now found.0 ∙ ap (says (Trace Empty) keep_commands) (rw c.in-Some.is at found.1) in
    sym (line ∙ word-failure c.in-Some.name.now (pieces c.in-Some.rest.now) (sym c.names_failure.ensures ∙ c.if-names_failure.true))

pub returns-in_err-read_line : goal.returns-in_err-read_line
returns-in_err-read_line c =
    let p = err_from_is_err_and c.from_residual-in_err-read_line.result c.from_residual-in_err-read_line.ensures.1 in
    let found = c.in_ok-name.ensures in
    let whole = keep-trace-named c.args.bytes.now found.0 (c.in-Some.name.now, pieces c.in-Some.rest.now) (rw c.in-Some.is at found.1) (is-word c.in-Some.name.now (codes "sync") c.as_slice.result.now c.eq.result false c.eq.ensures c.as_slice.ensures c.if-eq.false) (is-kept c.in-Some.name.now (sym c.names_failure.ensures ∙ c.if-names_failure.false)) in
    rw (p.1, p.2) (sym (whole ∙ ap as_trace (sym c.in_err-read_line.ensures)))

pub returns : goal.returns
returns c =
    let found = c.in_ok-name.ensures in
    let whole = keep-trace-named c.args.bytes.now found.0 (c.in-Some.name.now, pieces c.in-Some.rest.now) (rw c.in-Some.is at found.1) (is-word c.in-Some.name.now (codes "sync") c.as_slice.result.now c.eq.result false c.eq.ensures c.as_slice.ensures c.if-eq.false) (is-kept c.in-Some.name.now (sym c.names_failure.ensures ∙ c.if-names_failure.false)) in
    sym (whole ∙ ap as_trace (sym c.in_ok-read_line.ensures))

use Rattle.std.proofs.Common.{ℕ, codes, true, false, Result, Ok, sym, ap, ◌∙◌}
use Rattle.std.proofs.lemmas.Result.{err_from_is_err_and}
use Rattle.envy_trace.specs.declared.fault.LineFault.{LineFault}
use Rattle.envy_trace.specs.declared.line.Line.TheVariants.{Empty}
use Rattle.envy_trace.specs.declared.mirror_line.MirrorLine.TheVariants.{Array, Side, Catch}
use Rattle.envy_trace.specs.Grammar.{says, pieces, ◌>>=◌}
use Rattle.envy_trace.specs.Mirror.{mirror_commands}
use Rattle.envy_trace.proofs.Mirrored.{mirror-long, mirror-short, word-side, word-catch, mirror-array-named, one-as, as_array}
use Rattle.envy_trace.proofs.Tables.{is-word, none-as}
use Rattle.envy_trace.proofs.mirror_line.read_mirror_line.Goals as goal

pub returns-in_err-name : goal.returns-in_err-name
returns-in_err-name c =
    let p = err_from_is_err_and c.from_residual.result c.from_residual.ensures.1 in
    let fault = c.in_err-name.ensures in
    rw (p.1, p.2, fault.0) (sym (mirror-long c.args.bytes.now fault.1))

pub returns-in_default : goal.returns-in_default
returns-in_default c =
    let found = c.in_ok-name.ensures in
    sym (mirror-short c.args.bytes.now found.0 ∙ ap (says (Array Empty) mirror_commands) (rw c.in_default.is at found.1))

pub returns-in_err-read_side : goal.returns-in_err-read_side
returns-in_err-read_side c =
    let p = err_from_is_err_and c.from_residual-in_err-read_side.result c.from_residual-in_err-read_side.ensures.1 in
    let found = c.in_ok-name.ensures in
    let line = mirror-short c.args.bytes.now found.0 ∙ ap (says (Array Empty) mirror_commands) (rw c.in-Some.is at found.1) in
    let read = word-side c.in-Some.name.now (pieces c.in-Some.rest.now) (is-word c.in-Some.name.now (codes "side") c.as_slice.result.now c.eq.result true c.eq.ensures c.as_slice.ensures c.if-eq.true) in
    rw (p.1, p.2) (sym (line ∙ read ∙ one-as (pieces c.in-Some.rest.now) ∙ ap (λ (r : Result ℕ LineFault). r >>= λ x. Ok (Side x)) (sym c.in_err-read_side.ensures)))

pub returns-then-eq : goal.returns-then-eq
returns-then-eq c =
    let found = c.in_ok-name.ensures in
    let line = mirror-short c.args.bytes.now found.0 ∙ ap (says (Array Empty) mirror_commands) (rw c.in-Some.is at found.1) in
    let read = word-side c.in-Some.name.now (pieces c.in-Some.rest.now) (is-word c.in-Some.name.now (codes "side") c.as_slice.result.now c.eq.result true c.eq.ensures c.as_slice.ensures c.if-eq.true) in
    sym (line ∙ read ∙ one-as (pieces c.in-Some.rest.now) ∙ ap (λ (r : Result ℕ LineFault). r >>= λ x. Ok (Side x)) (sym c.in_ok-read_side.ensures))

pub returns-in_err-no_number : goal.returns-in_err-no_number
returns-in_err-no_number c =
    let p = err_from_is_err_and c.from_residual-in_err-no_number.result c.from_residual-in_err-no_number.ensures.1 in
    let found = c.in_ok-name.ensures in
    let line = mirror-short c.args.bytes.now found.0 ∙ ap (says (Array Empty) mirror_commands) (rw c.in-Some.is at found.1) in
    let read = word-catch c.in-Some.name.now (pieces c.in-Some.rest.now) (is-word c.in-Some.name.now (codes "side") c.as_slice.result.now c.eq.result false c.eq.ensures c.as_slice.ensures c.if-eq.false) (is-word c.in-Some.name.now (codes "catch") c.as_slice-2.result.now c.eq-2.result true c.eq-2.ensures c.as_slice-2.ensures c.if-eq-2.true) in
    rw (p.1, p.2) (sym (line ∙ read ∙ none-as Catch (pieces c.in-Some.rest.now) ∙ ap (λ (r : Result (Unit {0}) LineFault). r >>= λ x. Ok Catch) (sym c.in_err-no_number.ensures)))

pub returns-then-eq-2 : goal.returns-then-eq-2
returns-then-eq-2 c =
    let found = c.in_ok-name.ensures in
    let line = mirror-short c.args.bytes.now found.0 ∙ ap (says (Array Empty) mirror_commands) (rw c.in-Some.is at found.1) in
    let read = word-catch c.in-Some.name.now (pieces c.in-Some.rest.now) (is-word c.in-Some.name.now (codes "side") c.as_slice.result.now c.eq.result false c.eq.ensures c.as_slice.ensures c.if-eq.false) (is-word c.in-Some.name.now (codes "catch") c.as_slice-2.result.now c.eq-2.result true c.eq-2.ensures c.as_slice-2.ensures c.if-eq-2.true) in
    sym (line ∙ read ∙ none-as Catch (pieces c.in-Some.rest.now) ∙ ap (λ (r : Result (Unit {0}) LineFault). r >>= λ x. Ok Catch) (sym c.in_ok-no_number.ensures))

pub returns-in_err-read_line : goal.returns-in_err-read_line
returns-in_err-read_line c =
    let p = err_from_is_err_and c.from_residual-in_err-read_line.result c.from_residual-in_err-read_line.ensures.1 in
    let found = c.in_ok-name.ensures in
    let whole = mirror-array-named c.args.bytes.now found.0 (c.in-Some.name.now, pieces c.in-Some.rest.now) (rw c.in-Some.is at found.1) (is-word c.in-Some.name.now (codes "side") c.as_slice.result.now c.eq.result false c.eq.ensures c.as_slice.ensures c.if-eq.false) (is-word c.in-Some.name.now (codes "catch") c.as_slice-2.result.now c.eq-2.result false c.eq-2.ensures c.as_slice-2.ensures c.if-eq-2.false) in
    rw (p.1, p.2) (sym (whole ∙ ap as_array (sym c.in_err-read_line.ensures)))

pub returns : goal.returns
returns c =
    let found = c.in_ok-name.ensures in
    let whole = mirror-array-named c.args.bytes.now found.0 (c.in-Some.name.now, pieces c.in-Some.rest.now) (rw c.in-Some.is at found.1) (is-word c.in-Some.name.now (codes "side") c.as_slice.result.now c.eq.result false c.eq.ensures c.as_slice.ensures c.if-eq.false) (is-word c.in-Some.name.now (codes "catch") c.as_slice-2.result.now c.eq-2.result false c.eq-2.ensures c.as_slice-2.ensures c.if-eq-2.false) in
    sym (whole ∙ ap as_array (sym c.in_ok-read_line.ensures))

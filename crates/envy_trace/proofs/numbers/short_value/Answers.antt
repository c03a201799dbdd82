use Rattle.std.proofs.Common.{sym, ◌∙◌, arith}
use Rattle.envy_trace.proofs.Digits.{digits_none, digits_step, digits_fit, digits_all}
use Rattle.envy_trace.proofs.numbers.short_value.Goals as goal

pub returns-then-not-is_ascii_digit : goal.returns-then-not-is_ascii_digit
returns-then-not-is_ascii_digit c =
    λ h. digits_none c.args.field.now c.loop-byte.byte-index c.loop-byte-test.true (sym c.if-not-is_ascii_digit.ensures.value) h

pub overflow_mul-value : goal.overflow_mul-value
overflow_mul-value c =
    let fit = digits_fit c.args.field.now c.loop-byte.byte-index c.loop-byte-test.true c.requires (sym c.if-not-is_ascii_digit.ensures.value) c.loop-byte.invariant.digits in
    omega arith

pub overflow_add-value : goal.overflow_add-value
overflow_add-value c =
    let fit = digits_fit c.args.field.now c.loop-byte.byte-index c.loop-byte-test.true c.requires (sym c.if-not-is_ascii_digit.ensures.value) c.loop-byte.invariant.digits in
    omega arith

pub loop-byte-preserved : goal.loop-byte-preserved
loop-byte-preserved c =
    let step = digits_step c.args.field.now c.loop-byte.byte-index c.loop-byte-test.true (sym c.if-not-is_ascii_digit.ensures.value) c.loop-byte.invariant.digits in
    record { digits = step.0; value = omega (arith, step.1) }

pub returns : goal.returns
returns c =
    let all = digits_all c.args.field.now c.loop-byte.byte-index c.loop-byte-test.false c.loop-byte.invariant.digits in
    (all.0, c.loop-byte.invariant.value ∙ all.1)

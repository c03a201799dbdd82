use Rattle.std.proofs.Common.{◌<◌, length, sym, arith}
use Rattle.envy_trace.proofs.Digits.{digits_step, digits_fit_front}
use Rattle.envy_trace.proofs.numbers.front_number.Goals as goal

pub overflow_mul-value : goal.overflow_mul-value
overflow_mul-value c =
    let within : c.loop-end.end < length c.args.bytes.now = omega (arith, c.min-most.ensures, c.loop-end-test.true) in
    let few : c.loop-end.end < 19 = omega (arith, c.min-most.ensures, c.loop-end-test.true) in
    let fit = digits_fit_front c.args.bytes.now c.loop-end.end within few (sym c.if-not-is_ascii_digit.ensures.value) c.loop-end.invariant.digits in
    omega (arith, fit, c.loop-end.invariant.value)

pub overflow_add-value : goal.overflow_add-value
overflow_add-value c =
    let within : c.loop-end.end < length c.args.bytes.now = omega (arith, c.min-most.ensures, c.loop-end-test.true) in
    let few : c.loop-end.end < 19 = omega (arith, c.min-most.ensures, c.loop-end-test.true) in
    let fit = digits_fit_front c.args.bytes.now c.loop-end.end within few (sym c.if-not-is_ascii_digit.ensures.value) c.loop-end.invariant.digits in
    omega (arith, fit, c.from.ensures, c.loop-end.invariant.value)

pub loop-end-preserved : goal.loop-end-preserved
loop-end-preserved c =
    let within : c.loop-end.end < length c.args.bytes.now = omega (arith, c.min-most.ensures, c.loop-end-test.true) in
    let few : c.loop-end.end < 19 = omega (arith, c.min-most.ensures, c.loop-end-test.true) in
    let step = digits_step c.args.bytes.now c.loop-end.end within (sym c.if-not-is_ascii_digit.ensures.value) c.loop-end.invariant.digits in
    record {
      few = omega (arith, few);
      within = omega (arith, within);
      digits = step.0;
      value = omega (arith, step.1, c.from.ensures, c.loop-end.invariant.value);
    }

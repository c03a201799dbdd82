use Rattle.std.proofs.Common.{ℕ, ◌+◌, ◌≤◌, length, min, take, drop, sym, ap, ◌∙◌, length-drop, length-take, arith}
use Rattle.envy_trace.proofs.Digits.{digits_none_front, digits_all, behind_none, behind_step, behind_over, front_begins}
use Rattle.envy_trace.proofs.numbers.value.Goals as goal

pub returns-in_err-value : goal.returns-in_err-value
returns-in_err-value c =
    let field = c.args.field.now in
    let front = c.split_at.ensures.front ∙ ap (λ (k : ℕ). take k field) c.min.ensures in
    let other = rw front at c.in_err-value.ensures in
    rw c.from_residual.ensures (λ h. digits_none_front field (min (length field) 19) other h.0)

pub loop-byte-init : goal.loop-byte-init
loop-byte-init c =
    let field = c.args.field.now in
    let front = c.split_at.ensures.front ∙ ap (λ (k : ℕ). take k field) c.min.ensures in
    let few : length c.split_at.result.0.now ≤ 19 = omega (arith, ap length front, length-take (min (length field) 19) field) in
    let found = front_begins field c.split_at.result.0.now (min (length field) 19) c.in_ok-value.value front few c.in_ok-value.ensures.0 c.in_ok-value.ensures.1 in
    record { digits = found.0; value = found.1; fits = found.2 }

pub returns-then-not-is_ascii_digit : goal.returns-then-not-is_ascii_digit
returns-then-not-is_ascii_digit c =
    let field = c.args.field.now in
    let back = c.split_at.ensures.back ∙ ap (λ (k : ℕ). drop k field) c.min.ensures in
    λ h. behind_none field c.split_at.result.1.now (min (length field) 19) c.loop-byte.byte-index back c.loop-byte-test.true (sym c.if-not-is_ascii_digit.ensures.value) h.0

pub returns-in_err-checked_mul : goal.returns-in_err-checked_mul
returns-in_err-checked_mul c =
    let field = c.args.field.now in
    let back = c.split_at.ensures.back ∙ ap (λ (k : ℕ). drop k field) c.min.ensures in
    let over = c.in_err-checked_mul.ensures in
    let step = behind_step field c.split_at.result.1.now (min (length field) 19) c.loop-byte.byte-index back c.loop-byte-test.true (sym c.if-not-is_ascii_digit.ensures.value) c.loop-byte.invariant.digits in
    rw c.from_residual-in_err-checked_mul.ensures (λ h. behind_over field c.split_at.result.1.now (min (length field) 19) c.loop-byte.byte-index back c.loop-byte-test.true (omega (arith, over, step.1)) h.1)

pub returns-in_err-value-2 : goal.returns-in_err-value-2
returns-in_err-value-2 c =
    let field = c.args.field.now in
    let back = c.split_at.ensures.back ∙ ap (λ (k : ℕ). drop k field) c.min.ensures in
    let over = c.in_err-value-2.ensures in
    let product = c.in_ok-checked_mul.ensures in
    let step = behind_step field c.split_at.result.1.now (min (length field) 19) c.loop-byte.byte-index back c.loop-byte-test.true (sym c.if-not-is_ascii_digit.ensures.value) c.loop-byte.invariant.digits in
    rw c.from_residual-in_err-value-2.ensures (λ h. behind_over field c.split_at.result.1.now (min (length field) 19) c.loop-byte.byte-index back c.loop-byte-test.true (omega (arith, over, product, step.1)) h.1)

pub loop-byte-preserved : goal.loop-byte-preserved
loop-byte-preserved c =
    let field = c.args.field.now in
    let back = c.split_at.ensures.back ∙ ap (λ (k : ℕ). drop k field) c.min.ensures in
    let sum = c.in_ok-value-2.ensures in
    let product = c.in_ok-checked_mul.ensures in
    let step = behind_step field c.split_at.result.1.now (min (length field) 19) c.loop-byte.byte-index back c.loop-byte-test.true (sym c.if-not-is_ascii_digit.ensures.value) c.loop-byte.invariant.digits in
    record { digits = step.0; value = omega (arith, sum, product, step.1); fits = omega (arith, sum) }

pub returns : goal.returns
returns c =
    let field = c.args.field.now in
    let back = c.split_at.ensures.back ∙ ap (λ (k : ℕ). drop k field) c.min.ensures in
    let end : length field ≤ min (length field) 19 + c.loop-byte.byte-index = omega (arith, ap length back, length-drop (min (length field) 19) field) in
    let all = digits_all field (min (length field) 19 + c.loop-byte.byte-index) end c.loop-byte.invariant.digits in
    ((all.0, omega (arith, all.1)), c.loop-byte.invariant.value ∙ all.1)

use Rattle.std.proofs.Common.{◌+◌, ◌/◌, ◌%◌, [], ◌∷◌, ◌++◌, length, decimal, sym, ap, arith, append_assoc, length-append, lit<}
use Rattle.envy_trace.proofs.Costs.{few_wide, wide_step}
use Rattle.envy_trace.proofs.stat.+push_wide.Goals as goal

pub push-requires : goal.push-requires
push-requires t c =
    let n = c.args.number in
    let all = few_wide n c.ranges.number.fits in
    let step = ap length (wide_step n (omega arith) c.ranges.number.fits) in
    let front = ap length c.push_wide.ensures.text in (
      lit< tt,
      omega (arith, c.requires, length-append c.args.out.now.items (decimal (n / 10)), length-append (decimal (n / 10)) ((48 + n % 10) ∷ [])),
    )

pub returns-else-number-clause-text : goal.returns-else-number-clause-text
returns-else-number-clause-text t c =
    rw (c.push.ensures.items, c.push_wide.ensures.text, append_assoc)
    (ap (λ ds. c.args.out.now.items ++ ds) (sym (wide_step c.args.number (omega arith) c.ranges.number.fits)))

pub returns-else-number-clause-len : goal.returns-else-number-clause-len
returns-else-number-clause-len t c =
    let n = c.args.number in
    let all = few_wide n c.ranges.number.fits in
    let step = ap length (wide_step n (omega arith) c.ranges.number.fits) in
    let front = ap length c.push_wide.ensures.text in
    omega (arith, length-append c.args.out.now.items (decimal (n / 10)), length-append (decimal (n / 10)) ((48 + n % 10) ∷ []))

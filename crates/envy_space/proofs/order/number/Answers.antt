use Rattle.std.proofs.Common.{◌∙◌, ◌<◌, length, arith}
use Rattle.std.proofs.lemmas.List.{ext_get_or}
use Rattle.std.proofs.lemmas.List.FromFn.{get_or-range_with_len, length-range_with_len}
use Rattle.envy_space.proofs.order.number.Goals as goal

pub returns : goal.returns
returns c =
    let count = length c.args.items.now in
    let long = length-range_with_len 0 count in
    ext_get_or 0 _ _ (omega arith)
    (λ k lt. let low : k < count = omega arith in let at = get_or-range_with_len 0 count k 0 low in c.loop-i.invariant k (omega arith) ∙ omega arith)

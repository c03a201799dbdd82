use Rattle.std.proofs.Common.{◌≡◌, ◌+◌, ◌^◌, ◌<◌, ◌∙◌, true, false, length, rules, arith}
use Rattle.std.proofs.lemmas.List.{length-map}
use Rattle.envy_index_calls.specs.Scanned.{pair_in, pairs_in}
use Rattle.envy_index_calls.proofs.Feeding.{key-of, rises-first, rises-last, rises-more, rises-not}
use Rattle.envy_index_calls.proofs.loads.rise.Goals as goal

pub loop-pair-init : goal.loop-pair-init
loop-pair-init c = rises-first (pairs_in c.args.pairs.now)

pub loop-pair-preserved : goal.loop-pair-preserved
loop-pair-preserved c =
    let ps = pairs_in c.args.pairs.now in
    let lt : c.loop-pair.pair-index < length ps = omega (arith, c.loop-pair-test.true, length-map c.args.pairs.now pair_in) in
    let is = c.from-key.ensures ∙ key-of c.args.pairs.now c.loop-pair.pair-index _ c.loop-pair-test.true in
    let fits : c.from-key.result < 2 ^ 64 = search rules in
    rises-more c.loop-pair.least c.loop-pair.pair-index c.from-key.result ps c.loop-pair.invariant lt is c.if-key-least.false fits

pub returns-then-key-least : goal.returns-then-key-least
returns-then-key-least c =
    let ps = pairs_in c.args.pairs.now in
    let lt : c.loop-pair.pair-index < length ps = omega (arith, c.loop-pair-test.true, length-map c.args.pairs.now pair_in) in
    let is = c.from-key.ensures ∙ key-of c.args.pairs.now c.loop-pair.pair-index _ c.loop-pair-test.true in
    ((λ e. absurd (let clash : false ≡ true = e in cc)), (λ r. absurd (rises-not c.loop-pair.least c.loop-pair.pair-index c.from-key.result ps c.loop-pair.invariant lt is c.if-key-least.true r)))

use Rattle.std.proofs.Common.{◌≡◌, ◌+◌, ◌∙◌, ℕ, ap, sym, take, drop, length, length-set, get_or, refl, arith}
use Rattle.std.proofs.lemmas.List.{take_all}
use Rattle.envy_index_calls.specs.Scanned.{pair_in, pairs_in}
use Rattle.envy_index_calls.proofs.Feeding.{part-more}
use Rattle.envy_index_calls.proofs.loading.copy_part.Goals as goal

pub loop-i-preserved : goal.loop-i-preserved
loop-i-preserved c =
    let mid = c.loop-i.invariant in
    record {
      long = length-set c.loop-i.part c.loop-i.i _ ∙ mid.long;
      list = part-more c.args.pairs.now c.loop-i.part c.args.done c.loop-i.i _ (omega (arith, c.requires, mid.long, c.loop-i-test.true)) (omega (arith, mid.long, c.loop-i-test.true)) mid.list;
    }

pub returns : goal.returns
returns c =
    let mid = c.loop-i.invariant in
    let all : c.loop-i.i ≡ length c.args.part.now = omega (arith, c.loop-i-test.false, c.loop-i.auto.i-end, mid.long) in
    sym (take_all c.loop-i.i c.loop-i.part (omega (arith, c.loop-i-test.false, mid.long)))
    ∙ mid.list
    ∙ ap (λ (n : ℕ). take n (drop c.args.done (pairs_in c.args.pairs.now))) all

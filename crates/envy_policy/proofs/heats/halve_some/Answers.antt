use Rattle.std.proofs.Common.{◌∙◌, ◌<◌, length, arith}
use Rattle.std.proofs.lemmas.List.{length-set}
use Rattle.envy_policy.proofs.Warming.{one-heats, one-halves, halves-so-far}
use Rattle.envy_policy.proofs.heats.halve_some.Goals as goal

pub overflow_add-halves : goal.overflow_add-halves
overflow_add-halves c =
    let within : c.loop-g.g < length c.loop-g.kept = omega (arith, c.loop-g.invariant.count, c.requires.end) in
    let fits = halves-so-far c.loop-g.kept c.args.kept.now c.loop-g.g c.args.first c.loop-g.halves within c.loop-g.invariant.heats c.loop-g.invariant.halves c.requires.few in
    omega (arith, fits)

pub loop-g-preserved : goal.loop-g-preserved
loop-g-preserved c =
    let kept = c.loop-g.kept in
    let within : c.loop-g.g < length kept = omega (arith, c.loop-g.invariant.count, c.requires.end) in
    let halves = one-halves kept c.loop-g.g within in
    record {
      count = length-set kept c.loop-g.g _ ∙ c.loop-g.invariant.count;
      heats = one-heats kept c.loop-g.g within ∙ c.loop-g.invariant.heats;
      halves = omega (arith, halves, c.loop-g.invariant.halves);
    }

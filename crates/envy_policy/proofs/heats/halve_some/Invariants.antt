use Rattle.std.proofs.Common.{◌≡◌, ◌+◌, length}
use Rattle.envy_policy.specs.Heats.{heats_of, halves_of}
use Rattle.envy_policy.proofs.heats.halve_some.Given as goal

abbrev pub invariant-loop-g : goal.invariant-loop-g
invariant-loop-g l = record {
  count : length l.kept ≡ length l.initial.kept;
  heats : heats_of l.g l.kept ≡ heats_of l.first l.initial.kept;
  halves : halves_of l.g l.kept ≡ halves_of l.first l.initial.kept + l.halves;
}

use Rattle.std.proofs.Common.{rules}
use Rattle.test_relocations.proofs.rig.Rig.over.Goals as goal

pub invariant_of-result : goal.invariant_of-result
invariant_of-result g c = (
  c.assert_sound.ensures,
  search rules,
  (λ on. search rules),
  (λ on. search rules),
  (λ on. search rules),
  (λ on. search rules),
)

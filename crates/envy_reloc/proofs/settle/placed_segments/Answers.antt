use Rattle.std.proofs.Common.{refl, arith}
use Rattle.envy_reloc.proofs.SettleLemmas.{none-placed}
use Rattle.envy_reloc.proofs.settle.placed_segments.Goals as goal

pub loop-position-init : goal.loop-position-init
loop-position-init g c = record {
  long = refl;
  placed = λ s is. absurd (none-placed 4096 s is);
  all = λ k lt. absurd (omega arith);
}

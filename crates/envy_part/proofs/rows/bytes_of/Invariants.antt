use Rattle.std.proofs.Common.{◌≡◌, ◌<◌, ℕ, length, slice_index}
use Rattle.envy_bank.specs.Lanes.{lane_of}
use Rattle.envy_part.proofs.rows.bytes_of.Given as goal

abbrev pub invariant-loop-j : goal.invariant-loop-j
invariant-loop-j l = record {
  long : length l.bytes ≡ 256;
  done : (k : ℕ) → k < l.j → slice_index l.bytes k ≡ lane_of l.page k;
}

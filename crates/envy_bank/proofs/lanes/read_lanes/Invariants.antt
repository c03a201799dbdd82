use Rattle.std.proofs.Common.{◌≡◌, ◌+◌, ◌*◌, ◌<◌, ℕ, length, slice_index}
use Rattle.envy_bank.specs.Lanes.{lanes_at}
use Rattle.envy_bank.proofs.lanes.read_lanes.Given as goal

abbrev pub invariant-loop-i : goal.invariant-loop-i
invariant-loop-i l = record {
  long : length l.bytes ≡ 8;
  read : (k : ℕ) → k < l.i → slice_index l.bytes k ≡ slice_index (lanes_at l.chips l.addr) (8 * l.word + k);
}

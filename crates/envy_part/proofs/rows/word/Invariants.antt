use Rattle.std.proofs.Common.{◌≡◌, ◌+◌, ◌*◌, ◌<◌, ℕ, length, slice_index}
use Rattle.envy_part.proofs.rows.word.Given as goal

abbrev pub invariant-loop-j : goal.invariant-loop-j
invariant-loop-j l = record {
  long : length l.bytes ≡ 8;
  read : (k : ℕ) → k < l.j → slice_index l.bytes k ≡ slice_index l.row (8 * l.i + k);
}

use Rattle.std.proofs.Common.{◌≡◌, ◌++◌, ◌≤◌, take, drop, length}
use Rattle.std.specs.List.{filter}
use Rattle.envy_frames.specs.Entries.{is_kept}
use Rattle.envy_frames.proofs.ring.pack.Given as goal

abbrev pub invariant-loop-turn : goal.invariant-loop-turn
invariant-loop-turn l = record {
  items : l.entries.items ≡ drop l._turn l.initial.entries.items ++ filter (is_kept l.stamps l.frame) (take l._turn l.initial.entries.items);
  capacity : l.entries.capacity ≡ l.initial.entries.capacity;
  fits : length l.initial.entries.items ≤ l.entries.capacity;
}

use Rattle.std.proofs.Common.{◌≡◌, length}
use Rattle.envy_frames.specs.Entries.{AreStamped, held_in}
use Rattle.envy_frames.proofs.ring.drop_stale.Given as goal

abbrev pub invariant-loop-oldest : goal.invariant-loop-oldest
invariant-loop-oldest l = record {
  stamped : AreStamped l.entries l.stamps;
  held : held_in l.stamps l.entries.items ≡ held_in l.stamps l.initial.entries.items;
  capacity : l.entries.capacity ≡ l.initial.entries.capacity;
}

abbrev pub decreases-loop-oldest : goal.decreases-loop-oldest
decreases-loop-oldest l = length l.entries.items

use Rattle.std.proofs.Common.{◌≡◌, ℕ, ◌≤◌, ◌<◌, ◌||◌, length, map, get_or, false}
use Rattle.std.specs.Prelude.{vec_capacity}
use Rattle.std.specs.List.{All}
use Rattle.envy_frames.specs.Order.{has_frame, others_of}
use Rattle.envy_frames.proofs.free.free_others.Given as goal

abbrev pub invariant-loop-entry : goal.invariant-loop-entry
invariant-loop-entry l = record {
  long : length l.marks.items ≡ length l.fn.marks.items;
  below : All (λ e. e.held.frame < length l.marks.items) l.entry-iterator;
  marks : (f : ℕ) → f < length l.marks.items → (get_or l.marks.items f false || has_frame (map (λ e. e.held) l.entry-iterator) f) ≡ has_frame (map (λ e. e.held) l.entries.items) f;
}

abbrev pub invariant-loop-frame : goal.invariant-loop-frame
invariant-loop-frame l = record {
  free : l.free.items ≡ others_of (map (λ e. e.held) l.entries.items) l.frame;
  room : vec_capacity l.fn.free ≤ vec_capacity l.free;
}

use Rattle.std.proofs.Common.{◌≡◌, length, map}
use Rattle.envy_map.specs.Fields.{chart}
use Rattle.envy_frames.specs.Entries.{AreHomes, unstamped}
use Rattle.envy_frames.proofs.Defaults.{held_before}
use Rattle.envy_frames.proofs.table.hold_named.Given as goal

abbrev pub invariant-loop-page : goal.invariant-loop-page
invariant-loop-page g l = record {
  items : l.entries.items ≡ map unstamped (held_before (g.B.Board.state l.board).shape (chart (g.B.Board.state l.board)).fields.places l.page);
  capacity : l.entries.capacity ≡ l.fn.entries.capacity;
  homes : AreHomes l.homes.items (held_before (g.B.Board.state l.board).shape (chart (g.B.Board.state l.board)).fields.places l.page);
  long : length l.homes.items ≡ length l.fn.homes.items;
}

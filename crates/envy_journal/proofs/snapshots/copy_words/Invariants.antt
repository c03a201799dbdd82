use Rattle.std.proofs.Common.{◌≡◌, ◌+◌, ◌*◌}
use Rattle.envy_journal.specs.Snapshot.{Gathers, IsAside, IsUntouched, Makes, gathered, with_words}
use Rattle.envy_journal.proofs.snapshots.copy_words.Given as goal

abbrev pub invariant-loop-w : goal.invariant-loop-w
invariant-loop-w g l = record {
  gathers : Gathers g.D.Replaceable.second l.log;
  makes : Makes (g.B.Board.state l.board).shape (with_words (g.B.Board.state l.board) l.w) (34 + 13 * l.w) (gathered g.D.Replaceable.second l.log);
  aside : IsAside l.initial.log l.log;
  untouched : IsUntouched g.D.Device.seen g.D.Device.may_leave g.D.Device.moment g.D.Device.left_since g.D.Device.synced g.D.Device.bytewise l.initial.log.device l.log.device;
  hindered : g.D.Replaceable.goes_on l.initial.log.device → g.D.Replaceable.goes_on l.log.device × (g.D.Device.hindered l.log.device ≡ g.D.Device.hindered l.initial.log.device);
}

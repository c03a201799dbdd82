use Rattle.std.proofs.Common.{◌≡◌, ◌*◌}
use Rattle.envy_journal.specs.Condensed.{Remakes, StaysKept}
use Rattle.envy_journal.proofs.renewal.renew_segments.Given as goal

abbrev pub invariant-loop-segment : goal.invariant-loop-segment
invariant-loop-segment g l = record {
  remakes : Remakes g.D.Device.seen g.D.Device.may_leave g.D.Device.left_since g.D.Device.synced g.D.Device.bytewise (g.B.Board.state l.board) (l.segment * (g.B.Board.state l.board).shape.rows) 0 0 (5 * l.segment) l.log;
  stays : StaysKept g.D.Device.seen g.D.Device.moment g.D.Device.left_since g.D.Device.synced l.initial.log l.log;
  hindered : g.D.Device.hindered l.log.device ≡ g.D.Device.hindered l.initial.log.device;
}

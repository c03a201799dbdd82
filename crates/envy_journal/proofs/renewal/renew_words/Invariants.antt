use Rattle.std.proofs.Common.{◌≡◌, ◌+◌, ◌*◌, length}
use Rattle.envy_journal.specs.Condensed.{Remakes, StaysKept}
use Rattle.envy_journal.proofs.renewal.renew_words.Given as goal

abbrev pub invariant-loop-w : goal.invariant-loop-w
invariant-loop-w g l = record {
  remakes : Remakes g.D.Device.seen g.D.Device.may_leave g.D.Device.left_since g.D.Device.synced g.D.Device.bytewise (g.B.Board.state l.board) (length (g.B.Board.state l.board).flash) (length (g.B.Board.state l.board).flash) l.w (5 * (g.B.Board.state l.board).shape.segments + 261 * length (g.B.Board.state l.board).flash + 13 * l.w) l.log;
  stays : StaysKept g.D.Device.seen g.D.Device.moment g.D.Device.left_since g.D.Device.synced l.initial.log l.log;
  hindered : g.D.Device.hindered l.log.device ≡ g.D.Device.hindered l.initial.log.device;
}

use Rattle.std.proofs.Common.{◌≡◌, ◌+◌, ◌*◌}
use Rattle.envy_journal.specs.Log.{IsCounted, IsLonger, IsSound}
use Rattle.envy_journal.proofs.log.Log.add_pieces.Given as goal

abbrev pub invariant-loop-turn : goal.invariant-loop-turn
invariant-loop-turn g l = record {
  sound : IsSound g.D.Device.seen g.D.Device.may_leave g.D.Device.left_since g.D.Device.synced l.self;
  counted : IsCounted g.D.Device.seen g.D.Device.may_leave g.D.Device.bytewise l.self;
  size : l.self.size ≡ l.initial.self.size + 16384 * l._turn;
  longer : IsLonger g.D.Device.seen g.D.Device.moment g.D.Device.left_since g.D.Device.synced g.D.Device.bytewise g.D.Device.syncs l.initial.self l.self;
  hindered : g.D.Device.hindered l.self.device ≡ g.D.Device.hindered l.initial.self.device;
}

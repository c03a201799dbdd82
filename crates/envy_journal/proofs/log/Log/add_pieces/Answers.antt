use Rattle.std.proofs.Common.{arith, refl, ◌∙◌}
use Rattle.envy_journal.proofs.Longer.{longer_both, longer_none}
use Rattle.envy_journal.proofs.log.Log.add_pieces.Goals as goal

pub loop-turn-init : goal.loop-turn-init
loop-turn-init g c =
    let D = g.D.Device in
    let log = c.args.self.now in
    record { sound = c.requires.sound; counted = c.requires.counted; size = omega arith; longer = longer_none D.seen D.may_leave D.moment D.left_since D.synced D.bytewise D.syncs log c.requires.sound (g.met.D.Device.only_now log.device); hindered = refl }

pub loop-turn-preserved : goal.loop-turn-preserved
loop-turn-preserved g c =
    let D = g.D.Device in
    let was = c.loop-turn.invariant in
    let add = c.in_ok-add_zeros.ensures in
    record {
      sound = add.sound;
      counted = add.counted;
      size = omega (arith, add.size, was.size);
      longer = longer_both D.seen D.may_leave D.moment D.left_since D.synced D.bytewise D.syncs c.args.self.now c.loop-turn.self c.add_zeros.new.self c.requires.sound was.longer c.add_zeros.ensures.longer;
      hindered = c.add_zeros.ensures.hindered ∙ was.hindered;
    }

pub returns-in_err-add_zeros-clause-longer : goal.returns-in_err-add_zeros-clause-longer
returns-in_err-add_zeros-clause-longer g c =
    let D = g.D.Device in
    longer_both D.seen D.may_leave D.moment D.left_since D.synced D.bytewise D.syncs c.args.self.now c.loop-turn.self c.add_zeros.new.self c.requires.sound c.loop-turn.invariant.longer c.add_zeros.ensures.longer

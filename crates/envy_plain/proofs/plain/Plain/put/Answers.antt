use Rattle.std.proofs.Common.{refl}
use Rattle.envy_array.specs.Array.{page_of}
use Rattle.envy_array.specs.Step.{MayOwn}
use Rattle.envy_plain.proofs.Moves.{may-mine, may-free, puts, saved-in_range}
use Rattle.envy_plain.proofs.plain.Plain.put.Goals as goal
use Rattle.envy_plain.proofs.plain.Plain.put.Goals.{in-Some+else-slot-t, in-None+else-self}

pub save-requires-clause-may : goal.save-requires-clause-may
save-requires-clause-may c = elim c.match-owner.branch [
  | in-Some+else-slot-t w ↦ may-mine c.args.self.now c.args.t _ w.in-Some.slot c.in_ok-owner.owner c.in_ok-owner.ensures.1 w.in-Some.is w.if-slot-t.false
  | in-None+else-self w ↦ may-free c.args.self.now _ c.args.t _ c.self.inside.owned c.self.inside.shadows c.in_ok-owner.owner c.in_ok-owner.ensures.1 w.in-None.is c.self.view_is c.self.invariant.counted refl w.if-self.false
]

pub write-requires : goal.write-requires
write-requires c = saved-in_range c.args.self.now c.save.new.self c.args.t c.args.a c.in_ok-owner.ensures.0 c.if-not-is_open.ensures c.save.ensures

pub returns : goal.returns
returns c =
    let may : MayOwn c.args.self.now c.args.t (page_of c.args.a) = elim c.match-owner.branch [
      | in-Some+else-slot-t w ↦ may-mine c.args.self.now c.args.t _ w.in-Some.slot c.in_ok-owner.owner c.in_ok-owner.ensures.1 w.in-Some.is w.if-slot-t.false
      | in-None+else-self w ↦ may-free c.args.self.now _ c.args.t _ c.self.inside.owned c.self.inside.shadows c.in_ok-owner.owner c.in_ok-owner.ensures.1 w.in-None.is c.self.view_is c.self.invariant.counted refl w.if-self.false
    ] in
    puts c.args.self.now c.save.new.self c.write.new.self c.args.t c.args.a c.args.w c.in_ok-owner.ensures.0 may c.if-not-is_open.ensures c.save.ensures c.write.ensures

use Rattle.envy_mirror.proofs.Marking.{side-failed}
use Rattle.envy_mirror.proofs.both_sides.ask_both.Goals as goal

pub part-requires : goal.part-requires
part-requires g c = side-failed (g.C.Call.command c.args.call.now) _ c.args.first.now c.ask-one.new.self c.ask-one.ensures.asked

pub part-requires-2 : goal.part-requires-2
part-requires-2 g c = side-failed (g.C.Call.command c.args.call.now) _ c.args.second.now c.ask-two.new.self c.ask-two.ensures.asked

pub returns : goal.returns
returns g c = record {
  one = c.ask-one.result;
  two = c.ask-two.result;
  to_first = (c.ask-one.new.self, c.ask-one.ensures.asked, c.ask-one.ensures.does, c.part.ensures);
  to_second = (c.ask-two.new.self, c.ask-two.ensures.asked, c.ask-two.ensures.does, c.part-2.ensures);
  told = c.choose.ensures.heard;
  lowest = c.choose.ensures.first;
  next = c.choose.ensures.second;
}

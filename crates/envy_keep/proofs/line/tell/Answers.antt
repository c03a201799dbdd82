use Rattle.std.proofs.Common.{rules}
use Rattle.envy_keep.proofs.Goes.{obeys-done, obeys-failed, obeys-dead}
use Rattle.envy_keep.proofs.line.tell.Goals as goal

pub returns-then-not-powered : goal.returns-then-not-powered
returns-then-not-powered g c start turns line before t ranges a =
    obeys-dead start before c.args.memory.now turns line c.args.reply.now c.write_keep_reply-wrote.result (g.K.Sink.drain c.args.sink.now) (g.K.Sink.drain c.write_keep_reply-wrote.new.sink) t ranges a (search rules) c.write_keep_reply-wrote.ensures

pub returns-in-Ok : goal.returns-in-Ok
returns-in-Ok g c start turns line before t ranges a =
    obeys-done start before c.args.memory.now turns line c.args.reply.now (g.K.Sink.drain c.args.sink.now) (g.K.Sink.drain c.write_keep_reply-wrote.new.sink) t ranges a (search rules) c.invariant_holds.ensures.memory c.in-Ok.ensures

pub returns-in-Err : goal.returns-in-Err
returns-in-Err g c start turns line before t ranges a =
    obeys-failed start before c.args.memory.now turns line c.args.reply.now (g.K.Sink.drain c.args.sink.now) (g.K.Sink.drain c.write_keep_reply-wrote.new.sink) _ t ranges a (search rules) c.invariant_holds.ensures.memory c.in-Err.ensures

use Rattle.std.proofs.Common.{refl}
use Rattle.envy_serve.specs.Turns.{one_if}
use Rattle.envy_run.specs.IndexTurns.{most_of, plan_of, is_lost, is_fault}
use Rattle.envy_run.proofs.IndexTold.{index-done, index-failed, index-recovers, stays-of}
use Rattle.envy_run.proofs.index_lines.tell.Goals as goal

pub returns-in-Lost : goal.returns-in-Lost
returns-in-Lost g c line es before begun s answers licence spent =
    let v = c.args.words.now in
    let r = c.args.reply.now in
    index-recovers (most_of before.chart.shape.pages) es line r before.chart v.memory.chart c.recover_words.new.words.memory v.begun c.recover_words.new.words.begun v.memory (g.K.Sink.drain c.args.sink.now) (g.K.Sink.drain c.write_index_reply-wrote.new.sink) (g.K.Sink.drain c.recover_words.new.sink) c.write_index_reply-wrote.result c.recover_words.result refl (stays-of es before begun v.memory.chart 0 (plan_of line) (one_if (is_lost r)) (one_if (is_fault r)) s licence) c.in-Lost.is answers licence spent c.write_index_reply-wrote.ensures c.recover_words.ensures

pub returns-in-Ok : goal.returns-in-Ok
returns-in-Ok g c line es before begun s answers licence spent =
    let v = c.args.words.now in
    index-done (most_of before.chart.shape.pages) es line c.args.reply.now before.chart v.memory v.begun (g.K.Sink.drain c.args.sink.now) (g.K.Sink.drain c.write_index_reply-wrote.new.sink) c.in_default.not-Lost answers licence spent c.in-Ok.ensures

pub returns-in-Err : goal.returns-in-Err
returns-in-Err g c line es before begun s answers licence spent =
    let v = c.args.words.now in
    index-failed (most_of before.chart.shape.pages) es line c.args.reply.now before.chart v.memory v.begun (g.K.Sink.drain c.args.sink.now) (g.K.Sink.drain c.write_index_reply-wrote.new.sink) _ c.in_default.not-Lost answers licence spent c.in-Err.ensures

use Rattle.std.proofs.Common.{rules}
use Rattle.envy_run.proofs.IndexTold.{back-after, off-again, off-dead}
use Rattle.envy_run.proofs.index_lines.restart_words.Goals as goal

pub returns-in-Ok : goal.returns-in-Ok
returns-in-Ok g c = back-after c.args.words.now.memory.chart c.loop.words.memory.chart c.wake.new.self.memory c.wake.new.self.begun c.loop.invariant c.in-Ok.ensures.kept c.in-Ok.ensures.ok.0 c.in-Ok.ensures.ok.1

pub returns-in-Err-Dead : goal.returns-in-Err-Dead
returns-in-Err-Dead g c = off-dead c.args.words.now.memory.chart c.loop.words.memory c.wake.new.self.memory c.loop.invariant c.in-Err-Dead.ensures.kept (c.wake.ensures.dead.0 (search rules))

pub loop-preserved : goal.loop-preserved
loop-preserved g c = off-again c.args.words.now.memory.chart c.loop.words.memory c.wake.new.self.memory c.loop.invariant c.in-Err-Off.ensures.kept

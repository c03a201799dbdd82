use Rattle.std.proofs.Common.{◌-◌, length}
use Rattle.envy_journal.proofs.Replayed.{HasDone}
use Rattle.envy_journal.proofs.replay.replay_file.Given as goal

abbrev pub invariant-loop-at : goal.invariant-loop-at
invariant-loop-at g l = HasDone (g.B.Board.state l.initial.board) (g.B.Board.state l.board) l.bytes l.at l.within

abbrev pub decreases-loop-at : goal.decreases-loop-at
decreases-loop-at g l = length l.bytes - l.at

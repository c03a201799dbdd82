use Rattle.envy_plain.proofs.Turns.{restore_own, restore_skip}
use Rattle.envy_plain.proofs.saved_word.restore.Goals as goal
use Rattle.envy_plain.proofs.saved_word.restore.Goals.{then-word-slot, else-word-slot}

pub loop-word-preserved : goal.loop-word-preserved
loop-word-preserved c = elim c.if-word-slot.branch [
  | then-word-slot w ↦ restore_own c.args.slot c.args.saved.now c.loop-word.word-index c.args.words.now c.loop-word.words _ c.requires.once c.loop-word-test.true w.if-word-slot.true c.loop-word.invariant w.words-is
  | else-word-slot w ↦ restore_skip c.args.slot c.args.saved.now c.loop-word.word-index c.args.words.now c.loop-word.words _ c.loop-word-test.true w.if-word-slot.false c.loop-word.invariant w.words-is
]

use Rattle.envy_plain.proofs.Turns.{Releases}
use Rattle.envy_plain.proofs.saved_word.release.Given as goal

abbrev pub invariant-loop-word : goal.invariant-loop-word
invariant-loop-word l = Releases l.initial.owners l.owners l.slot l.saved l.word-index l.pages

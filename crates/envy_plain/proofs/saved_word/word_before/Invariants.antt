use Rattle.std.proofs.Common.{◌≢◌, All, take}
use Rattle.envy_plain.proofs.saved_word.word_before.Given as goal

abbrev pub invariant-loop-word : goal.invariant-loop-word
invariant-loop-word l = All (λ e. e.address ≢ l.address) (take l.word-index l.saved)

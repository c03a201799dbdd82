use Rattle.std.proofs.Common.{◌≡◌, take}
use Rattle.envy_array.specs.Array.{put_back}
use Rattle.envy_plain.specs.Fields.{saved_by}
use Rattle.envy_plain.proofs.saved_word.restore.Given as goal

abbrev pub invariant-loop-word : goal.invariant-loop-word
invariant-loop-word l = l.words ≡ put_back (saved_by l.slot (take l.word-index l.saved)) l.initial.words

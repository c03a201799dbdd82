use Rattle.envy_synced.proofs.Reopened.{same_fields, same_words, same_sound}
use Rattle.envy_synced.proofs.laws.a_file_opens_as_one_board.Goals as goal

pub returns-clause-words : goal.returns-clause-words
returns-clause-words c was s file opens shape content = same_words was s file opens shape content

pub returns-clause-fields : goal.returns-clause-fields
returns-clause-fields c was s file opens shape content = same_fields was s file opens shape content

pub returns-clause-sound : goal.returns-clause-sound
returns-clause-sound c was s file opens shape content sound = λ on formatted. same_sound was s file opens shape content sound

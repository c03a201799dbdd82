use Rattle.std.proofs.Common.{arith}
use Rattle.envy_journal.proofs.Joined.{word_joined}
use Rattle.envy_journal.proofs.run.lengthen_in.Goals as goal

pub returns-clause-longer : goal.returns-clause-longer
returns-clause-longer c =
    word_joined c.args.buffer.now c.write_word.new.into c.args.at c.args.used c.args._w c.args.v c.words_of_tag-words.result c.requires.next (omega (arith, c.requires.room)) c.words_of_tag-words.ensures.value c.write_word.ensures.written

use Rattle.std.proofs.Common.{◌≡◌, ◌∙◌, length, take, sym, arith}
use Rattle.std.proofs.lemmas.List.{take_all}
use Rattle.envy_journal.specs.Version.{version}
use Rattle.envy_journal.proofs.Headed.{pieces}
use Rattle.envy_journal.proofs.head.head_of.Goals as goal

pub returns : goal.returns
returns c =
    let whole = c.write_number-6.new.into in
    let long : length whole ≡ 33 =
    c.write_number-6.ensures.room ∙ c.write_number-5.ensures.room ∙ c.write_number-4.ensures.room ∙ c.write_number-3.ensures.room
    ∙ c.write_number-2.ensures.room ∙ c.write_number.ensures.room ∙ c.copy_behind-2.ensures.room ∙ c.copy_behind.ensures.room in
    sym (take_all 33 whole (omega (arith, long)))
    ∙ pieces version c.args.shape.now (take 8 c.copy_behind.new.buffer) (take 9 c.copy_behind-2.new.buffer) (take 13 c.write_number.new.into) (take 17 c.write_number-2.new.into)
    (take 21 c.write_number-3.new.into) (take 25 c.write_number-4.new.into) (take 29 c.write_number-5.new.into) (take 33 whole)
    c.copy_behind.ensures.copied c.copy_behind-2.ensures.copied c.write_number.ensures.written c.write_number-2.ensures.written
    c.write_number-3.ensures.written c.write_number-4.ensures.written c.write_number-5.ensures.written c.write_number-6.ensures.written

use Rattle.std.proofs.Common.{◌∙◌, refl, sym, length}
use Rattle.std.proofs.lemmas.Bool.{false≢true}
use Rattle.envy_memory.proofs.RoomLemmas.{never-full}
use Rattle.envy_memory.proofs.memory.Memory.put_run.Goals as goal

pub returns-then-lacks_room-clause-puts : goal.returns-then-lacks_room-clause-puts
returns-then-lacks_room-clause-puts g c = (c.args.self.now, refl, λ other. absurd (other refl))

pub returns-clause-puts : goal.returns-clause-puts
returns-clause-puts g c = let (between, puts, ends) = c.put_words.ensures in (between, puts, λ other. ends)

pub returns-clause-full : goal.returns-clause-full
returns-clause-full g c =
    let (between, puts, ends) = c.put_words.ensures in (
      λ full. never-full c.put_words.result.0 (length c.args.words.now) c.args.t c.args.a c.args.words.now c.put_words.result.1 c.args.self.now between c.put_words.new.self refl puts ends full,
      λ lacking. absurd (false≢true (sym c.if-lacks_room.false ∙ c.lacks_room.ensures.1 lacking)),
    )

pub returns-clause-refused : goal.returns-clause-refused
returns-clause-refused g c full =
    let (between, puts, ends) = c.put_words.ensures in
    let lacking = never-full c.put_words.result.0 (length c.args.words.now) c.args.t c.args.a c.args.words.now c.put_words.result.1 c.args.self.now between c.put_words.new.self refl puts ends full in
    absurd (false≢true (sym c.if-lacks_room.false ∙ c.lacks_room.ensures.1 lacking))

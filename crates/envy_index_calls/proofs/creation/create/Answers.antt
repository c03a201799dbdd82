use Rattle.std.proofs.Common.{arith, subst, sym}
use Rattle.envy_calls.specs.declared.code.Code.{Code}
use Rattle.envy_index_calls.specs.Indexed.{Creates, MayServe, creation_puts}
use Rattle.envy_index_calls.proofs.Lending.{Back, Lent, lent, least-in, keeps-back, creates, made}
use Rattle.envy_index_calls.proofs.creation.create.Goals as goal

pub create_alone-made-requires-clause-room : goal.create_alone-made-requires-clause-room
create_alone-made-requires-clause-room g c =
    let p = c.in-Ok.words.memory in
    let b = c.in-Ok.words.begun in
    let l = lent c.args.slot.now c.words_of.new.slot p b c.in-Ok.ensures.lends in
    omega (arith, MayServe.shadows (Lent.may l))

pub create_alone-made-requires-clause-size : goal.create_alone-made-requires-clause-size
create_alone-made-requires-clause-size g c =
    let p = c.in-Ok.words.memory in
    let b = c.in-Ok.words.begun in
    let l = lent c.args.slot.now c.words_of.new.slot p b c.in-Ok.ensures.lends in
    omega (arith, least-in c.args.slot.now p b l)

pub returns : goal.returns
returns g c =
    let p = c.in-Ok.words.memory in
    let b = c.in-Ok.words.begun in
    let l = lent c.args.slot.now c.words_of.new.slot p b c.in-Ok.ensures.lends in
    let q = c.create_alone-made.new.words.memory in
    let d = c.create_alone-made.new.words.begun in
    let back : Back q d = record { shut = c.create_alone-made.ensures.shut; stands = c.return_words.ensures.shut } in
    creates c.args.slot.now c.return_words.new.slot p q b c.told.result l c.return_words.ensures.back (keeps-back creation_puts p q b d c.create_alone-made.ensures.keeps c.create_alone-made.ensures.spends) (subst (λ (k : Code). Creates p q k) (sym c.told.ensures) (made c.args.slot.now p q b d c.create_alone-made.result l back c.create_alone-made.ensures.blanks))

use Rattle.std.proofs.Common.{◌∙◌, ◌+◌, List, ℕ, ap, arith, sym, take, length-take}
use Rattle.std.proofs.lemmas.Bool.{false≢true}
use Rattle.envy_journal.specs.Reading.{zeros}
use Rattle.envy_journal.proofs.Spilled.{zeros_fit}
use Rattle.envy_journal.proofs.log.Log.zeros_written.Goals as goal

pub returns-then-is_bytewise : goal.returns-then-is_bytewise
returns-then-is_bytewise g c = λ on. ap (λ (n : ℕ). c.args.self.now.zeros + n) (c.zeros.ensures.value ∙ ap (λ (l : List ℕ). zeros (take c.args.self.now.used l)) c.deref.ensures.value)

pub returns-else-is_bytewise : goal.returns-else-is_bytewise
returns-else-is_bytewise g c = λ on. absurd (false≢true (sym c.if-is_bytewise.false ∙ c.is_bytewise.ensures ∙ on))

pub overflow_add-result : goal.overflow_add-result
overflow_add-result g c =
    let log = c.args.self.now in
    let D = g.D.Device in
    let on = sym c.is_bytewise.ensures ∙ c.if-is_bytewise.true in
    let fit = zeros_fit D.seen D.may_leave D.bytewise log c.requires.counted on in
    let some = c.zeros.ensures.few in
    let held = log.few in
    omega (arith, fit, some, held, c.requires.small, length-take {A = ℕ})

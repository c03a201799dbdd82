use Rattle.std.proofs.Common.{◌∙◌, ◌+◌, sym}
use Rattle.std.proofs.lemmas.Bool.{eq-eqb, false≢true}
use Rattle.envy_journal.proofs.Resumed.{ends_idle}
use Rattle.envy_journal.proofs.log.Log.is_idle.Goals as goal

pub returns-then-self-eq0-clause-busy : goal.returns-then-self-eq0-clause-busy
returns-then-self-eq0-clause-busy g c = λ no none.
    let log = c.args.self.now in
    false≢true (sym no ∙ eq-eqb log.end (log.gate + 1) (ends_idle g.D.Device.seen g.D.Device.may_leave g.D.Device.left_since g.D.Device.synced log c.requires.sound none).0)

pub returns-else-self-eq0-clause-busy : goal.returns-else-self-eq0-clause-busy
returns-else-self-eq0-clause-busy g c = λ no none.
    let log = c.args.self.now in
    false≢true (sym no ∙ eq-eqb log.used 0 (ends_idle g.D.Device.seen g.D.Device.may_leave g.D.Device.left_since g.D.Device.synced log c.requires.sound none).1)

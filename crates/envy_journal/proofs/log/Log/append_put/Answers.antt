use Rattle.std.proofs.Common.{rules, ◌∙◌, sym}
use Rattle.std.proofs.lemmas.Bool.{false≢true}
use Rattle.envy_journal.specs.Log.{held_bytes}
use Rattle.envy_journal.proofs.Gathered.{ok_goes}
use Rattle.envy_journal.proofs.Joined.{added_gains}
use Rattle.envy_journal.proofs.log.Log.append_put.Goals as goal

pub append-requires-clause-whole : goal.append-requires-clause-whole
append-requires-clause-whole g c = tt

pub returns-then-can_join-clause-alone : goal.returns-then-can_join-clause-alone
returns-then-can_join-clause-alone g c = λ none. absurd (false≢true (sym none ∙ c.can_join.ensures.runs c.if-can_join.true))

pub returns-clause-ok : goal.returns-clause-ok
returns-clause-ok g c =
    let seen = g.D.Device.seen in
    let a = c.append in
    ok_goes a.result a.ensures.ok (λ ok. (ok.0, added_gains c.args.w c.args.v (held_bytes seen c.args.self.now) (held_bytes seen a.new.self) (search rules) (search rules) ok.1))

pub returns-clause-alone : goal.returns-clause-alone
returns-clause-alone g c = λ none. ok_goes c.append.result c.append.ensures.ok (λ ok. ok.1)

use Rattle.std.proofs.Common.{sym}
use Rattle.std.proofs.lemmas.Bool.{false≢true}
use Rattle.std.proofs.Common.{◌≡◌, ◌∙◌, ℕ, Bool, true, List, refl, ap, subst}
use Rattle.envy_journal.specs.declared.operation.Operation.{Operation}
use Rattle.envy_journal.specs.Content.{content_of, holds}
use Rattle.envy_journal.specs.Head.{StandsFor}
use Rattle.envy_journal.specs.Journal.{journal_state, kept}
use Rattle.envy_journal.specs.Snapshot.{limit_of}
use Rattle.envy_journal.proofs.Condensed.{none_spilled}
use Rattle.envy_map.specs.Fields.{chart}
use Rattle.envy_synced.specs.Disk.{IsKept, IsSynced, disk_state, notes_of, sync_of}
use Rattle.envy_synced.proofs.Going.{synced, failed, fails_told, stands_now}
use Rattle.envy_synced.proofs.Telling.{synced_now}
use Rattle.envy_synced.proofs.kept.KeptDurable.sync.Goals as goal

pub invariant_of-self : goal.invariant_of-self
invariant_of-self g c =
    let k = c.args.self.now in
    let j = k.journal in
    let new = c.sync.new.self in
    let seen = g.D.Device.seen in
    let moment = g.D.Device.moment in
    let hindered = g.D.Device.hindered in
    let left = g.D.Device.left_since in
    let a = g.B.Board.state j.board in
    let was = k.synced.value.log in
    let e = c.in-Ok.ensures in
    let is : IsKept seen moment hindered left j.log was k.before.value.log a = subst (λ (d : Bool). IsKept seen moment hindered left j.log was k.before.value.log (journal_state d a)) e.ok.alive k.kept in
    let stands = λ (file : List ℕ) (after : left new.log.device (moment new.log.device) file).
    subst (λ (x : g.row.B.Denot). StandsFor (g.B.Board.state x).shape (kept seen new.log) file) e.board
    (stands_now seen g.D.Device.may_leave moment left g.D.Device.synced new.log (g.B.Board.state new.board) (g.met.D.Device.only_now new.log.device) (new.logged e.ok.still_alive) file after) in
    let fresh : IsKept seen moment hindered left new.log new.log was a = synced seen moment hindered left j.log was k.before.value.log a is (g.met.B.Steady.steady j.board).on new.log e.any_moment_ok stands in
    let D = g.D.Device in
    record { kept = rw (c.replace.ensures.value, c.replace.ensures.after, c.of.ensures, e.ok.still_alive, e.board) fresh; light = λ alive. none_spilled D.seen D.may_leave D.left_since D.synced D.bytewise new.log (new.logged alive).sound (new.counted alive) e.ok.none_held (limit_of (g.B.Board.state new.board).shape) }

pub invariant_of-self-in-Err : goal.invariant_of-self-in-Err
invariant_of-self-in-Err g c =
    let k = c.args.self.now in
    let j = k.journal in
    let new = c.sync.new.self in
    let seen = g.D.Device.seen in
    let a = g.B.Board.state j.board in
    let e = c.in-Err.ensures in
    let dead : new.dead ≡ true = e.dead in
    let ended : IsKept seen g.D.Device.moment g.D.Device.hindered g.D.Device.left_since new.log k.synced.value.log k.before.value.log (journal_state true a) =
    failed seen g.D.Device.moment g.D.Device.hindered g.D.Device.left_since j.dead a j.log new.log k.synced.value.log k.before.value.log (g.met.B.Steady.steady j.board).on k.kept e.any_moment e.still in
    record { kept = rw (dead, e.board) ended; light = λ alive. absurd (false≢true (sym alive ∙ dead)) }

pub returns-in-Ok-clause-answer : goal.returns-in-Ok-clause-answer
returns-in-Ok-clause-answer g c =
    let k = c.args.self.now in
    let j = k.journal in
    let new = c.sync.new.self in
    let e = c.in-Ok.ensures in
    rw (c.replace.ensures.value, c.replace.ensures.after, c.of.ensures, e.ok.still_alive, e.board, e.ok.alive)
    ((g.met.B.Steady.steady j.board).on, sync_of g.D.Device.seen g.D.Device.moment g.D.Device.hindered new.log, refl)

pub returns-in-Ok-clause-synced : goal.returns-in-Ok-clause-synced
returns-in-Ok-clause-synced g c =
    let k = c.args.self.now in
    let new = c.sync.new.self in
    let seen = g.D.Device.seen in
    let moment = g.D.Device.moment in
    let b = g.B.Board.state new.board in
    let e = c.in-Ok.ensures in
    let content : content_of b ≡ holds b.shape (kept seen new.log) = (new.logged e.ok.still_alive).content ∙ ap (λ (p : List Operation). holds b.shape p) e.ok.all in
    let fresh : IsSynced (chart (disk_state seen moment g.D.Device.hindered new.log k.synced.value.log b)) = synced_now seen moment g.D.Device.hindered new.log k.synced.value.log b content in
    rw (c.replace.ensures.value, c.replace.ensures.after, c.of.ensures, e.ok.still_alive) fresh

pub returns-in-Err-clause-answer : goal.returns-in-Err-clause-answer
returns-in-Err-clause-answer g c =
    let k = c.args.self.now in
    let j = k.journal in
    let new = c.sync.new.self in
    let seen = g.D.Device.seen in
    let was = k.synced.value.log in
    let before = k.before.value.log in
    let e = c.in-Err.ensures in
    let dead : new.dead ≡ true = e.dead in
    rw (dead, e.board) (fails_told (Unit {0}) (notes_of seen g.D.Device.moment g.D.Device.hindered was before) j.dead (g.B.Board.state j.board) _ (g.met.B.Steady.steady j.board).on)

use Rattle.std.proofs.Common.{◌∙◌, List, ap, refl}
use Rattle.envy_journal.specs.declared.operation.Operation.{Operation}
use Rattle.envy_journal.specs.Content.{holds}
use Rattle.envy_synced.specs.Disk.{IsKept}
use Rattle.envy_journal.specs.Journal.{held, kept}
use Rattle.envy_journal.specs.Snapshot.{limit_of}
use Rattle.envy_journal.proofs.Condensed.{none_spilled}
use Rattle.envy_synced.proofs.Lightened.{none_more}
use Rattle.envy_synced.proofs.Going.{kept_new, stands_now}
use Rattle.envy_synced.proofs.Telling.{synced_now}
use Rattle.envy_synced.proofs.kept.Kept.new.Goals as goal

pub invariant_of-result : goal.invariant_of-result
invariant_of-result g c =
    let j = c.args.journal in
    let seen = g.D.Device.seen in
    let moment = g.D.Device.moment in
    let left = g.D.Device.left_since in
    let a = g.B.Board.state j.board in
    let alive = c.requires.alive in
    let is = j.logged alive in
    let fresh : IsKept seen moment g.D.Device.hindered left j.log j.log j.log a = kept_new seen moment g.D.Device.hindered left j.log a (stands_now seen g.D.Device.may_leave moment left g.D.Device.synced j.log a (g.met.D.Device.only_now j.log.device) is) in
    let D = g.D.Device in
    record {
      kept = rw (c.of-synced.ensures, c.of-before.ensures, alive) fresh;
      light = λ still. none_spilled D.seen D.may_leave D.left_since D.synced D.bytewise j.log is.sound (j.counted alive) (none_more (kept seen j.log) (held seen j.log) c.requires.rests) (limit_of a.shape);
    }

pub returns-clause-synced : goal.returns-clause-synced
returns-clause-synced g c =
    let j = c.args.journal in
    let seen = g.D.Device.seen in
    let moment = g.D.Device.moment in
    let a = g.B.Board.state j.board in
    let alive = c.requires.alive in
    let is = j.logged alive in
    rw (c.of-synced.ensures, c.of-before.ensures, alive)
    (synced_now seen moment g.D.Device.hindered j.log j.log a (is.content ∙ ap (λ (p : List Operation). holds a.shape p) c.requires.rests))

pub returns-clause-reads : goal.returns-clause-reads
returns-clause-reads g c = rw (c.of-synced.ensures) refl

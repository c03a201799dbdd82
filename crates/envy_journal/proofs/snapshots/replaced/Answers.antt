use Rattle.std.proofs.Common.{◌≡◌, ◌∙◌, ◌-◌, ◌∷◌, ◌++◌, [], false, length, take, drop, replicate, ℕ, sym, ap, subst, arith}
use Rattle.envy_journal.specs.Journal.{IsFileOf}
use Rattle.envy_journal.specs.Log.{HasRuns}
use Rattle.envy_journal.specs.Reading.{operations, Leads}
use Rattle.envy_journal.specs.Snapshot.{gathered, most_of}
use Rattle.envy_journal.proofs.Gathered.{replaced_file, replaced_kept, replaced_leads, replaced_closed, replaced_runs, replaced_size}
use Rattle.envy_journal.proofs.Untouched.{then_replaced}
use Rattle.envy_journal.proofs.snapshots.replaced.Goals as goal

pub returns-clause-rest : goal.returns-clause-rest
returns-clause-rest g c =
    let s = g.B.Board.state c.args.board.now in
    let bytes = gathered g.D.Replaceable.second c.gather.new.log in
    let file = g.D.Device.seen c.replace.new.self.device in
    let is = c.in_ok-replace.ensures in
    let makes = c.in_ok-gather.ensures.makes in
    let most = most_of s.shape - 2 in (
      record {
        within = omega (arith, replaced_size s most bytes file makes is.file.0, is.gate.0);
        closed = ap (λ (n : ℕ). drop n file) is.gate.0 ∙ replaced_closed s most bytes file makes is.file.0 ∙ ap (λ (n : ℕ). replicate (length file - n) 0) (sym is.gate.0);
        durable = is.durable;
        synced_now = is.synced;
      },
      is.gate.1,
      is.file.1,
      is.file.2,
    )

pub returns-clause-leads : goal.returns-clause-leads
returns-clause-leads g c =
    let s = g.B.Board.state c.args.board.now in
    let bytes = gathered g.D.Replaceable.second c.gather.new.log in
    let file = g.D.Device.seen c.replace.new.self.device in
    let is = c.in_ok-replace.ensures in
    subst (λ (n : ℕ). Leads false 33 (take n file) (operations (take n file)) false) (sym is.gate.0) (replaced_leads s (most_of s.shape - 2) bytes file c.in_ok-gather.ensures.makes is.file.0)

pub returns-clause-file : goal.returns-clause-file
returns-clause-file g c =
    let s = g.B.Board.state c.args.board.now in
    let bytes = gathered g.D.Replaceable.second c.gather.new.log in
    let file = g.D.Device.seen c.replace.new.self.device in
    let is = c.in_ok-replace.ensures in
    subst (λ (n : ℕ). IsFileOf s (take n file)) (sym is.gate.0) (replaced_kept s (most_of s.shape - 2) bytes file c.in_ok-gather.ensures.makes is.file.0)

pub returns-clause-any_moment : goal.returns-clause-any_moment
returns-clause-any_moment g c =
    let s = g.B.Board.state c.args.board.now in
    let bytes = gathered g.D.Replaceable.second c.gather.new.log in
    then_replaced g.D.Device.seen g.D.Device.may_leave g.D.Device.moment g.D.Device.left_since g.D.Device.synced g.D.Device.bytewise c.args.log.now.device c.gather.new.log.device c.replace.new.self.device (λ x. x ≡ bytes ++ 5 ∷ 0 ∷ []) (IsFileOf s)
    c.gather.ensures.untouched c.replace.ensures.any_moment (λ x is. replaced_file s (most_of s.shape - 2) bytes x c.in_ok-gather.ensures.makes is)

pub returns-in_err-replace-clause-any_moment : goal.returns-in_err-replace-clause-any_moment
returns-in_err-replace-clause-any_moment g c =
    let s = g.B.Board.state c.args.board.now in
    let bytes = gathered g.D.Replaceable.second c.gather.new.log in
    then_replaced g.D.Device.seen g.D.Device.may_leave g.D.Device.moment g.D.Device.left_since g.D.Device.synced g.D.Device.bytewise c.args.log.now.device c.gather.new.log.device c.replace.new.self.device (λ x. x ≡ bytes ++ 5 ∷ 0 ∷ []) (IsFileOf s)
    c.gather.ensures.untouched c.replace.ensures.any_moment (λ x is. replaced_file s (most_of s.shape - 2) bytes x c.in_ok-gather.ensures.makes is)

pub returns-clause-runs : goal.returns-clause-runs
returns-clause-runs g c =
    let s = g.B.Board.state c.args.board.now in
    let bytes = gathered g.D.Replaceable.second c.gather.new.log in
    let file = g.D.Device.seen c.replace.new.self.device in
    let is = c.in_ok-replace.ensures in
    subst (λ (n : ℕ). HasRuns (take n file)) (sym is.gate.0) (replaced_runs s (most_of s.shape - 2) bytes file c.in_ok-gather.ensures.makes is.file.0)

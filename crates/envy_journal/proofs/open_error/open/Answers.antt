use Rattle.std.proofs.Common.{rules, ◌≡◌, ℕ, refl, subst}
use Rattle.envy_journal.specs.Found.{IsDamaged}
use Rattle.envy_journal.specs.declared.replay.Unread.TheVariants.{Damaged}
use Rattle.envy_journal.proofs.Logged.{head_long}
use Rattle.envy_journal.proofs.open_error.open.Goals as goal

pub replay_file-requires : goal.replay_file-requires
replay_file-requires g c = head_long (g.B.Board.state c.args.board).shape c.args.bytes.now c.requires.head

pub returns-clause-within_err : goal.returns-clause-within_err
returns-clause-within_err g c = λ other.
    let is : c.in-Err-Damaged.field-0 ≡ Damaged c.in-Err-Damaged.place = search rules in
    (c.in-Err-Damaged.ensures.damaged c.in-Err-Damaged.place is).0

pub returns-clause-damaged : goal.returns-clause-damaged
returns-clause-damaged g c = λ place told.
    let is : c.in-Err-Damaged.field-0 ≡ Damaged c.in-Err-Damaged.place = search rules in
    let same : c.in-Err-Damaged.place ≡ place = search rules in
    (subst (λ (k : ℕ). IsDamaged k c.args.bytes.now) same (c.in-Err-Damaged.ensures.damaged c.in-Err-Damaged.place is).1, refl)

use Rattle.std.proofs.Common.{arith, subst, sym}
use Rattle.envy_base.specs.declared.shape.Shape.{Shape}
use Rattle.envy_base.specs.Shape.{IsShape}
use Rattle.envy_journal.proofs.journaled.Journaled.append_instead.Goals as goal

pub next_limit-self-requires : goal.next_limit-self-requires
next_limit-self-requires g c =
    let board = g.met.B.Board.lawful c.sync_log.new.self.board in
    subst (λ (sh : Shape). IsShape sh) (sym c.shape.ensures) board.shape

pub returns-clause-next : goal.returns-clause-next
returns-clause-next g c =
    let did = c.in_ok-sync_log.ensures in
    let limit = c.next_limit-self.ensures in
    (omega (arith, did.file, limit.longer), limit.some)

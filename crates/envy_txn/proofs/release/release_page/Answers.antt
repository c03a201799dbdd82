use Rattle.std.proofs.Common.{Some, sym, subst}
use Rattle.envy_base.specs.declared.fields.Slot.TheVariants.{Active}
use Rattle.envy_map.specs.Fields.{chart}
use Rattle.envy_map.specs.Writes.{with_slot}
use Rattle.envy_space.specs.Pool.{Pool, PoolAgrees}
use Rattle.envy_txn.proofs.ReleaseLemmas.{Releases, droppable, PoolAgrees-released}
use Rattle.envy_txn.proofs.ReleaseLoop.{Releasing-after}
use Rattle.envy_txn.proofs.release.release_page.Goals as goal

pub note_dropped-requires : goal.note_dropped-requires
note_dropped-requires g c =
    let old = chart (g.B.Board.state c.args.board.now) in
    let r : Releases old c.args.space.now c.args.page c.args.t = record { releasing = c.requires.releasing; page = c.requires.page; names = c.requires.names } in
    droppable old c.args.space.now c.args.page c.args.t c.in_ok-undo.undo r c.in_ok-undo.ensures.value.1

pub returns-clause-releasing : goal.returns-clause-releasing
returns-clause-releasing g c =
    let old = chart (g.B.Board.state c.args.board.now) in
    let new = chart (g.B.Board.state c.clear_settled_undo.new.board) in
    let r : Releases old c.args.space.now c.args.page c.args.t = record { releasing = c.requires.releasing; page = c.requires.page; names = c.requires.names } in
    let e = c.in_ok-clear_settled_undo.ensures in
    let pool : PoolAgrees new.shape (with_slot c.args.t (Some Active) new.fields) c.note_dropped.new.space =
    subst (λ (x : Pool). PoolAgrees new.shape (with_slot c.args.t (Some Active) new.fields) x) (sym c.note_dropped.ensures)
    (PoolAgrees-released old new c.args.space.now c.args.page c.args.t c.in_ok-undo.undo r c.in_ok-undo.ensures.value.1 e.fields) in
    Releasing-after old new c.args.space.now c.note_dropped.new.space c.args.page c.args.t c.requires.releasing c.requires.page e.power e.same e.fields pool

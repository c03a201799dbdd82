use Rattle.std.proofs.Common.{◌+◌, ◌*◌, refl}
use Rattle.std.proofs.lemmas.Result.{err_from_is_err_and}
use Rattle.envy_map.specs.Fields.{chart}
use Rattle.envy_engine.proofs.FlushLemmas.{err-at}
use Rattle.envy_engine.proofs.Leaving.{leaves_then}
use Rattle.envy_engine.proofs.PutLemmas.{PutDone-after}
use Rattle.envy_soundness.specs.Same.{Same, Stays}
use Rattle.envy_engine.proofs.PutLemmas.{MayGive-framed}
use Rattle.envy_reloc.proofs.Exits.{err-if, err-after, off-if, off-after, off-bad, ok-bad}
use Rattle.envy_engine.proofs.Bounds.{le-same}
use Rattle.envy_engine.proofs.ShadeAnswers.{PutFirst-ended, PutFirst-lost, KeepsOwners-same}
use Rattle.envy_engine.proofs.first_put.put_elsewhere.Goals as goal

pub returns-clause-put : goal.returns-clause-put
returns-clause-put g c =
    let old = chart (g.B.Board.state c.args.board.now) in
    let mid = chart (g.B.Board.state c.make_room.new.board) in
    let new = chart (g.B.Board.state c.bring_shaded.new.board) in
    let k = 4 * old.shape.rows + 13 in
    PutDone-after k 6 k 6 c.args.slot c.args.page old mid new (32 * c.args.page + c.args.i) c.args.w (le-same k) (le-same 6) c.make_room.ensures.same c.in_ok-bring_shaded.ensures.done

pub returns-in_err-make_room-clause-stops : goal.returns-in_err-make_room-clause-stops
returns-in_err-make_room-clause-stops g c =
    let p = err_from_is_err_and c.from_residual.result c.from_residual.ensures.1 in
    rw (p.1, p.2) (λ is. (c.in_err-make_room.ensures.stops (err-at _ _ is), refl))

pub returns-in_err-bring_shaded-clause-leaves : goal.returns-in_err-bring_shaded-clause-leaves
returns-in_err-bring_shaded-clause-leaves g c =
    leaves_then _ (chart (g.B.Board.state c.make_room.new.board)) _ _ c.make_room.new.parts _ c.make_room.ensures.leaves c.bring_shaded.ensures.leaves

pub returns-clause-leaves : goal.returns-clause-leaves
returns-clause-leaves g c =
    leaves_then _ (chart (g.B.Board.state c.make_room.new.board)) _ _ c.make_room.new.parts _ c.make_room.ensures.leaves c.bring_shaded.ensures.leaves

pub returns-clause-makes : goal.returns-clause-makes
returns-clause-makes g c = let b = c.in_ok-bring_shaded.ensures.brings in (chart (g.B.Board.state c.make_room.new.board), c.make_room.new.parts, c.in_ok-make_room.ensures.makes, b.0, b.1)

pub returns-clause-gives : goal.returns-clause-gives
returns-clause-gives g c = c.in_ok-bring_shaded.ensures.brings.2

pub make_room-requires : goal.make_room-requires
make_room-requires g c = record { ready = c.requires.ready }

pub returns-in_err-make_room-clause-put : goal.returns-in_err-make_room-clause-put
returns-in_err-make_room-clause-put g c =
    let old = chart (g.B.Board.state c.args.board.now) in
    let k = 4 * old.shape.rows + 13 in
    PutFirst-ended (Unit {0}) k 6 k 6 c.args.slot c.args.page old (chart (g.B.Board.state c.make_room.new.board)) (32 * c.args.page + c.args.i) c.args.w c.from_residual.result c.in_err-make_room.field-0.0 (le-same k) (le-same 6) c.make_room.ensures.same c.in_err-make_room.ensures.power c.from_residual.ensures.1

pub returns-in_err-make_room-clause-leaves : goal.returns-in_err-make_room-clause-leaves
returns-in_err-make_room-clause-leaves g c = c.make_room.ensures.leaves

pub returns-in_err-make_room-clause-makes : goal.returns-in_err-make_room-clause-makes
returns-in_err-make_room-clause-makes g c = err-if c.from_residual.result _ c.in_err-make_room.field-0.0 c.from_residual.ensures.1

pub returns-in_err-make_room-clause-gives : goal.returns-in_err-make_room-clause-gives
returns-in_err-make_room-clause-gives g c = err-if c.from_residual.result _ c.in_err-make_room.field-0.0 c.from_residual.ensures.1

pub returns-in_err-make_room-clause-owners : goal.returns-in_err-make_room-clause-owners
returns-in_err-make_room-clause-owners g c =
    let old = chart (g.B.Board.state c.args.board.now) in
    KeepsOwners-same (4 * old.shape.rows + 13) 6 c.args.slot c.args.page old (chart (g.B.Board.state c.make_room.new.board)) c.args.owned.now c.requires.may c.make_room.ensures.same

pub returns-in_err-make_room-clause-power : goal.returns-in_err-make_room-clause-power
returns-in_err-make_room-clause-power g c = err-after (Unit {0}) c.from_residual.result (g.B.Board.state c.make_room.new.board).on c.in_err-make_room.field-0.0 c.in_err-make_room.ensures.power c.from_residual.ensures.1

pub bring_shaded-requires-clause-ready : goal.bring_shaded-requires-clause-ready
bring_shaded-requires-clause-ready g c =
    let e = c.make_room.ensures in
    let on = c.in_ok-make_room.ensures.power in
    record { on = on; sound = Stays.sound (Same.stays e.same); fits = e.leaves.steady.fits; agrees = e.leaves.steady.agrees on }

pub bring_shaded-requires-clause-may : goal.bring_shaded-requires-clause-may
bring_shaded-requires-clause-may g c = MayGive-framed c.args.slot c.args.page _ _ c.args.owned.now (Stays.framed (Same.stays c.make_room.ensures.same)) c.requires.may

pub bring_shaded-requires-clause-word : goal.bring_shaded-requires-clause-word
bring_shaded-requires-clause-word g c = c.requires.word

pub bring_shaded-requires-clause-room : goal.bring_shaded-requires-clause-room
bring_shaded-requires-clause-room g c = c.in_ok-make_room.ensures.room

pub bring_shaded-requires-clause-elsewhere : goal.bring_shaded-requires-clause-elsewhere
bring_shaded-requires-clause-elsewhere g c = c.in_ok-make_room.ensures.elsewhere c.args.page c.requires.elsewhere

pub returns-in_err-bring_shaded-clause-put : goal.returns-in_err-bring_shaded-clause-put
returns-in_err-bring_shaded-clause-put g c =
    let old = chart (g.B.Board.state c.args.board.now) in
    let mid = chart (g.B.Board.state c.make_room.new.board) in
    let new = chart (g.B.Board.state c.bring_shaded.new.board) in
    PutFirst-lost (4 * old.shape.rows + 13) 6 c.args.slot c.args.page old mid new (32 * c.args.page + c.args.i) c.args.w c.from_residual-in_err-bring_shaded.result c.make_room.ensures.same c.in_err-bring_shaded.ensures.durable c.in_err-bring_shaded.ensures.power c.from_residual-in_err-bring_shaded.ensures.1

pub returns-in_err-bring_shaded-clause-makes : goal.returns-in_err-bring_shaded-clause-makes
returns-in_err-bring_shaded-clause-makes g c = off-if c.from_residual-in_err-bring_shaded.result _ c.from_residual-in_err-bring_shaded.ensures.1

pub returns-in_err-bring_shaded-clause-gives : goal.returns-in_err-bring_shaded-clause-gives
returns-in_err-bring_shaded-clause-gives g c = off-if c.from_residual-in_err-bring_shaded.result _ c.from_residual-in_err-bring_shaded.ensures.1

pub returns-in_err-bring_shaded-clause-owners : goal.returns-in_err-bring_shaded-clause-owners
returns-in_err-bring_shaded-clause-owners g c = c.bring_shaded.ensures.owners

pub returns-in_err-bring_shaded-clause-stops : goal.returns-in_err-bring_shaded-clause-stops
returns-in_err-bring_shaded-clause-stops g c is = off-bad c.from_residual-in_err-bring_shaded.result c.from_residual-in_err-bring_shaded.ensures.1 is

pub returns-in_err-bring_shaded-clause-power : goal.returns-in_err-bring_shaded-clause-power
returns-in_err-bring_shaded-clause-power g c = off-after c.from_residual-in_err-bring_shaded.result (g.B.Board.state c.bring_shaded.new.board).on c.in_err-bring_shaded.ensures.power c.from_residual-in_err-bring_shaded.ensures.1

pub returns-clause-owners : goal.returns-clause-owners
returns-clause-owners g c = c.bring_shaded.ensures.owners

pub returns-clause-stops : goal.returns-clause-stops
returns-clause-stops g c is = ok-bad tt is

pub returns-clause-power : goal.returns-clause-power
returns-clause-power g c = c.in_ok-bring_shaded.ensures.power

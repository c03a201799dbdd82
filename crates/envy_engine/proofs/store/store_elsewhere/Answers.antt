use Rattle.std.proofs.Common.{◌≡◌, ◌∙◌, ◌*◌, ◌+◌, ◌<◌, true, false, Err, sym, ap, subst}
use Rattle.std.proofs.lemmas.Result.{err_from_is_err_and}
use Rattle.envy_map.specs.Fields.{chart, undo}
use Rattle.envy_soundness.specs.Same.{Same, Stays, Framed}
use Rattle.envy_soundness.specs.Sound.{owned_by}
use Rattle.envy_engine.proofs.Leaving.{leaves_then}
use Rattle.envy_meaning.proofs.Owners.{owned_by-framed}
use Rattle.envy_engine.proofs.StoreLemmas.{Stored-after, Stored-more, Interrupted-after, Interrupted-more, Shadowed-after, Shadowed-more}
use Rattle.envy_soundness.proofs.WordPuts.{Dropped-after, Dropped-more}
use Rattle.envy_base.specs.declared.board.Trouble.{Trouble}
use Rattle.envy_reloc.proofs.Exits.{err-if, err-after, err-bad, off-if, off-after, off-bad, ok-bad}
use Rattle.envy_engine.proofs.Bounds.{le-same, plus-none}
use Rattle.envy_engine.proofs.ShadeAnswers.{Wrote-ended, Shaded-ended}
use Rattle.envy_base.specs.declared.shape.Shape.{Shape}
use Rattle.envy_engine.proofs.store.store_elsewhere.Goals as goal

pub returns-in_err-bring-clause-free : goal.returns-in_err-bring-clause-free
returns-in_err-bring-clause-free g c unowned =
    let old = chart (g.B.Board.state c.args.board.now) in
    let mid = chart (g.B.Board.state c.make_room.new.board) in
    let new = chart (g.B.Board.state c.bring.new.board) in
    let s = c.make_room.ensures.same in
    let p = err_from_is_err_and c.from_residual-in_err-bring.result c.from_residual-in_err-bring.ensures.1 in
    let k = 4 * old.shape.rows + 13 in
    let own : owned_by mid.fields.slots (undo mid.fields c.args.page) ≡ false = owned_by-framed old mid c.args.page (Stays.framed (Same.stays s)) ∙ unowned in
    rw (p.1, p.2) (Interrupted-more (k + 0) 6 k 6 old new (32 * c.args.page + c.args.i) c.args.w (plus-none k) (le-same 6) (Interrupted-after k 6 0 0 old mid new (32 * c.args.page + c.args.i) c.args.w s (c.in_err-bring.ensures.free own)))

pub returns-in_err-bring-clause-owned : goal.returns-in_err-bring-clause-owned
returns-in_err-bring-clause-owned g c owned =
    let old = chart (g.B.Board.state c.args.board.now) in
    let mid = chart (g.B.Board.state c.make_room.new.board) in
    let new = chart (g.B.Board.state c.bring.new.board) in
    let s = c.make_room.ensures.same in
    let p = err_from_is_err_and c.from_residual-in_err-bring.result c.from_residual-in_err-bring.ensures.1 in
    let k = 4 * old.shape.rows + 13 in
    let own : owned_by mid.fields.slots (undo mid.fields c.args.page) ≡ true = owned_by-framed old mid c.args.page (Stays.framed (Same.stays s)) ∙ owned in
    rw (p.1, p.2) (Dropped-more (k + 0) 6 k 6 old new (plus-none k) (le-same 6) (Dropped-after k 6 0 0 old mid new s (c.in_err-bring.ensures.owned own)))

pub returns-clause-free : goal.returns-clause-free
returns-clause-free g c unowned =
    let old = chart (g.B.Board.state c.args.board.now) in
    let mid = chart (g.B.Board.state c.make_room.new.board) in
    let new = chart (g.B.Board.state c.bring.new.board) in
    let s = c.make_room.ensures.same in
    let k = 4 * old.shape.rows + 13 in
    let own : owned_by mid.fields.slots (undo mid.fields c.args.page) ≡ false = owned_by-framed old mid c.args.page (Stays.framed (Same.stays s)) ∙ unowned in
    Stored-more (k + 0) 6 k 6 old new (32 * c.args.page + c.args.i) c.args.w (plus-none k) (le-same 6) (Stored-after k 6 0 0 old mid new (32 * c.args.page + c.args.i) c.args.w s (c.in_ok-bring.ensures.free own))

pub returns-clause-owned : goal.returns-clause-owned
returns-clause-owned g c owned =
    let old = chart (g.B.Board.state c.args.board.now) in
    let mid = chart (g.B.Board.state c.make_room.new.board) in
    let new = chart (g.B.Board.state c.bring.new.board) in
    let s = c.make_room.ensures.same in
    let k = 4 * old.shape.rows + 13 in
    let own : owned_by mid.fields.slots (undo mid.fields c.args.page) ≡ true = owned_by-framed old mid c.args.page (Stays.framed (Same.stays s)) ∙ owned in
    Shadowed-more (k + 0) 6 k 6 old new (32 * c.args.page + c.args.i) c.args.w (plus-none k) (le-same 6) (Shadowed-after k 6 0 0 old mid new (32 * c.args.page + c.args.i) c.args.w s (c.in_ok-bring.ensures.owned own))

pub returns-clause-makes : goal.returns-clause-makes
returns-clause-makes g c = (chart (g.B.Board.state c.make_room.new.board), c.make_room.new.parts, c.in_ok-make_room.ensures.makes, c.in_ok-bring.ensures.brings)

pub returns-in_err-bring-clause-leaves : goal.returns-in_err-bring-clause-leaves
returns-in_err-bring-clause-leaves g c = leaves_then _ (chart (g.B.Board.state c.make_room.new.board)) _ _ c.make_room.new.parts _ c.make_room.ensures.leaves c.bring.ensures.leaves

pub returns-clause-leaves : goal.returns-clause-leaves
returns-clause-leaves g c = leaves_then _ (chart (g.B.Board.state c.make_room.new.board)) _ _ c.make_room.new.parts _ c.make_room.ensures.leaves c.bring.ensures.leaves

pub make_room-requires : goal.make_room-requires
make_room-requires g c = record { ready = c.requires.ready }

pub bring-requires-clause-ready : goal.bring-requires-clause-ready
bring-requires-clause-ready g c =
    let e = c.make_room.ensures in
    let on = c.in_ok-make_room.ensures.power in
    record { on = on; sound = Stays.sound (Same.stays e.same); fits = e.leaves.steady.fits; agrees = e.leaves.steady.agrees on }

pub returns-in_err-make_room-clause-free : goal.returns-in_err-make_room-clause-free
returns-in_err-make_room-clause-free g c unowned =
    let old = chart (g.B.Board.state c.args.board.now) in
    Wrote-ended (Unit {0}) (4 * old.shape.rows + 13) 6 old (chart (g.B.Board.state c.make_room.new.board)) (32 * c.args.page + c.args.i) c.args.w c.from_residual.result c.in_err-make_room.field-0.0 c.make_room.ensures.same c.in_err-make_room.ensures.power c.from_residual.ensures.1

pub returns-in_err-make_room-clause-owned : goal.returns-in_err-make_room-clause-owned
returns-in_err-make_room-clause-owned g c owned =
    let old = chart (g.B.Board.state c.args.board.now) in
    Shaded-ended (Unit {0}) (4 * old.shape.rows + 13) 6 old (chart (g.B.Board.state c.make_room.new.board)) (32 * c.args.page + c.args.i) c.args.w c.from_residual.result c.in_err-make_room.field-0.0 c.make_room.ensures.same c.in_err-make_room.ensures.power c.from_residual.ensures.1

pub returns-in_err-make_room-clause-leaves : goal.returns-in_err-make_room-clause-leaves
returns-in_err-make_room-clause-leaves g c = c.make_room.ensures.leaves

pub returns-in_err-make_room-clause-makes : goal.returns-in_err-make_room-clause-makes
returns-in_err-make_room-clause-makes g c = err-if c.from_residual.result _ c.in_err-make_room.field-0.0 c.from_residual.ensures.1

pub returns-in_err-make_room-clause-stops : goal.returns-in_err-make_room-clause-stops
returns-in_err-make_room-clause-stops g c is = c.in_err-make_room.ensures.stops (ap (λ (e : Trouble). Err e) (err-bad c.from_residual.result c.in_err-make_room.field-0.0 c.from_residual.ensures.1 is))

pub returns-in_err-make_room-clause-power : goal.returns-in_err-make_room-clause-power
returns-in_err-make_room-clause-power g c = err-after (Unit {0}) c.from_residual.result (g.B.Board.state c.make_room.new.board).on c.in_err-make_room.field-0.0 c.in_err-make_room.ensures.power c.from_residual.ensures.1

pub returns-in_err-bring-clause-makes : goal.returns-in_err-bring-clause-makes
returns-in_err-bring-clause-makes g c = off-if c.from_residual-in_err-bring.result _ c.from_residual-in_err-bring.ensures.1

pub returns-in_err-bring-clause-stops : goal.returns-in_err-bring-clause-stops
returns-in_err-bring-clause-stops g c is = off-bad c.from_residual-in_err-bring.result c.from_residual-in_err-bring.ensures.1 is

pub returns-in_err-bring-clause-power : goal.returns-in_err-bring-clause-power
returns-in_err-bring-clause-power g c = off-after c.from_residual-in_err-bring.result (g.B.Board.state c.bring.new.board).on c.in_err-bring.ensures.power c.from_residual-in_err-bring.ensures.1

pub returns-clause-stops : goal.returns-clause-stops
returns-clause-stops g c is = ok-bad tt is

pub returns-clause-power : goal.returns-clause-power
returns-clause-power g c = c.in_ok-bring.ensures.power

pub bring-requires-clause-page : goal.bring-requires-clause-page
bring-requires-clause-page g c = subst (λ (sh : Shape). c.args.page < sh.pages) (sym (Framed.shape (Stays.framed (Same.stays c.make_room.ensures.same)))) c.requires.page

pub bring-requires-clause-word : goal.bring-requires-clause-word
bring-requires-clause-word g c = c.requires.word

pub bring-requires-clause-room : goal.bring-requires-clause-room
bring-requires-clause-room g c = c.in_ok-make_room.ensures.room

pub bring-requires-clause-elsewhere : goal.bring-requires-clause-elsewhere
bring-requires-clause-elsewhere g c = c.in_ok-make_room.ensures.elsewhere c.args.page c.requires.elsewhere

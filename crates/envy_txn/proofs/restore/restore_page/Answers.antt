use Rattle.std.proofs.Common.{Some, refl, sym, ◌∙◌, ap}
use Rattle.envy_frames.specs.Order.{Order}
use Rattle.envy_map.specs.Fields.{chart}
use Rattle.envy_soundness.specs.Same.{SameDurable}
use Rattle.envy_soundness.specs.Sound.{Sound, Places, Slots, slot_named, owned_by}
use Rattle.envy_soundness.proofs.Composition.{SameDurable-refl}
use Rattle.envy_soundness.proofs.KeptLemmas.{owned_by-active}
use Rattle.envy_space.specs.Pool.{Pool}
use Rattle.envy_table.proofs.HitLemmas.{Rests-refl}
use Rattle.envy_txn.specs.Turns.{Restoring}
use Rattle.envy_txn.proofs.BackLemmas.{Backs, leavable}
use Rattle.envy_txn.proofs.BackReady.{Restoring-after}
use Rattle.envy_txn.proofs.HeldLemmas.{left-by_page}
use Rattle.envy_txn.proofs.PageAnswers.{named-some, frame-held, left_pool-shape}
use Rattle.envy_txn.proofs.SettleLemmas.{kept-active}
use Rattle.envy_txn.proofs.WayLemmas.{none-done, off-of}
use Rattle.envy_txn.proofs.restore.restore_page.Goals as goal

pub note_left-requires : goal.note_left-requires
note_left-requires g c =
    let old = chart (g.B.Board.state c.args.board.now) in
    let r = c.requires.restoring in
    let owns = c.in_ok-undo.ensures.value.1 in
    let b : Backs old c.args.page c.args.t c.in_ok-undo.field-0 c.in_ok-now.now c.in-Some.back = record {
      sound = r.sound;
      active = r.active;
      page = c.requires.page;
      here = c.in_ok-now.ensures.value.1;
      owns = owns;
      named = sym (ap slot_named owns) ∙ c.requires.names;
      names = sym c.place_in.ensures.place ∙ c.in-Some.is;
    } in
    leavable old c.args.page c.args.t c.in_ok-undo.field-0 c.in_ok-now.now c.in-Some.back c.args.space.now b r.parted r.agrees

pub returns-clause-restoring : goal.returns-clause-restoring
returns-clause-restoring g c =
    let old = chart (g.B.Board.state c.args.board.now) in
    let new = chart (g.B.Board.state c.put_back.new.board) in
    let r = c.requires.restoring in
    let owns = c.in_ok-undo.ensures.value.1 in
    let b : Backs old c.args.page c.args.t c.in_ok-undo.field-0 c.in_ok-now.now c.in-Some.back = record {
      sound = r.sound;
      active = r.active;
      page = c.requires.page;
      here = c.in_ok-now.ensures.value.1;
      owns = owns;
      named = sym (ap slot_named owns) ∙ c.requires.names;
      names = sym c.place_in.ensures.place ∙ c.in-Some.is;
    } in
    let e = c.in_ok-put_back.ensures in
    Restoring-after old new c.args.page c.args.t c.in_ok-undo.field-0 c.in_ok-now.now c.in-Some.back c.args.space.now c.note_left.new.space c.args.frames.now.held c.leave_frame.new.frames.held c.args.cache.now.entries c.retarget.new.self.entries b r
    e.power (SameDurable.sound e.durable) e.fields c.note_left.ensures (ap (λ (o : Order). o.held) c.leave_frame.ensures) (c.retarget.ensures.agrees old.shape.pages old.fields.places r.current)

pub returns-clause-left : goal.returns-clause-left
returns-clause-left g c =
    let old = chart (g.B.Board.state c.args.board.now) in
    ap (λ (o : Order). o.held) c.leave_frame.ensures
    ∙ left-by_page old.shape old.fields.places c.args.frames.now.held c.args.page c.in_ok-now.now (Restoring.are_held c.requires.restoring) c.in_ok-now.ensures.value.1

pub place-requires-clause-page : goal.place-requires-clause-page
place-requires-clause-page g c = c.requires.page

pub place-requires-clause-decodes : goal.place-requires-clause-decodes
place-requires-clause-decodes g c = Places.decode (Sound.places c.requires.restoring.sound) c.args.page c.requires.page

pub returns-in_err-now : goal.returns-in_err-now
returns-in_err-now g c =
    let old = chart (g.B.Board.state c.args.board.now) in
    let result = c.from_residual.result in
    let left = c.from_residual.ensures.1 in
    record {
      durable = SameDurable-refl old c.requires.restoring.sound;
      restoring = none-done result _ _ left;
      fields = none-done result _ _ left;
      left = none-done result _ _ left;
      count = refl;
      rests = Rests-refl c.args.cache.now;
      shape = refl;
      power = off-of result _ old.on c.in_err-now.ensures.value left;
    }

pub undo-requires-clause-page : goal.undo-requires-clause-page
undo-requires-clause-page g c = c.requires.page

pub undo-requires-clause-decodes : goal.undo-requires-clause-decodes
undo-requires-clause-decodes g c = Slots.undos_decode (Sound.slots c.requires.restoring.sound) c.args.page c.requires.page

pub returns-in_err-undo : goal.returns-in_err-undo
returns-in_err-undo g c =
    let old = chart (g.B.Board.state c.args.board.now) in
    let result = c.from_residual-in_err-undo.result in
    let left = c.from_residual-in_err-undo.ensures.1 in
    record {
      durable = SameDurable-refl old c.requires.restoring.sound;
      restoring = none-done result _ _ left;
      fields = none-done result _ _ left;
      left = none-done result _ _ left;
      count = refl;
      rests = Rests-refl c.args.cache.now;
      shape = refl;
      power = off-of result _ old.on c.in_err-undo.ensures.value left;
    }

pub unreachable-requires : goal.unreachable-requires
unreachable-requires g c =
    named-some c.in_ok-undo.field-0 c.args.t (sym (ap slot_named c.in_ok-undo.ensures.value.1) ∙ c.requires.names) (sym c.place_in.ensures.place ∙ c.in_default.is)

pub put_back-requires-clause-sound : goal.put_back-requires-clause-sound
put_back-requires-clause-sound g c = c.requires.restoring.sound

pub put_back-requires-clause-on : goal.put_back-requires-clause-on
put_back-requires-clause-on g c = c.requires.restoring.on

pub put_back-requires-clause-page : goal.put_back-requires-clause-page
put_back-requires-clause-page g c = c.requires.page

pub put_back-requires-clause-place : goal.put_back-requires-clause-place
put_back-requires-clause-place g c = c.in-Some.ensures.fits c.in_ok-undo.ensures.fits

pub put_back-requires-clause-owned : goal.put_back-requires-clause-owned
put_back-requires-clause-owned g c =
    let f = (chart (g.B.Board.state c.args.board.now)).fields in
    let owns = c.in_ok-undo.ensures.value.1 in
    ap (owned_by f.slots) owns ∙ owned_by-active f.slots (Some c.in_ok-undo.field-0) c.args.t (sym (ap slot_named owns) ∙ c.requires.names) c.requires.restoring.active

pub put_back-requires-clause-names : goal.put_back-requires-clause-names
put_back-requires-clause-names g c =
    let owns = c.in_ok-undo.ensures.value.1 in
    kept-active (chart (g.B.Board.state c.args.board.now)).fields c.args.page c.args.t c.in_ok-undo.field-0 c.in-Some.back owns (sym (ap slot_named owns) ∙ c.requires.names) c.requires.restoring.active (sym c.place_in.ensures.place ∙ c.in-Some.is)

pub returns-in_err-put_back : goal.returns-in_err-put_back
returns-in_err-put_back g c =
    let e = c.in_err-put_back.ensures in
    let result = c.from_residual-in_err-put_back.result in
    let left = c.from_residual-in_err-put_back.ensures.1 in
    record {
      durable = e.durable;
      restoring = none-done result _ _ left;
      fields = none-done result _ _ left;
      left = none-done result _ _ left;
      count = refl;
      rests = Rests-refl c.args.cache.now;
      shape = refl;
      power = off-of result _ (g.B.Board.state c.put_back.new.board).on e.power left;
    }

pub leave_frame-requires : goal.leave_frame-requires
leave_frame-requires g c =
    let old = chart (g.B.Board.state c.args.board.now) in
    frame-held old.shape old.fields.places c.args.frames.now.held c.args.page c.in_ok-now.now c.requires.restoring.are_held c.in_ok-now.ensures.value.1

pub returns-clause-durable : goal.returns-clause-durable
returns-clause-durable g c = c.in_ok-put_back.ensures.durable

pub returns-clause-fields : goal.returns-clause-fields
returns-clause-fields g c =
    let owns = c.in_ok-undo.ensures.value.1 in
    (c.in-Some.back, kept-active (chart (g.B.Board.state c.args.board.now)).fields c.args.page c.args.t c.in_ok-undo.field-0 c.in-Some.back owns (sym (ap slot_named owns) ∙ c.requires.names) c.requires.restoring.active (sym c.place_in.ensures.place ∙ c.in-Some.is), c.in_ok-put_back.ensures.fields)

pub returns-clause-count : goal.returns-clause-count
returns-clause-count g c = ap (λ (o : Order). o.count) c.leave_frame.ensures

pub returns-clause-rests : goal.returns-clause-rests
returns-clause-rests g c = c.retarget.ensures.rests

pub returns-clause-shape : goal.returns-clause-shape
returns-clause-shape g c = ap (λ (p : Pool). p.shape) c.note_left.ensures ∙ left_pool-shape c.in_ok-now.now c.args.space.now

pub returns-clause-power : goal.returns-clause-power
returns-clause-power g c = c.in_ok-put_back.ensures.power

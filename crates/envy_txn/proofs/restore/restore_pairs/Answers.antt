use Rattle.std.proofs.Common.{◌≡◌, ℕ, ◌<◌, List, get_or, take, Some, refl, sym, ◌∙◌, ap, subst}
use Rattle.std.specs.List.{filter}
use Rattle.std.proofs.lemmas.List.{take_more, take_all}
use Rattle.envy_map.specs.Fields.{chart, undo}
use Rattle.envy_soundness.specs.Sound.{Sound, Slots, Places, slot_named}
use Rattle.envy_soundness.proofs.Composition.{SameDurable-refl, SameDurable-trans}
use Rattle.envy_table.proofs.HitLemmas.{Rests-refl, Rests-trans}
use Rattle.envy_txn.specs.declared.pair.Pair.{Pair}
use Rattle.envy_txn.specs.Turns.{Restoring, RestoredIn}
use Rattle.envy_txn.proofs.BackLoop.{Returns, RestoredIn-none, RestoredIn-more}
use Rattle.envy_txn.proofs.HeldLemmas.{held-more, held-none, held-one, is_kept_by}
use Rattle.envy_txn.proofs.TurnLemmas.{among-before, named-low}
use Rattle.envy_txn.proofs.WayLemmas.{none-done, off-of}
use Rattle.envy_txn.proofs.restore.restore_pairs.Goals as goal

pub restore_page-requires-clause-page : goal.restore_page-requires-clause-page
restore_page-requires-clause-page g c =
    let now = (chart (g.B.Board.state c.loop-pair.board)).fields in
    let inv = c.loop-pair.invariant in
    let i = c.loop-pair.pair-index in
    let e : Pair = get_or c.args.pairs.now i (record { page = 0; slot = 0 }) in
    let lt = c.loop-pair-test.true in
    let stays = inv.restored.others e.page (among-before c.args.pairs.now i c.args.t (record { page = 0; slot = 0 }) c.requires.apart lt) in
    let named : slot_named (undo now e.page) ≡ Some c.args.t = ap slot_named stays.1 ∙ (c.requires.named i (record { page = 0; slot = 0 }) lt).1 in
    subst (λ (n : ℕ). e.page < n) (Slots.undos_long (Sound.slots (Restoring.sound inv.restoring))) (named-low now.undos e.page c.args.t named)

pub restore_page-requires-clause-names : goal.restore_page-requires-clause-names
restore_page-requires-clause-names g c =
    let inv = c.loop-pair.invariant in
    let i = c.loop-pair.pair-index in
    let e : Pair = get_or c.args.pairs.now i (record { page = 0; slot = 0 }) in
    let lt = c.loop-pair-test.true in
    let stays = inv.restored.others e.page (among-before c.args.pairs.now i c.args.t (record { page = 0; slot = 0 }) c.requires.apart lt) in
    ap slot_named stays.1 ∙ (c.requires.named i (record { page = 0; slot = 0 }) lt).1

pub loop-pair-preserved : goal.loop-pair-preserved
loop-pair-preserved g c =
    let first = chart (g.B.Board.state c.args.board.now) in
    let now = chart (g.B.Board.state c.loop-pair.board) in
    let new = chart (g.B.Board.state c.restore_page.new.board) in
    let inv = c.loop-pair.invariant in
    let turn = c.in_ok-restore_page.ensures in
    let i = c.loop-pair.pair-index in
    let e : Pair = get_or c.args.pairs.now i (record { page = 0; slot = 0 }) in
    let lt = c.loop-pair-test.true in
    let more = take_more c.args.pairs.now i (record { page = 0; slot = 0 }) lt in
    let before = among-before c.args.pairs.now i c.args.t (record { page = 0; slot = 0 }) c.requires.apart lt in
    let stays = inv.restored.others e.page before in
    let mine = c.requires.named i (record { page = 0; slot = 0 }) lt in
    let low = named-low now.fields.undos e.page c.args.t (ap slot_named stays.1 ∙ mine.1) in
    let sound = Restoring.sound inv.restoring in
    let back = turn.fields in
    let page : e.page < now.shape.pages = subst (λ (n : ℕ). e.page < n) (Slots.undos_long (Sound.slots sound)) low in
    let returns : Returns e.page back.0 now new = record { names = back.1; fields = back.2; room = rw (Places.long (Sound.places sound)) page; undo_room = low } in
    record {
      restoring = turn.restoring;
      durable = SameDurable-trans 0 0 0 0 first now new inv.durable turn.durable;
      restored = subst (λ (ps : List Pair). RestoredIn ps c.args.t first new) (sym more) (RestoredIn-more (take i c.args.pairs.now) e c.args.t first now new back.0 mine.0 returns before inv.restored);
      left = subst (λ (ps : List Pair). c.restore_page.new.frames.held ≡ filter (is_kept_by ps c.args.t) c.args.frames.now.held) (sym more)
          (held-more (take i c.args.pairs.now) e c.args.t c.args.frames.now.held c.loop-pair.frames.held c.restore_page.new.frames.held inv.left (turn.left ∙ held-one e c.args.t c.loop-pair.frames.held mine.0));
      count = turn.count ∙ inv.count;
      rests = Rests-trans c.args.cache.now c.loop-pair.cache c.restore_page.new.cache inv.rests turn.rests;
      shape = turn.shape ∙ inv.shape;
    }

pub loop-pair-init : goal.loop-pair-init
loop-pair-init g c =
    let first = chart (g.B.Board.state c.args.board.now) in
    record {
      restoring = c.requires.restoring;
      durable = SameDurable-refl first (Restoring.sound c.requires.restoring);
      restored = RestoredIn-none c.args.t first;
      left = held-none c.args.t c.args.frames.now.held;
      count = refl;
      rests = Rests-refl c.args.cache.now;
      shape = refl;
    }

pub restore_page-requires-clause-restoring : goal.restore_page-requires-clause-restoring
restore_page-requires-clause-restoring g c = c.loop-pair.invariant.restoring

pub returns-in_err-restore_page : goal.returns-in_err-restore_page
returns-in_err-restore_page g c =
    let first = chart (g.B.Board.state c.args.board.now) in
    let now = chart (g.B.Board.state c.loop-pair.board) in
    let new = chart (g.B.Board.state c.restore_page.new.board) in
    let inv = c.loop-pair.invariant in
    let e = c.in_err-restore_page.ensures in
    let result = c.from_residual.result in
    let left = c.from_residual.ensures.1 in
    record {
      durable = SameDurable-trans 0 0 0 0 first now new inv.durable e.durable;
      restoring = none-done result _ _ left;
      restored = none-done result _ _ left;
      left = none-done result _ _ left;
      count = e.count ∙ inv.count;
      rests = Rests-trans c.args.cache.now c.loop-pair.cache c.restore_page.new.cache inv.rests e.rests;
      shape = e.shape ∙ inv.shape;
      power = off-of result _ new.on e.power left;
    }

pub returns-clause-durable : goal.returns-clause-durable
returns-clause-durable g c = c.loop-pair.invariant.durable

pub returns-clause-restoring : goal.returns-clause-restoring
returns-clause-restoring g c = c.loop-pair.invariant.restoring

pub returns-clause-count : goal.returns-clause-count
returns-clause-count g c = c.loop-pair.invariant.count

pub returns-clause-rests : goal.returns-clause-rests
returns-clause-rests g c = c.loop-pair.invariant.rests

pub returns-clause-shape : goal.returns-clause-shape
returns-clause-shape g c = c.loop-pair.invariant.shape

pub returns-clause-power : goal.returns-clause-power
returns-clause-power g c = c.loop-pair.invariant.restoring.on

pub returns-clause-restored : goal.returns-clause-restored
returns-clause-restored g c =
    let first = chart (g.B.Board.state c.args.board.now) in
    let now = chart (g.B.Board.state c.loop-pair.board) in
    subst (λ (ps : List Pair). RestoredIn ps c.args.t first now) (take_all c.loop-pair.pair-index c.args.pairs.now c.loop-pair-test.false) c.loop-pair.invariant.restored

pub returns-clause-left : goal.returns-clause-left
returns-clause-left g c =
    subst (λ (ps : List Pair). c.loop-pair.frames.held ≡ filter (is_kept_by ps c.args.t) c.args.frames.now.held) (take_all c.loop-pair.pair-index c.args.pairs.now c.loop-pair-test.false) c.loop-pair.invariant.left

use Rattle.std.proofs.Common.{◌≡◌, refl, ℕ, ◌<◌, List, get_or, take, Some, sym, ◌∙◌, ap, subst}
use Rattle.std.proofs.lemmas.List.{take_more, take_all}
use Rattle.envy_map.specs.Fields.{chart, undo}
use Rattle.envy_soundness.specs.Sound.{Sound, Slots, slot_named}
use Rattle.envy_soundness.proofs.Composition.{SameWords-refl, SameWords-trans}
use Rattle.envy_txn.specs.declared.pair.Pair.{Pair}
use Rattle.envy_txn.specs.Turns.{Releasing, ReleasedIn}
use Rattle.envy_txn.proofs.ReleaseLoop.{ReleasedIn-none, ReleasedIn-more}
use Rattle.envy_txn.proofs.TurnLemmas.{among-before, named-low}
use Rattle.envy_txn.proofs.WayLemmas.{none-done, off-of}
use Rattle.envy_txn.proofs.release.release_pairs.Goals as goal

pub release_page-requires-clause-page : goal.release_page-requires-clause-page
release_page-requires-clause-page g c =
    let now = (chart (g.B.Board.state c.loop-pair.board)).fields in
    let inv = c.loop-pair.invariant in
    let i = c.loop-pair.pair-index in
    let e : Pair = get_or c.args.pairs.now i (record { page = 0; slot = 0 }) in
    let lt = c.loop-pair-test.true in
    let stays = inv.released.others e.page (among-before c.args.pairs.now i c.args.t (record { page = 0; slot = 0 }) c.requires.apart lt) in
    let named : slot_named (undo now e.page) ≡ Some c.args.t = ap slot_named stays ∙ (c.requires.named i (record { page = 0; slot = 0 }) lt).1 in
    subst (λ (n : ℕ). e.page < n) (Slots.undos_long (Sound.slots (Releasing.sound inv.releasing))) (named-low now.undos e.page c.args.t named)

pub release_page-requires-clause-names : goal.release_page-requires-clause-names
release_page-requires-clause-names g c =
    let inv = c.loop-pair.invariant in
    let i = c.loop-pair.pair-index in
    let e : Pair = get_or c.args.pairs.now i (record { page = 0; slot = 0 }) in
    let lt = c.loop-pair-test.true in
    let stays = inv.released.others e.page (among-before c.args.pairs.now i c.args.t (record { page = 0; slot = 0 }) c.requires.apart lt) in
    ap slot_named stays ∙ (c.requires.named i (record { page = 0; slot = 0 }) lt).1

pub loop-pair-preserved : goal.loop-pair-preserved
loop-pair-preserved g c =
    let first = chart (g.B.Board.state c.args.board.now) in
    let now = chart (g.B.Board.state c.loop-pair.board) in
    let new = chart (g.B.Board.state c.release_page.new.board) in
    let inv = c.loop-pair.invariant in
    let i = c.loop-pair.pair-index in
    let e : Pair = get_or c.args.pairs.now i (record { page = 0; slot = 0 }) in
    let lt = c.loop-pair-test.true in
    let turn = c.in_ok-release_page.ensures in
    let stays = inv.released.others e.page (among-before c.args.pairs.now i c.args.t (record { page = 0; slot = 0 }) c.requires.apart lt) in
    let mine = c.requires.named i (record { page = 0; slot = 0 }) lt in
    let more = ReleasedIn-more (take i c.args.pairs.now) e c.args.t first now new mine.0 (named-low now.fields.undos e.page c.args.t (ap slot_named stays ∙ mine.1)) turn.fields inv.released in
    record {
      releasing = turn.releasing;
      same = SameWords-trans 0 0 0 0 first now new inv.same turn.same;
      released = subst (λ (ps : List Pair). ReleasedIn ps c.args.t first new) (sym (take_more c.args.pairs.now i (record { page = 0; slot = 0 }) lt)) more;
      shape = turn.shape ∙ inv.shape;
    }

pub loop-pair-init : goal.loop-pair-init
loop-pair-init g c =
    let first = chart (g.B.Board.state c.args.board.now) in
    record {
      releasing = c.requires.releasing;
      same = SameWords-refl first (Releasing.sound c.requires.releasing);
      released = ReleasedIn-none c.args.t first;
      shape = refl;
    }

pub release_page-requires-clause-releasing : goal.release_page-requires-clause-releasing
release_page-requires-clause-releasing g c = c.loop-pair.invariant.releasing

pub returns-in_err-release_page : goal.returns-in_err-release_page
returns-in_err-release_page g c =
    let first = chart (g.B.Board.state c.args.board.now) in
    let now = chart (g.B.Board.state c.loop-pair.board) in
    let new = chart (g.B.Board.state c.release_page.new.board) in
    let inv = c.loop-pair.invariant in
    let e = c.in_err-release_page.ensures in
    let result = c.from_residual.result in
    let left = c.from_residual.ensures.1 in
    record {
      same = SameWords-trans 0 0 0 0 first now new inv.same e.same;
      releasing = none-done result _ _ left;
      released = none-done result _ _ left;
      shape = e.shape ∙ inv.shape;
      power = off-of result _ new.on e.power left;
    }

pub returns : goal.returns
returns g c =
    let first = chart (g.B.Board.state c.args.board.now) in
    let now = chart (g.B.Board.state c.loop-pair.board) in
    let inv = c.loop-pair.invariant in
    record {
      same = inv.same;
      releasing = inv.releasing;
      released = subst (λ (ps : List Pair). ReleasedIn ps c.args.t first now) (take_all c.loop-pair.pair-index c.args.pairs.now c.loop-pair-test.false) inv.released;
      shape = inv.shape;
      power = inv.releasing.on;
    }

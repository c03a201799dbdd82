use Rattle.std.proofs.Common.{◌+◌, ◌*◌, arith, inr, ◌∙◌, length, sym, subst}
use Rattle.envy_btree.specs.Index.{IsPlanted}
use Rattle.envy_btree.proofs.Planting.{planted-aside, shallow-aside}
use Rattle.envy_btree.proofs.Felling.{removed-inside-ok}
use Rattle.envy_array.proofs.Working.{Works-trans, Works-more}
use Rattle.envy_btree.specs.Depths.{IsShallow}
use Rattle.envy_btree.proofs.Exits.{none-if, put-fails, fails-after, third-in}
use Rattle.envy_btree.proofs.removal.remove_inside.Goals as goal

pub remove_at_root-requires-clause-map : goal.remove_at_root-requires-clause-map
remove_at_root-requires-clause-map g c =
    let old = (g.W.Words.sheet c.args.words.now).words in
    let m = c.requires.map in
    (m.0, subst (λ w. IsPlanted w m.0) (sym c.in_ok-put.ensures.answer.1) (planted-aside old m.0 c.args.pairs m.1))

pub returns-clause-planted : goal.returns-clause-planted
returns-clause-planted g c es x =
    let old = (g.W.Words.sheet c.args.words.now).words in
    let mid = (g.W.Words.sheet c.put.new.self).words in
    let new = (g.W.Words.sheet c.remove_at_root.new.words).words in
    removed-inside-ok old mid new es c.args.key c.args.pairs c.remove_at_root.result x c.in_ok-put.ensures.answer.1 x.heap.size c.remove_at_root.ensures.planted

pub put-requires-clause-address : goal.put-requires-clause-address
put-requires-clause-address g c = third-in (length (g.W.Words.sheet c.args.words.now).words) c.requires.map.1.heap.size

pub put-requires-clause-begun : goal.put-requires-clause-begun
put-requires-clause-begun g c = c.requires.begun

pub put-requires-clause-room : goal.put-requires-clause-room
put-requires-clause-room g c = inr (omega (arith, c.requires.room))

pub returns-in_err-put-clause-works : goal.returns-in_err-put-clause-works
returns-in_err-put-clause-works g c = Works-more 1 (4 * c.args.level + 4) (g.W.Words.sheet c.args.words.now) (g.W.Words.sheet c.put.new.self) (omega arith) c.put.ensures.works.works

pub returns-in_err-put-clause-fails : goal.returns-in_err-put-clause-fails
returns-in_err-put-clause-fails g c = put-fails 3 c.args.pairs (g.W.Words.sheet c.args.words.now) (g.W.Words.sheet c.put.new.self) c.from_residual.result _ c.in_err-put.ensures.answer c.from_residual.ensures.1

pub returns-in_err-put-clause-planted : goal.returns-in_err-put-clause-planted
returns-in_err-put-clause-planted g c es x = none-if c.from_residual.result _ _ c.from_residual.ensures.1

pub remove_at_root-requires-clause-begun : goal.remove_at_root-requires-clause-begun
remove_at_root-requires-clause-begun g c = c.put.ensures.works.works.still c.in_ok-put.ensures.answer.0 ∙ c.requires.begun

pub remove_at_root-requires-clause-room : goal.remove_at_root-requires-clause-room
remove_at_root-requires-clause-room g c = omega (arith, c.requires.room, c.put.ensures.works.works.few c.in_ok-put.ensures.answer.0, c.put.ensures.works.works.room)

pub remove_at_root-requires-clause-levels : goal.remove_at_root-requires-clause-levels
remove_at_root-requires-clause-levels g c = subst (λ w. IsShallow w c.args.level) (sym c.in_ok-put.ensures.answer.1) (shallow-aside (g.W.Words.sheet c.args.words.now).words c.args.level c.args.pairs c.requires.levels)

pub returns-clause-works : goal.returns-clause-works
returns-clause-works g c = Works-more (1 + (4 * c.args.level + 3)) (4 * c.args.level + 4) _ _ (omega arith) (Works-trans 1 (4 * c.args.level + 3) (g.W.Words.sheet c.args.words.now) (g.W.Words.sheet c.put.new.self) (g.W.Words.sheet c.remove_at_root.new.words) c.put.ensures.works.works c.remove_at_root.ensures.works)

pub returns-clause-fails : goal.returns-clause-fails
returns-clause-fails g c = fails-after 1 (4 * c.args.level + 3) (g.W.Words.sheet c.args.words.now) (g.W.Words.sheet c.put.new.self) (g.W.Words.sheet c.remove_at_root.new.words) c.remove_at_root.result c.put.ensures.works.works c.remove_at_root.ensures.works c.remove_at_root.ensures.fails

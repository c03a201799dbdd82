use Rattle.std.proofs.Common.{◌+◌, ◌*◌, arith, inr, ◌∙◌, length, sym, subst}
use Rattle.envy_btree.specs.Index.{IsPlanted}
use Rattle.envy_btree.specs.Bulk.{MayFollow}
use Rattle.envy_btree.proofs.Planting.{planted-aside, shallow-aside}
use Rattle.envy_btree.proofs.Founding.{appended-ok, follow-aside}
use Rattle.envy_array.proofs.Working.{Works-trans, Works-more}
use Rattle.envy_btree.specs.Depths.{IsShallow}
use Rattle.envy_btree.proofs.Exits.{none-if, put-fails, fails-after, third-in}
use Rattle.envy_btree.proofs.bulk.append_inside.Goals as goal

pub append_at_root-requires-clause-map : goal.append_at_root-requires-clause-map
append_at_root-requires-clause-map g c =
    let old = (g.W.Words.sheet c.args.words.now).words in
    let m = c.requires.map in
    (m.0, subst (λ w. IsPlanted w m.0) (sym c.in_ok-put.ensures.answer.1) (planted-aside old m.0 c.args.count m.1), omega (arith, m.2, c.in_ok-put.ensures.works.works.long), subst (λ w. MayFollow w c.args.key c.args.pairs.now m.0) (sym c.in_ok-put.ensures.answer.1) (follow-aside old c.args.key c.args.count c.args.pairs.now m.0 m.3))

pub returns-clause-planted : goal.returns-clause-planted
returns-clause-planted g c es x few follow =
    let old = (g.W.Words.sheet c.args.words.now).words in
    let mid = (g.W.Words.sheet c.put.new.self).words in
    let new = (g.W.Words.sheet c.append_at_root.new.words).words in
    appended-ok old mid new es c.args.pairs.now c.args.key c.args.count c.append_at_root.result x few follow c.in_ok-put.ensures.answer.1 c.in_ok-put.ensures.works.works.long x.heap.size c.append_at_root.ensures.planted

pub put-requires-clause-address : goal.put-requires-clause-address
put-requires-clause-address g c = third-in (length (g.W.Words.sheet c.args.words.now).words) c.requires.map.1.heap.size

pub put-requires-clause-begun : goal.put-requires-clause-begun
put-requires-clause-begun g c = c.requires.begun

pub put-requires-clause-room : goal.put-requires-clause-room
put-requires-clause-room g c = inr (omega (arith, c.requires.room))

pub returns-in_err-put-clause-works : goal.returns-in_err-put-clause-works
returns-in_err-put-clause-works g c = Works-more 1 (4 * c.args.level + 7) (g.W.Words.sheet c.args.words.now) (g.W.Words.sheet c.put.new.self) (omega arith) c.put.ensures.works.works

pub returns-in_err-put-clause-fails : goal.returns-in_err-put-clause-fails
returns-in_err-put-clause-fails g c = put-fails 3 c.args.count (g.W.Words.sheet c.args.words.now) (g.W.Words.sheet c.put.new.self) c.from_residual.result _ c.in_err-put.ensures.answer c.from_residual.ensures.1

pub returns-in_err-put-clause-planted : goal.returns-in_err-put-clause-planted
returns-in_err-put-clause-planted g c es x few follow = none-if c.from_residual.result _ _ c.from_residual.ensures.1

pub append_at_root-requires-clause-begun : goal.append_at_root-requires-clause-begun
append_at_root-requires-clause-begun g c = c.put.ensures.works.works.still c.in_ok-put.ensures.answer.0 ∙ c.requires.begun

pub append_at_root-requires-clause-head : goal.append_at_root-requires-clause-head
append_at_root-requires-clause-head g c = c.in_ok-put.ensures.answer.2

pub append_at_root-requires-clause-room : goal.append_at_root-requires-clause-room
append_at_root-requires-clause-room g c = omega (arith, c.requires.room, c.put.ensures.works.works.few c.in_ok-put.ensures.answer.0, c.put.ensures.works.works.room)

pub append_at_root-requires-clause-levels : goal.append_at_root-requires-clause-levels
append_at_root-requires-clause-levels g c = subst (λ w. IsShallow w c.args.level) (sym c.in_ok-put.ensures.answer.1) (shallow-aside (g.W.Words.sheet c.args.words.now).words c.args.level c.args.count c.requires.levels)

pub returns-clause-works : goal.returns-clause-works
returns-clause-works g c = Works-more (1 + (4 * c.args.level + 6)) (4 * c.args.level + 7) _ _ (omega arith) (Works-trans 1 (4 * c.args.level + 6) (g.W.Words.sheet c.args.words.now) (g.W.Words.sheet c.put.new.self) (g.W.Words.sheet c.append_at_root.new.words) c.put.ensures.works.works c.append_at_root.ensures.works)

pub returns-clause-fails : goal.returns-clause-fails
returns-clause-fails g c = fails-after 1 (4 * c.args.level + 6) (g.W.Words.sheet c.args.words.now) (g.W.Words.sheet c.put.new.self) (g.W.Words.sheet c.append_at_root.new.words) c.append_at_root.result c.put.ensures.works.works c.append_at_root.ensures.works c.append_at_root.ensures.fails

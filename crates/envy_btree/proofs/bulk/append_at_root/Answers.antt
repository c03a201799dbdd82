use Rattle.std.proofs.Common.{◌≢◌, ◌+◌, ◌-◌, ◌*◌, ◌≤◌, ◌∙◌, ap, sym, subst, arith, get_or, List, ℕ, Option, OnOk, length}
use Rattle.envy_heap.specs.Pieces.{IsHeap, spare}
use Rattle.envy_btree.specs.Bulk.{Brim, Follows}
use Rattle.envy_btree.specs.Changes.{Crowned}
use Rattle.envy_btree.proofs.Planting.{planted-spare, way-fits}
use Rattle.envy_btree.proofs.Founding.{planted-founds, founds-ok, alone-ok}
use Rattle.envy_array.proofs.Working.{Works-trans, Works-more}
use Rattle.envy_btree.proofs.Exits.{none-if, err-fails, off-fails, fails-after, no-works, zero-in}
use Rattle.envy_btree.proofs.bulk.append_at_root.Goals as goal

pub crown-requires-clause-heap : goal.crown-requires-clause-heap
crown-requires-clause-heap g c =
    let old = (g.W.Words.sheet c.args.words.now).words in
    let s = planted-spare old _ c.requires.map.1 c.requires.map.2 in
    subst (λ w. (free : List ℕ) × IsHeap w free × (1 ≤ spare w free)) (sym c.in_ok-root.ensures.answer.2) (s.0, s.1, omega (arith, s.2))

pub returns-then-root-eq0-clause-planted : goal.returns-then-root-eq0-clause-planted
returns-then-root-eq0-clause-planted g c es x few follow =
    let old = (g.W.Words.sheet c.args.words.now).words in
    let new = (g.W.Words.sheet c.crown.new.words).words in
    let root = c.in_ok-root.ensures.answer in
    let leaf = c.leaf_of-leaf.ensures in
    let made = subst (λ w. (free : List ℕ) → IsHeap w free → OnOk c.crown.result (Crowned w new free 0 c.deref.result.now c.deref-then-root-eq0.result.now)) root.2 c.crown.ensures.crowned in
    alone-ok old new c.args.key c.args.pairs.now es c.deref.result.now c.deref-then-root-eq0.result.now c.crown.result x follow c.requires.most (sym root.1 ∙ c.if-root-eq0.true) (c.deref.ensures.0 ∙ leaf.keys) (c.deref-then-root-eq0.ensures.0 ∙ leaf.values) made

pub overflow_cast-piece : goal.overflow_cast-piece
overflow_cast-piece g c =
    let old = (g.W.Words.sheet c.args.words.now).words in
    let root = c.in_ok-root.ensures.answer.1 in
    let some : get_or old 0 0 ≢ 0 = λ e. c.if-root-eq0.false (root ∙ e) in
    let n = planted-founds old c.requires.map.0 c.args.pairs.now (c.in_ok-root.root - 1) c.args.level c.args.key c.requires.map.1 c.requires.levels c.requires.few c.requires.map.2 c.requires.map.3 (ap (λ x. x - 1) root) some in
    let fits = way-fits old _ _ _ (g.met.W.Words.lawful c.args.words.now).few n.brim.way in
    omega (arith, fits)

pub append_under-requires-clause-brim : goal.append_under-requires-clause-brim
append_under-requires-clause-brim g c =
    let old = (g.W.Words.sheet c.args.words.now).words in
    let root = c.in_ok-root.ensures.answer in
    let some : get_or old 0 0 ≢ 0 = λ e. c.if-root-eq0.false (root.1 ∙ e) in
    let n = planted-founds old c.requires.map.0 c.args.pairs.now (c.in_ok-root.root - 1) c.args.level c.args.key c.requires.map.1 c.requires.levels c.requires.few c.requires.map.2 c.requires.map.3 (ap (λ x. x - 1) root.1) some in
    subst (λ w. Brim w (c.in_ok-root.root - 1) c.args.level c.args.key c.args.pairs.now) (sym root.2) n.brim

pub returns-in_default-clause-planted : goal.returns-in_default-clause-planted
returns-in_default-clause-planted g c es x few follow =
    let old = (g.W.Words.sheet c.args.words.now).words in
    let mid = (g.W.Words.sheet c.append_under.new.words).words in
    let root = c.in_ok-root.ensures.answer in
    let p = c.in_ok-root.root - 1 in
    let some : get_or old 0 0 ≢ 0 = λ e. c.if-root-eq0.false (root.1 ∙ e) in
    let n = planted-founds old es c.args.pairs.now p c.args.level c.args.key x c.requires.levels c.requires.few few follow (ap (λ x. x - 1) root.1) some in
    let a = subst (λ w. (h : Brim w p c.args.level c.args.key c.args.pairs.now) → Follows w mid p c.args.level c.args.key c.args.pairs.now h.way.rests c.in_ok-middle.field-0) root.2 c.in_ok-middle.ensures.follows in
    n.same mid (subst (λ r. Follows old mid p c.args.level c.args.key c.args.pairs.now n.brim.way.rests r) c.in_default.is (a n.brim))

pub crown-requires-2-clause-heap : goal.crown-requires-2-clause-heap
crown-requires-2-clause-heap g c =
    let old = (g.W.Words.sheet c.args.words.now).words in
    let mid = (g.W.Words.sheet c.append_under.new.words).words in
    let root = c.in_ok-root.ensures.answer in
    let p = c.in_ok-root.root - 1 in
    let some : get_or old 0 0 ≢ 0 = λ e. c.if-root-eq0.false (root.1 ∙ e) in
    let n = planted-founds old c.requires.map.0 c.args.pairs.now p c.args.level c.args.key c.requires.map.1 c.requires.levels c.requires.few c.requires.map.2 c.requires.map.3 (ap (λ x. x - 1) root.1) some in
    let a = subst (λ w. (h : Brim w p c.args.level c.args.key c.args.pairs.now) → Follows w mid p c.args.level c.args.key c.args.pairs.now h.way.rests c.in_ok-middle.field-0) root.2 c.in_ok-middle.ensures.follows in
    n.ready mid (c.in-Some.middle, c.in-Some.second) (subst (λ r. Follows old mid p c.args.level c.args.key c.args.pairs.now n.brim.way.rests r) c.in-Some.is (a n.brim))

pub returns-clause-planted : goal.returns-clause-planted
returns-clause-planted g c es x few follow =
    let old = (g.W.Words.sheet c.args.words.now).words in
    let mid = (g.W.Words.sheet c.append_under.new.words).words in
    let new = (g.W.Words.sheet c.crown-2.new.words).words in
    let root = c.in_ok-root.ensures.answer in
    let p = c.in_ok-root.root - 1 in
    let some : get_or old 0 0 ≢ 0 = λ e. c.if-root-eq0.false (root.1 ∙ e) in
    let n = planted-founds old es c.args.pairs.now p c.args.level c.args.key x c.requires.levels c.requires.few few follow (ap (λ x. x - 1) root.1) some in
    let a = subst (λ w. (h : Brim w p c.args.level c.args.key c.args.pairs.now) → Follows w mid p c.args.level c.args.key c.args.pairs.now h.way.rests c.in_ok-middle.field-0) root.2 c.in_ok-middle.ensures.follows in
    let b = subst (λ r. Follows old mid p c.args.level c.args.key c.args.pairs.now n.brim.way.rests r) c.in-Some.is (a n.brim) in
    founds-ok old mid new es c.args.pairs.now p c.args.level c.args.key (c.in-Some.middle, c.in-Some.second) c.crown-2.result n b c.crown-2.ensures.crowned

pub load-requires : goal.load-requires
load-requires g c = zero-in (length (g.W.Words.sheet c.args.words.now).words) c.requires.map.1.heap.size

pub returns-in_err-root-clause-works : goal.returns-in_err-root-clause-works
returns-in_err-root-clause-works g c = no-works (4 * c.args.level + 6) (g.W.Words.sheet c.args.words.now) (g.W.Words.sheet c.load.new.self) c.load.ensures.works

pub returns-in_err-root-clause-fails : goal.returns-in_err-root-clause-fails
returns-in_err-root-clause-fails g c = off-fails (g.W.Words.sheet c.args.words.now) (g.W.Words.sheet c.load.new.self) c.from_residual.result c.from_residual.ensures.1 c.in_err-root.ensures.answer

pub returns-in_err-root-clause-planted : goal.returns-in_err-root-clause-planted
returns-in_err-root-clause-planted g c es x few follow = none-if c.from_residual.result _ _ c.from_residual.ensures.1

pub crown-requires-clause-begun : goal.crown-requires-clause-begun
crown-requires-clause-begun g c = c.load.ensures.works.still c.in_ok-root.ensures.answer.0 ∙ c.requires.begun

pub crown-requires-clause-head : goal.crown-requires-clause-head
crown-requires-clause-head g c = c.load.ensures.works.seen c.in_ok-root.ensures.answer.0 0 c.requires.head

pub crown-requires-clause-room : goal.crown-requires-clause-room
crown-requires-clause-room g c = omega (arith, c.requires.room, c.load.ensures.works.few c.in_ok-root.ensures.answer.0, c.load.ensures.works.room)

pub returns-then-root-eq0-clause-works : goal.returns-then-root-eq0-clause-works
returns-then-root-eq0-clause-works g c = Works-more 2 (4 * c.args.level + 6) (g.W.Words.sheet c.args.words.now) (g.W.Words.sheet c.crown.new.words) (omega arith) (Works-trans 0 2 (g.W.Words.sheet c.args.words.now) (g.W.Words.sheet c.load.new.self) (g.W.Words.sheet c.crown.new.words) c.load.ensures.works c.crown.ensures.works)

pub returns-then-root-eq0-clause-fails : goal.returns-then-root-eq0-clause-fails
returns-then-root-eq0-clause-fails g c = fails-after 0 2 (g.W.Words.sheet c.args.words.now) (g.W.Words.sheet c.load.new.self) (g.W.Words.sheet c.crown.new.words) c.crown.result c.load.ensures.works c.crown.ensures.works c.crown.ensures.fails

pub append_under-requires-clause-begun : goal.append_under-requires-clause-begun
append_under-requires-clause-begun g c = c.load.ensures.works.still c.in_ok-root.ensures.answer.0 ∙ c.requires.begun

pub append_under-requires-clause-head : goal.append_under-requires-clause-head
append_under-requires-clause-head g c = c.load.ensures.works.seen c.in_ok-root.ensures.answer.0 0 c.requires.head

pub append_under-requires-clause-room : goal.append_under-requires-clause-room
append_under-requires-clause-room g c = omega (arith, c.requires.room, c.load.ensures.works.few c.in_ok-root.ensures.answer.0, c.load.ensures.works.room)

pub returns-in_err-middle-clause-works : goal.returns-in_err-middle-clause-works
returns-in_err-middle-clause-works g c = Works-more (0 + (4 * c.args.level + 4)) (4 * c.args.level + 6) (g.W.Words.sheet c.args.words.now) (g.W.Words.sheet c.append_under.new.words) (omega arith) (Works-trans 0 (4 * c.args.level + 4) (g.W.Words.sheet c.args.words.now) (g.W.Words.sheet c.load.new.self) (g.W.Words.sheet c.append_under.new.words) c.load.ensures.works c.append_under.ensures.works)

pub returns-in_err-middle-clause-fails : goal.returns-in_err-middle-clause-fails
returns-in_err-middle-clause-fails g c = fails-after 0 (4 * c.args.level + 4) (g.W.Words.sheet c.args.words.now) (g.W.Words.sheet c.load.new.self) (g.W.Words.sheet c.append_under.new.words) c.from_residual-in_err-middle.result c.load.ensures.works c.append_under.ensures.works (err-fails (Option (ℕ × ℕ)) (g.W.Words.sheet c.load.new.self) (g.W.Words.sheet c.append_under.new.words) c.from_residual-in_err-middle.result _ c.in_err-middle.ensures.fails c.from_residual-in_err-middle.ensures.1)

pub returns-in_err-middle-clause-planted : goal.returns-in_err-middle-clause-planted
returns-in_err-middle-clause-planted g c es x few follow = none-if c.from_residual-in_err-middle.result _ _ c.from_residual-in_err-middle.ensures.1

pub returns-in_default-clause-works : goal.returns-in_default-clause-works
returns-in_default-clause-works g c = Works-more (0 + (4 * c.args.level + 4)) (4 * c.args.level + 6) (g.W.Words.sheet c.args.words.now) (g.W.Words.sheet c.append_under.new.words) (omega arith) (Works-trans 0 (4 * c.args.level + 4) (g.W.Words.sheet c.args.words.now) (g.W.Words.sheet c.load.new.self) (g.W.Words.sheet c.append_under.new.words) c.load.ensures.works c.append_under.ensures.works)

pub returns-in_default-clause-fails : goal.returns-in_default-clause-fails
returns-in_default-clause-fails g c = c.in_ok-middle.ensures.fails

pub crown-requires-2-clause-begun : goal.crown-requires-2-clause-begun
crown-requires-2-clause-begun g c = c.in_ok-middle.ensures.works.still c.in_ok-middle.ensures.fails ∙ (c.load.ensures.works.still c.in_ok-root.ensures.answer.0 ∙ c.requires.begun)

pub crown-requires-2-clause-head : goal.crown-requires-2-clause-head
crown-requires-2-clause-head g c = c.in_ok-middle.ensures.works.seen c.in_ok-middle.ensures.fails 0 (c.load.ensures.works.seen c.in_ok-root.ensures.answer.0 0 c.requires.head)

pub crown-requires-2-clause-room : goal.crown-requires-2-clause-room
crown-requires-2-clause-room g c = omega (arith, c.requires.room, c.load.ensures.works.few c.in_ok-root.ensures.answer.0, c.load.ensures.works.room, c.in_ok-middle.ensures.works.few c.in_ok-middle.ensures.fails, c.in_ok-middle.ensures.works.room)

pub returns-clause-works : goal.returns-clause-works
returns-clause-works g c = Works-more ((0 + (4 * c.args.level + 4)) + 2) (4 * c.args.level + 6) _ _ (omega arith) (Works-trans (0 + (4 * c.args.level + 4)) 2 (g.W.Words.sheet c.args.words.now) (g.W.Words.sheet c.append_under.new.words) (g.W.Words.sheet c.crown-2.new.words) (Works-trans 0 (4 * c.args.level + 4) (g.W.Words.sheet c.args.words.now) (g.W.Words.sheet c.load.new.self) (g.W.Words.sheet c.append_under.new.words) c.load.ensures.works c.append_under.ensures.works) c.crown-2.ensures.works)

pub returns-clause-fails : goal.returns-clause-fails
returns-clause-fails g c = fails-after (0 + (4 * c.args.level + 4)) 2 (g.W.Words.sheet c.args.words.now) (g.W.Words.sheet c.append_under.new.words) (g.W.Words.sheet c.crown-2.new.words) c.crown-2.result (Works-trans 0 (4 * c.args.level + 4) (g.W.Words.sheet c.args.words.now) (g.W.Words.sheet c.load.new.self) (g.W.Words.sheet c.append_under.new.words) c.load.ensures.works c.append_under.ensures.works) c.crown-2.ensures.works c.crown-2.ensures.fails

pub append_under-requires-clause-many : goal.append_under-requires-clause-many
append_under-requires-clause-many g c =
    let old = (g.W.Words.sheet c.args.words.now).words in
    let root = c.in_ok-root.ensures.answer in
    let some : get_or old 0 0 ≢ 0 = λ e. c.if-root-eq0.false (root.1 ∙ e) in
    (planted-founds old c.requires.map.0 c.args.pairs.now (c.in_ok-root.root - 1) c.args.level c.args.key c.requires.map.1 c.requires.levels c.requires.few c.requires.map.2 c.requires.map.3 (ap (λ x. x - 1) root.1) some).many

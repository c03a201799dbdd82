use Rattle.std.proofs.Common.{refl, ◌≡◌, ◌≢◌, ◌+◌, ◌-◌, ◌*◌, ◌≤◌, ◌∙◌, ap, sym, subst, arith, length, get_or, Option, IfSome, OnOk}
use Rattle.envy_heap.specs.Pieces.{one}
use Rattle.envy_btree.specs.Pairs.{without}
use Rattle.envy_btree.specs.Tree.{Shows}
use Rattle.envy_btree.specs.Index.{IsPlanted}
use Rattle.envy_btree.specs.Changes.{Rests}
use Rattle.envy_btree.proofs.Diving.{child-told}
use Rattle.envy_btree.proofs.Descent.{Rests-within}
use Rattle.envy_btree.proofs.Felling.{planted-uproots, planted-none, gone-ok, kept-ok, rests-fits}
use Rattle.envy_array.specs.Words.{Works}
use Rattle.envy_array.proofs.Working.{Works-trans, Works-more}
use Rattle.envy_btree.specs.declared.node.Node.{Node}
use Rattle.envy_btree.proofs.Exits.{none-if, err-fails, off-fails, fails-after, no-works, zero-in}
use Rattle.envy_btree.proofs.drop_root.remove_at_root.Goals as goal

pub returns-then-root-eq0-clause-planted : goal.returns-then-root-eq0-clause-planted
returns-then-root-eq0-clause-planted g c es x =
    let old = (g.W.Words.sheet c.args.words.now).words in
    let root = c.in_ok-root.ensures.answer in
    (subst (λ w. IsPlanted w (without c.args.key es)) (sym root.2) (planted-none old es c.args.key x (sym root.1 ∙ c.if-root-eq0.true)), ap (λ w. get_or w 3 0) root.2)

pub overflow_cast-piece : goal.overflow_cast-piece
overflow_cast-piece g c =
    let old = (g.W.Words.sheet c.args.words.now).words in
    let root = c.in_ok-root.ensures.answer in
    let p = c.in_ok-root.root - 1 in
    let some : get_or old 0 0 ≢ 0 = λ e. c.if-root-eq0.false (root.1 ∙ e) in
    let u = planted-uproots old _ p c.args.level c.args.key c.requires.map.1 c.requires.levels (ap (λ x. x - 1) root.1) some in
    let fits = rests-fits old p c.args.level (g.met.W.Words.lawful c.args.words.now).few u.rests in
    omega (arith, fits)

pub remove_under-requires-clause-rests : goal.remove_under-requires-clause-rests
remove_under-requires-clause-rests g c =
    let old = (g.W.Words.sheet c.args.words.now).words in
    let root = c.in_ok-root.ensures.answer in
    let p = c.in_ok-root.root - 1 in
    let some : get_or old 0 0 ≢ 0 = λ e. c.if-root-eq0.false (root.1 ∙ e) in
    let u = planted-uproots old _ p c.args.level c.args.key c.requires.map.1 c.requires.levels (ap (λ x. x - 1) root.1) some in
    subst (λ w. Rests w p c.args.level) (sym root.2) u.rests

pub returns-in_default-clause-planted : goal.returns-in_default-clause-planted
returns-in_default-clause-planted g c es x =
    let root = c.in_ok-root.ensures.answer in
    let mid = (g.W.Words.sheet c.remove_under.new.words).words in
    let u = planted-uproots _ es (c.in_ok-root.root - 1) c.args.level c.args.key x c.requires.levels (ap (λ x. x - 1) root.1) (λ e. c.if-root-eq0.false (root.1 ∙ e)) in
    let d = child-told _ _ mid _ _ c.args.level c.args.key c.in_ok-node.field-0 _ u.rests root.2 refl c.in_default.is c.in_ok-node.ensures.shrinks in
    u.same mid d

pub uncrown-requires-clause-heap : goal.uncrown-requires-clause-heap
uncrown-requires-clause-heap g c =
    let root = c.in_ok-root.ensures.answer in
    let mid = (g.W.Words.sheet c.remove_under.new.words).words in
    let u = planted-uproots _ _ (c.in_ok-root.root - 1) c.args.level c.args.key c.requires.map.1 c.requires.levels (ap (λ x. x - 1) root.1) (λ e. c.if-root-eq0.false (root.1 ∙ e)) in
    let d = child-told _ _ mid _ _ c.args.level c.args.key c.in_ok-node.field-0 _ u.rests root.2 refl c.in-Some.is c.in_ok-node.ensures.shrinks in
    u.ready mid c.in-Some.node d

pub uncrown-requires-clause-child : goal.uncrown-requires-clause-child
uncrown-requires-clause-child g c =
    let root = c.in_ok-root.ensures.answer in
    let mid = (g.W.Words.sheet c.remove_under.new.words).words in
    let u = planted-uproots _ _ (c.in_ok-root.root - 1) c.args.level c.args.key c.requires.map.1 c.requires.levels (ap (λ x. x - 1) root.1) (λ e. c.if-root-eq0.false (root.1 ∙ e)) in
    let d = child-told _ _ mid _ _ c.args.level c.args.key c.in_ok-node.field-0 _ u.rests root.2 refl c.in-Some.is c.in_ok-node.ensures.shrinks in
    u.child mid c.in-Some.node d

pub uncrown-requires-clause-fits : goal.uncrown-requires-clause-fits
uncrown-requires-clause-fits g c =
    let root = c.in_ok-root.ensures.answer in
    let mid = (g.W.Words.sheet c.remove_under.new.words).words in
    let u = planted-uproots _ _ (c.in_ok-root.root - 1) c.args.level c.args.key c.requires.map.1 c.requires.levels (ap (λ x. x - 1) root.1) (λ e. c.if-root-eq0.false (root.1 ∙ e)) in
    let d = child-told _ _ mid _ _ c.args.level c.args.key c.in_ok-node.field-0 _ u.rests root.2 refl c.in-Some.is c.in_ok-node.ensures.shrinks in
    let none : length c.in-Some.node.keys.items ≡ 0 = omega (arith, c.if-len-gt0.false, c.len.ensures.value) in
    u.fits mid c.in-Some.node d none (g.met.W.Words.lawful c.remove_under.new.words).few

pub returns-clause-planted : goal.returns-clause-planted
returns-clause-planted g c es x =
    let root = c.in_ok-root.ensures.answer in
    let mid = (g.W.Words.sheet c.remove_under.new.words).words in
    let u = planted-uproots _ es (c.in_ok-root.root - 1) c.args.level c.args.key x c.requires.levels (ap (λ x. x - 1) root.1) (λ e. c.if-root-eq0.false (root.1 ∙ e)) in
    let d = child-told _ _ mid _ _ c.args.level c.args.key c.in_ok-node.field-0 _ u.rests root.2 refl c.in-Some.is c.in_ok-node.ensures.shrinks in
    let none : length c.in-Some.node.keys.items ≡ 0 = omega (arith, c.if-len-gt0.false, c.len.ensures.value) in
    gone-ok _ mid (g.W.Words.sheet c.uncrown.new.words).words es _ c.args.level c.args.key c.in-Some.node c.uncrown.result u d none c.uncrown.ensures.uncrowned

pub write_node-requires-clause-within : goal.write_node-requires-clause-within
write_node-requires-clause-within g c =
    let old = (g.W.Words.sheet c.args.words.now).words in
    let root = c.in_ok-root.ensures.answer in
    let p = c.in_ok-root.root - 1 in
    let some : get_or old 0 0 ≢ 0 = λ e. c.if-root-eq0.false (root.1 ∙ e) in
    let u = planted-uproots old _ p c.args.level c.args.key c.requires.map.1 c.requires.levels (ap (λ x. x - 1) root.1) some in
    omega (arith, (Rests-within old p c.args.level u.rests).0, c.in_ok-root.ensures.works.long, c.in_ok-node.ensures.works.long)

pub write_node-requires-clause-keys : goal.write_node-requires-clause-keys
write_node-requires-clause-keys g c =
    let root = c.in_ok-root.ensures.answer in
    let mid = (g.W.Words.sheet c.remove_under.new.words).words in
    let u = planted-uproots _ _ (c.in_ok-root.root - 1) c.args.level c.args.key c.requires.map.1 c.requires.levels (ap (λ x. x - 1) root.1) (λ e. c.if-root-eq0.false (root.1 ∙ e)) in
    let d = child-told _ _ mid _ _ c.args.level c.args.key c.in_ok-node.field-0 _ u.rests root.2 refl c.in-Some.is c.in_ok-node.ensures.shrinks in
    omega (arith, (u.few mid c.in-Some.node d).0, ap length c.deref.ensures.0)

pub write_node-requires-clause-slots : goal.write_node-requires-clause-slots
write_node-requires-clause-slots g c =
    let root = c.in_ok-root.ensures.answer in
    let mid = (g.W.Words.sheet c.remove_under.new.words).words in
    let u = planted-uproots _ _ (c.in_ok-root.root - 1) c.args.level c.args.key c.requires.map.1 c.requires.levels (ap (λ x. x - 1) root.1) (λ e. c.if-root-eq0.false (root.1 ∙ e)) in
    let d = child-told _ _ mid _ _ c.args.level c.args.key c.in_ok-node.field-0 _ u.rests root.2 refl c.in-Some.is c.in_ok-node.ensures.shrinks in
    omega (arith, (u.few mid c.in-Some.node d).1, ap length c.deref-then-len-gt0.ensures.0)

pub returns-then-len-gt0-clause-planted : goal.returns-then-len-gt0-clause-planted
returns-then-len-gt0-clause-planted g c es x =
    let p = c.in_ok-root.root - 1 in
    let root = c.in_ok-root.ensures.answer in
    let mid = (g.W.Words.sheet c.remove_under.new.words).words in
    let u = planted-uproots _ es (c.in_ok-root.root - 1) c.args.level c.args.key x c.requires.levels (ap (λ x. x - 1) root.1) (λ e. c.if-root-eq0.false (root.1 ∙ e)) in
    let d = child-told _ _ mid _ _ c.args.level c.args.key c.in_ok-node.field-0 _ u.rests root.2 refl c.in-Some.is c.in_ok-node.ensures.shrinks in
    let new = (g.W.Words.sheet c.write_node.new.words).words in
    let n = c.in-Some.node in
    let some_key : 1 ≤ length n.keys.items = omega (arith, c.if-len-gt0.true, c.len.ensures.value) in
    let shows = subst (λ y. OnOk c.write_node.result (Shows new p (one n.inner) y c.deref-then-len-gt0.result.now)) c.deref.ensures.0 c.write_node.ensures.node in
    kept-ok _ mid new es p c.args.level c.args.key n c.write_node.result u d some_key (subst (λ y. OnOk c.write_node.result (Shows new p (one n.inner) n.keys.items y)) c.deref-then-len-gt0.ensures.0 shows) c.write_node.ensures.only

pub load-requires : goal.load-requires
load-requires g c = zero-in (length (g.W.Words.sheet c.args.words.now).words) c.requires.map.1.heap.size

pub returns-in_err-root-clause-works : goal.returns-in_err-root-clause-works
returns-in_err-root-clause-works g c = no-works (4 * c.args.level + 3) (g.W.Words.sheet c.args.words.now) (g.W.Words.sheet c.load.new.self) c.load.ensures.works

pub returns-in_err-root-clause-fails : goal.returns-in_err-root-clause-fails
returns-in_err-root-clause-fails g c = off-fails (g.W.Words.sheet c.args.words.now) (g.W.Words.sheet c.load.new.self) c.from_residual.result c.from_residual.ensures.1 c.in_err-root.ensures.answer

pub returns-in_err-root-clause-planted : goal.returns-in_err-root-clause-planted
returns-in_err-root-clause-planted g c es x = none-if c.from_residual.result _ _ c.from_residual.ensures.1

pub returns-then-root-eq0-clause-works : goal.returns-then-root-eq0-clause-works
returns-then-root-eq0-clause-works g c = no-works (4 * c.args.level + 3) (g.W.Words.sheet c.args.words.now) (g.W.Words.sheet c.load.new.self) c.load.ensures.works

pub returns-then-root-eq0-clause-fails : goal.returns-then-root-eq0-clause-fails
returns-then-root-eq0-clause-fails g c = c.in_ok-root.ensures.answer.0

pub remove_under-requires-clause-begun : goal.remove_under-requires-clause-begun
remove_under-requires-clause-begun g c = c.load.ensures.works.still c.in_ok-root.ensures.answer.0 ∙ c.requires.begun

pub remove_under-requires-clause-room : goal.remove_under-requires-clause-room
remove_under-requires-clause-room g c = omega (arith, c.requires.room, c.load.ensures.works.few c.in_ok-root.ensures.answer.0, c.load.ensures.works.room)

pub returns-in_err-node-clause-works : goal.returns-in_err-node-clause-works
returns-in_err-node-clause-works g c = Works-more (0 + (4 * c.args.level + 2)) (4 * c.args.level + 3) (g.W.Words.sheet c.args.words.now) (g.W.Words.sheet c.remove_under.new.words) (omega arith) (Works-trans 0 (4 * c.args.level + 2) (g.W.Words.sheet c.args.words.now) (g.W.Words.sheet c.load.new.self) (g.W.Words.sheet c.remove_under.new.words) c.load.ensures.works c.remove_under.ensures.works)

pub returns-in_err-node-clause-fails : goal.returns-in_err-node-clause-fails
returns-in_err-node-clause-fails g c = fails-after 0 (4 * c.args.level + 2) (g.W.Words.sheet c.args.words.now) (g.W.Words.sheet c.load.new.self) (g.W.Words.sheet c.remove_under.new.words) c.from_residual-in_err-node.result c.load.ensures.works c.remove_under.ensures.works (err-fails (Option Node) (g.W.Words.sheet c.load.new.self) (g.W.Words.sheet c.remove_under.new.words) c.from_residual-in_err-node.result _ c.in_err-node.ensures.fails c.from_residual-in_err-node.ensures.1)

pub returns-in_err-node-clause-planted : goal.returns-in_err-node-clause-planted
returns-in_err-node-clause-planted g c es x = none-if c.from_residual-in_err-node.result _ _ c.from_residual-in_err-node.ensures.1

pub returns-in_default-clause-works : goal.returns-in_default-clause-works
returns-in_default-clause-works g c = Works-more (0 + (4 * c.args.level + 2)) (4 * c.args.level + 3) (g.W.Words.sheet c.args.words.now) (g.W.Words.sheet c.remove_under.new.words) (omega arith) (Works-trans 0 (4 * c.args.level + 2) (g.W.Words.sheet c.args.words.now) (g.W.Words.sheet c.load.new.self) (g.W.Words.sheet c.remove_under.new.words) c.load.ensures.works c.remove_under.ensures.works)

pub returns-in_default-clause-fails : goal.returns-in_default-clause-fails
returns-in_default-clause-fails g c = c.in_ok-node.ensures.fails

pub write_node-requires-clause-begun : goal.write_node-requires-clause-begun
write_node-requires-clause-begun g c = c.in_ok-node.ensures.works.still c.in_ok-node.ensures.fails ∙ (c.load.ensures.works.still c.in_ok-root.ensures.answer.0 ∙ c.requires.begun)

pub write_node-requires-clause-room : goal.write_node-requires-clause-room
write_node-requires-clause-room g c =
    let old = g.W.Words.sheet c.args.words.now in
    let mid = g.W.Words.sheet c.remove_under.new.words in
    let short : Works (4 * c.args.level) (g.W.Words.sheet c.load.new.self) mid = subst (λ r. IfSome r (λ _. Works (4 * c.args.level) (g.W.Words.sheet c.load.new.self) mid)) c.in-Some.is c.in_ok-node.ensures.hand in
    let so_far = Works-trans 0 (4 * c.args.level) old (g.W.Words.sheet c.load.new.self) mid c.load.ensures.works short in
    omega (arith, c.requires.room, so_far.few c.in_ok-node.ensures.fails, so_far.room)

pub returns-then-len-gt0-clause-works : goal.returns-then-len-gt0-clause-works
returns-then-len-gt0-clause-works g c =
    let old = g.W.Words.sheet c.args.words.now in
    let mid = g.W.Words.sheet c.remove_under.new.words in
    let short : Works (4 * c.args.level) (g.W.Words.sheet c.load.new.self) mid = subst (λ r. IfSome r (λ _. Works (4 * c.args.level) (g.W.Words.sheet c.load.new.self) mid)) c.in-Some.is c.in_ok-node.ensures.hand in
    let so_far = Works-trans 0 (4 * c.args.level) old (g.W.Words.sheet c.load.new.self) mid c.load.ensures.works short in
    Works-more ((0 + (4 * c.args.level)) + 2) (4 * c.args.level + 3) old (g.W.Words.sheet c.write_node.new.words) (omega arith) (Works-trans (0 + (4 * c.args.level)) 2 old mid (g.W.Words.sheet c.write_node.new.words) so_far c.write_node.ensures.works)

pub returns-then-len-gt0-clause-fails : goal.returns-then-len-gt0-clause-fails
returns-then-len-gt0-clause-fails g c = fails-after (0 + (4 * c.args.level + 2)) 2 (g.W.Words.sheet c.args.words.now) (g.W.Words.sheet c.remove_under.new.words) (g.W.Words.sheet c.write_node.new.words) c.write_node.result (Works-trans 0 (4 * c.args.level + 2) (g.W.Words.sheet c.args.words.now) (g.W.Words.sheet c.load.new.self) (g.W.Words.sheet c.remove_under.new.words) c.load.ensures.works c.remove_under.ensures.works) c.write_node.ensures.works c.write_node.ensures.fails

pub uncrown-requires-clause-begun : goal.uncrown-requires-clause-begun
uncrown-requires-clause-begun g c = c.in_ok-node.ensures.works.still c.in_ok-node.ensures.fails ∙ (c.load.ensures.works.still c.in_ok-root.ensures.answer.0 ∙ c.requires.begun)

pub uncrown-requires-clause-room : goal.uncrown-requires-clause-room
uncrown-requires-clause-room g c =
    let old = g.W.Words.sheet c.args.words.now in
    let mid = g.W.Words.sheet c.remove_under.new.words in
    let short : Works (4 * c.args.level) (g.W.Words.sheet c.load.new.self) mid = subst (λ r. IfSome r (λ _. Works (4 * c.args.level) (g.W.Words.sheet c.load.new.self) mid)) c.in-Some.is c.in_ok-node.ensures.hand in
    let so_far = Works-trans 0 (4 * c.args.level) old (g.W.Words.sheet c.load.new.self) mid c.load.ensures.works short in
    omega (arith, c.requires.room, so_far.few c.in_ok-node.ensures.fails, so_far.room)

pub returns-clause-works : goal.returns-clause-works
returns-clause-works g c =
    let old = g.W.Words.sheet c.args.words.now in
    let mid = g.W.Words.sheet c.remove_under.new.words in
    let short : Works (4 * c.args.level) (g.W.Words.sheet c.load.new.self) mid = subst (λ r. IfSome r (λ _. Works (4 * c.args.level) (g.W.Words.sheet c.load.new.self) mid)) c.in-Some.is c.in_ok-node.ensures.hand in
    let so_far = Works-trans 0 (4 * c.args.level) old (g.W.Words.sheet c.load.new.self) mid c.load.ensures.works short in
    Works-more ((0 + (4 * c.args.level)) + 3) (4 * c.args.level + 3) _ _ (omega arith) (Works-trans (0 + (4 * c.args.level)) 3 old mid (g.W.Words.sheet c.uncrown.new.words) so_far c.uncrown.ensures.works)

pub returns-clause-fails : goal.returns-clause-fails
returns-clause-fails g c = fails-after (0 + (4 * c.args.level + 2)) 3 (g.W.Words.sheet c.args.words.now) (g.W.Words.sheet c.remove_under.new.words) (g.W.Words.sheet c.uncrown.new.words) c.uncrown.result (Works-trans 0 (4 * c.args.level + 2) (g.W.Words.sheet c.args.words.now) (g.W.Words.sheet c.load.new.self) (g.W.Words.sheet c.remove_under.new.words) c.load.ensures.works c.remove_under.ensures.works) c.uncrown.ensures.works c.uncrown.ensures.fails

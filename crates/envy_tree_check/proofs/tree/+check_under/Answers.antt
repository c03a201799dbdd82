use Rattle.std.proofs.Common.{◌≡◌, ◌≢◌, ◌+◌, ◌*◌, ◌-◌, ◌/◌, ◌<◌, ◌≤◌, ◌∙◌, ℕ, List, true, false, IsTrue, ap, sym, subst, length, get_or, refl, arith}
use Rattle.std.specs.List.{sum_by}
use Rattle.envy_heap.specs.Pieces.{IsHeap, at, head, pieces}
use Rattle.envy_heap.proofs.Heaps.{one-lt}
use Rattle.envy_btree.specs.Rules.{key_at, key_count, kind_at, pairs_under, slot_at}
use Rattle.envy_btree.specs.Tree.{window}
use Rattle.envy_btree.proofs.Viewing.{Looks-refl, Looks-trans}
use Rattle.envy_tree_check.specs.Bounds.{floor_at, high_at, low_at}
use Rattle.envy_tree_check.specs.Grown.{AreMarked, Dims, Grows, capped, nodes_under}
use Rattle.envy_tree_check.specs.Faults.{Sickens}
use Rattle.envy_tree_check.proofs.Faulting.{IsChild, err-dims, err-if, sick-child}
use Rattle.envy_tree_check.proofs.Growing.{InOrder}
use Rattle.envy_tree_check.proofs.Totals.{nodes-all, nodes-leaf, pairs-all, pairs-leaf, total-more, total-none, used-within}
use Rattle.envy_tree_check.proofs.Under.{IsNoted, above-noted, count-noted, grown-more, inner-noted, leaf-noted, odd-noted}
use Rattle.envy_tree_check.proofs.tree.+check_under.Goals as goal

-- in each: the words at entry, and after the first word and the keys of the node were seen

pub count_of-requires-clause-within : goal.count_of-requires-clause-within
count_of-requires-clause-within g t c = used-within (g.W.Words.sheet c.args.words.now).words c.args.spot.piece c.args.used c.requires.below c.requires.most

pub returns-in_err-count-clause-power : goal.returns-in_err-count-clause-power
returns-in_err-count-clause-power g t c = err-dims _ c.from_residual.result c.in_err-count.field-0.0 _ c.from_residual.ensures.1 c.in_err-count.ensures.power

pub returns-in_err-count-clause-sickens : goal.returns-in_err-count-clause-sickens
returns-in_err-count-clause-sickens g t c free m = err-if (λ e. Sickens (g.W.Words.sheet c.args.words.now).words free c.args.spot.root c.args.spot.low (c.args.spot.top + 1) c.args.spot.levels c.args.spot.piece e) c.from_residual.result c.in_err-count.field-0.0 c.from_residual.ensures.1 (c.in_err-count.ensures.sickens free m)

pub check_keys-requires : goal.check_keys-requires
check_keys-requires g t c =
    let ws = (g.W.Words.sheet c.args.words.now).words in
    let same = (c.count_of.ensures.looks.same c.in_ok-count.ensures.power).0 in
    record {
      on = c.in_ok-count.ensures.power;
      within = subst (λ w. at c.args.spot.piece 63 < length w) (sym same) (used-within ws c.args.spot.piece c.args.used c.requires.below c.requires.most);
      most = c.in_ok-count.ensures.most;
      head = ap (λ w. get_or w (head c.args.spot.piece) 0) same ∙ c.in_ok-count.ensures.head;
    }

pub returns-in_err-check_keys-clause-looks : goal.returns-in_err-check_keys-clause-looks
returns-in_err-check_keys-clause-looks g t c = Looks-trans _ _ _ c.count_of.ensures.looks c.check_keys.ensures.looks

pub returns-in_err-check_keys-clause-power : goal.returns-in_err-check_keys-clause-power
returns-in_err-check_keys-clause-power g t c =
    let same = (c.count_of.ensures.looks.same c.in_ok-count.ensures.power).0 in
    err-dims _ c.from_residual-in_err-check_keys.result c.in_err-check_keys.field-0.0 _ c.from_residual-in_err-check_keys.ensures.1 (subst (λ w. Dims w c.in_err-check_keys.field-0.0 (g.W.Words.sheet c.check_keys.new.words)) same c.in_err-check_keys.ensures.power)

pub returns-in_err-check_keys-clause-sickens : goal.returns-in_err-check_keys-clause-sickens
returns-in_err-check_keys-clause-sickens g t c free m =
    let same = (c.count_of.ensures.looks.same c.in_ok-count.ensures.power).0 in
    err-if (λ e. Sickens (g.W.Words.sheet c.args.words.now).words free c.args.spot.root c.args.spot.low (c.args.spot.top + 1) c.args.spot.levels c.args.spot.piece e) c.from_residual-in_err-check_keys.result c.in_err-check_keys.field-0.0 c.from_residual-in_err-check_keys.ensures.1 (subst (λ w. Sickens w free c.args.spot.root c.args.spot.low (c.args.spot.top + 1) c.args.spot.levels c.args.spot.piece c.in_err-check_keys.field-0.0) same (c.in_err-check_keys.ensures.sickens free))

pub returns-then-spot-eq0-clause-looks : goal.returns-then-spot-eq0-clause-looks
returns-then-spot-eq0-clause-looks g t c = Looks-trans _ _ _ c.count_of.ensures.looks c.check_keys.ensures.looks

pub returns-then-spot-eq0-clause-grows : goal.returns-then-spot-eq0-clause-grows
returns-then-spot-eq0-clause-grows g t c free heap m =
    let ws = (g.W.Words.sheet c.args.words.now).words in
    let same = (c.count_of.ensures.looks.same c.in_ok-count.ensures.power).0 in
    let noted : IsNoted ws c.args.marks.now c.args.spot.root c.args.spot.levels c.args.spot.piece c.in_ok-count.count = record { within = used-within ws c.args.spot.piece c.args.used c.requires.below c.requires.most; word = c.in_ok-count.ensures.head; few = c.in_ok-count.ensures.most; least = c.in_ok-count.ensures.least; unmarked = c.in_ok-count.ensures.unmarked; below = subst (λ x. c.args.spot.piece < x) c.requires.used c.requires.below } in
    let order : InOrder ws c.args.spot.low (c.args.spot.top + 1) c.args.spot.piece c.in_ok-count.count = record { order = subst (λ w. (i : ℕ) → i < c.in_ok-count.count → (floor_at w c.args.spot.low c.args.spot.piece i ≤ key_at w c.args.spot.piece i) × (key_at w c.args.spot.piece i < c.args.spot.top + 1)) same c.in_ok-check_keys.ensures.order } in
    leaf-noted ws free c.args.marks.now c.args.spot.root c.args.spot.low (c.args.spot.top + 1) c.args.spot.levels c.args.spot.piece c.in_ok-count.count heap m noted c.if-spot-eq0.true c.requires.first order

pub returns-then-spot-eq0-clause-nodes : goal.returns-then-spot-eq0-clause-nodes
returns-then-spot-eq0-clause-nodes g t c = nodes-leaf (g.W.Words.sheet c.args.words.now).words c.args.spot.piece c.args.spot.levels c.args.tally.nodes c.with_pairs.result.nodes c.if-spot-eq0.true (c.with_pairs.ensures.nodes ∙ c.with_node-total.ensures.nodes)

pub returns-then-spot-eq0-clause-pairs : goal.returns-then-spot-eq0-clause-pairs
returns-then-spot-eq0-clause-pairs g t c =
    let ws = (g.W.Words.sheet c.args.words.now).words in
    let same = (c.count_of.ensures.looks.same c.in_ok-count.ensures.power).0 in
    let noted : IsNoted ws c.args.marks.now c.args.spot.root c.args.spot.levels c.args.spot.piece c.in_ok-count.count = record { within = used-within ws c.args.spot.piece c.args.used c.requires.below c.requires.most; word = c.in_ok-count.ensures.head; few = c.in_ok-count.ensures.most; least = c.in_ok-count.ensures.least; unmarked = c.in_ok-count.ensures.unmarked; below = subst (λ x. c.args.spot.piece < x) c.requires.used c.requires.below } in
    pairs-leaf ws c.args.spot.piece c.args.spot.levels c.in_ok-count.count c.args.tally.pairs c.with_node-total.result.pairs c.with_pairs.result.pairs c.if-spot-eq0.true (count-noted ws c.args.marks.now c.args.spot.root c.args.spot.levels c.args.spot.piece c.in_ok-count.count noted) c.with_node-total.ensures.pairs c.with_pairs.ensures.pairs

pub loop-j-init : goal.loop-j-init
loop-j-init g t c =
    let ws = (g.W.Words.sheet c.args.words.now).words in
    let same = (c.count_of.ensures.looks.same c.in_ok-count.ensures.power).0 in
    record {
      looks = Looks-trans _ _ _ c.count_of.ensures.looks c.check_keys.ensures.looks;
      on = c.in_ok-check_keys.ensures.power;
      same = (c.check_keys.ensures.looks.same c.in_ok-check_keys.ensures.power).0 ∙ same;
      grown = λ free heap m i lt. absurd (omega arith);
      nodes = total-none (nodes_under (c.args.spot.levels - 1) ws) ws (at c.args.spot.piece 32) c.with_node-total.result.nodes (omega (arith, c.with_node-total.ensures.nodes));
      pairs = total-none (pairs_under (c.args.spot.levels - 1) ws) ws (at c.args.spot.piece 32) c.with_node-total.result.pairs (omega (arith, c.with_node-total.ensures.pairs));
    }

pub child_of-requires : goal.child_of-requires
child_of-requires g t c =
    let ws = (g.W.Words.sheet c.args.words.now).words in
    let same = (c.count_of.ensures.looks.same c.in_ok-count.ensures.power).0 in
    let now = c.loop-j.invariant.same in
    let noted : IsNoted ws c.args.marks.now c.args.spot.root c.args.spot.levels c.args.spot.piece c.in_ok-count.count = record { within = used-within ws c.args.spot.piece c.args.used c.requires.below c.requires.most; word = c.in_ok-count.ensures.head; few = c.in_ok-count.ensures.most; least = c.in_ok-count.ensures.least; unmarked = c.in_ok-count.ensures.unmarked; below = subst (λ x. c.args.spot.piece < x) c.requires.used c.requires.below } in
    let order : InOrder ws c.args.spot.low (c.args.spot.top + 1) c.args.spot.piece c.in_ok-count.count = record { order = subst (λ w. (i : ℕ) → i < c.in_ok-count.count → (floor_at w c.args.spot.low c.args.spot.piece i ≤ key_at w c.args.spot.piece i) × (key_at w c.args.spot.piece i < c.args.spot.top + 1)) same c.in_ok-check_keys.ensures.order } in
    let some : 1 ≤ c.args.spot.levels = omega arith in
    record {
      on = c.loop-j.invariant.on;
      used = c.requires.used ∙ ap (λ w. get_or w 2 0) (sym now);
      within = subst (λ w. at c.args.spot.piece 63 < length w) (sym now) noted.within;
      levels = some;
      head = ap (λ w. get_or w (head c.args.spot.piece) 0) now ∙ (omega (arith, noted.word, one-lt 0 c.args.spot.levels some));
      most = c.in_ok-count.ensures.most;
      place = omega arith;
      above = λ i lt. subst (λ w. 1 ≤ key_at w c.args.spot.piece i) (sym now) (above-noted ws c.args.marks.now c.args.spot.root c.args.spot.low (c.args.spot.top + 1) c.args.spot.levels c.args.spot.piece c.in_ok-count.count noted some order i lt);
    }

pub returns-in_err-child-clause-looks : goal.returns-in_err-child-clause-looks
returns-in_err-child-clause-looks g t c = Looks-trans _ _ _ c.loop-j.invariant.looks c.child_of.ensures.looks

pub returns-in_err-child-clause-power : goal.returns-in_err-child-clause-power
returns-in_err-child-clause-power g t c =
    err-dims _ c.from_residual-in_err-child.result c.in_err-child.field-0.0 _ c.from_residual-in_err-child.ensures.1 (subst (λ w. Dims w c.in_err-child.field-0.0 (g.W.Words.sheet c.child_of.new.words)) c.loop-j.invariant.same c.in_err-child.ensures.power)

pub returns-in_err-child-clause-sickens : goal.returns-in_err-child-clause-sickens
returns-in_err-child-clause-sickens g t c free m =
    err-if (λ e. Sickens (g.W.Words.sheet c.args.words.now).words free c.args.spot.root c.args.spot.low (c.args.spot.top + 1) c.args.spot.levels c.args.spot.piece e) c.from_residual-in_err-child.result c.in_err-child.field-0.0 c.from_residual-in_err-child.ensures.1 (subst (λ w. Sickens w free c.args.spot.root c.args.spot.low (c.args.spot.top + 1) c.args.spot.levels c.args.spot.piece c.in_err-child.field-0.0) c.loop-j.invariant.same (c.in_err-child.ensures.sickens free))

pub check_under-requires : goal.check_under-requires
check_under-requires g t c κs within =
    let before : (g.W.Words.sheet c.child_of.new.words).words ≡ (g.W.Words.sheet c.args.words.now).words = (c.child_of.ensures.looks.same c.in_ok-child.ensures.power).0 ∙ c.loop-j.invariant.same in (
      omega (arith, c.in_ok-child.ensures.kind.1, c.decreases),
      (
        within,
        (
          subst (λ w. 640 ≤ length w) (sym before) c.requires.size,
          (
            c.requires.used ∙ ap (λ w. get_or w 2 0) (sym before),
            (
              subst (λ w. c.args.used ≤ pieces w) (sym before) c.requires.most,
              (c.requires.long, (c.in_ok-child.ensures.piece.1, λ root. absurd (let e : true ≡ false = sym root ∙ c.in_ok-child.ensures.kind.0 in cc))),
            ),
          ),
        ),
      ),
    )

pub returns-in_err-total-clause-looks : goal.returns-in_err-total-clause-looks
returns-in_err-total-clause-looks g t c = Looks-trans _ _ _ c.loop-j.invariant.looks (Looks-trans _ _ _ c.child_of.ensures.looks c.check_under.ensures.looks)

pub returns-in_err-total-clause-power : goal.returns-in_err-total-clause-power
returns-in_err-total-clause-power g t c =
    let before : (g.W.Words.sheet c.child_of.new.words).words ≡ (g.W.Words.sheet c.args.words.now).words = (c.child_of.ensures.looks.same c.in_ok-child.ensures.power).0 ∙ c.loop-j.invariant.same in
    err-dims _ c.from_residual-in_err-total.result c.in_err-total.field-0.0 _ c.from_residual-in_err-total.ensures.1 (subst (λ w. Dims w c.in_err-total.field-0.0 (g.W.Words.sheet c.check_under.new.words)) before c.in_err-total.ensures.power)

pub returns-in_err-total-clause-sickens : goal.returns-in_err-total-clause-sickens
returns-in_err-total-clause-sickens g t c free m =
    let ws = (g.W.Words.sheet c.args.words.now).words in
    let same = (c.count_of.ensures.looks.same c.in_ok-count.ensures.power).0 in
    let before : (g.W.Words.sheet c.child_of.new.words).words ≡ ws = (c.child_of.ensures.looks.same c.in_ok-child.ensures.power).0 ∙ c.loop-j.invariant.same in
    let noted : IsNoted ws c.args.marks.now c.args.spot.root c.args.spot.levels c.args.spot.piece c.in_ok-count.count = record { within = used-within ws c.args.spot.piece c.args.used c.requires.below c.requires.most; word = c.in_ok-count.ensures.head; few = c.in_ok-count.ensures.most; least = c.in_ok-count.ensures.least; unmarked = c.in_ok-count.ensures.unmarked; below = subst (λ x. c.args.spot.piece < x) c.requires.used c.requires.below } in
    let some : 1 ≤ c.args.spot.levels = omega arith in
    let child : IsChild ws c.args.spot.low (c.args.spot.top + 1) c.args.spot.levels c.args.spot.piece c.loop-j.j c.in_ok-child.child.root c.in_ok-child.child.low (c.in_ok-child.child.top + 1) c.in_ok-child.child.levels c.in_ok-child.child.piece = record { no_root = c.in_ok-child.ensures.kind.0; low_is = c.in_ok-child.ensures.low ∙ ap (λ w. low_at w c.args.spot.low c.args.spot.piece c.loop-j.j) c.loop-j.invariant.same; high_is = c.in_ok-child.ensures.high ∙ ap (λ w. high_at w (c.args.spot.top + 1) c.args.spot.piece c.loop-j.j) c.loop-j.invariant.same; under = c.in_ok-child.ensures.kind.1; place = c.in_ok-child.ensures.piece.0 ∙ ap (λ w. slot_at w c.args.spot.piece c.loop-j.j) c.loop-j.invariant.same } in
    let sick : Sickens ws free c.in_ok-child.child.root c.in_ok-child.child.low (c.in_ok-child.child.top + 1) c.in_ok-child.child.levels c.in_ok-child.child.piece c.in_err-total.field-0.0 = subst (λ w. Sickens w free c.in_ok-child.child.root c.in_ok-child.child.low (c.in_ok-child.child.top + 1) c.in_ok-child.child.levels c.in_ok-child.child.piece c.in_err-total.field-0.0) before (c.in_err-total.ensures.sickens free (subst (λ w. AreMarked w free c.args.marks.now) (sym before) m)) in
    err-if (λ e. Sickens ws free c.args.spot.root c.args.spot.low (c.args.spot.top + 1) c.args.spot.levels c.args.spot.piece e) c.from_residual-in_err-total.result c.in_err-total.field-0.0 c.from_residual-in_err-total.ensures.1
    (sick-child ws free c.args.spot.root c.args.spot.low (c.args.spot.top + 1) c.args.spot.levels c.args.spot.piece c.loop-j.j c.in_err-total.field-0.0 c.in_ok-child.child.root c.in_ok-child.child.low (c.in_ok-child.child.top + 1) c.in_ok-child.child.levels c.in_ok-child.child.piece child (odd-noted ws c.args.marks.now c.args.spot.root c.args.spot.levels c.args.spot.piece c.in_ok-count.count noted some) (omega (arith, count-noted ws c.args.marks.now c.args.spot.root c.args.spot.levels c.args.spot.piece c.in_ok-count.count noted)) sick)

pub loop-j-preserved : goal.loop-j-preserved
loop-j-preserved g t c =
    let ws = (g.W.Words.sheet c.args.words.now).words in
    let same = (c.count_of.ensures.looks.same c.in_ok-count.ensures.power).0 in
    let before : (g.W.Words.sheet c.child_of.new.words).words ≡ ws = (c.child_of.ensures.looks.same c.in_ok-child.ensures.power).0 ∙ c.loop-j.invariant.same in
    let noted : IsNoted ws c.args.marks.now c.args.spot.root c.args.spot.levels c.args.spot.piece c.in_ok-count.count = record { within = used-within ws c.args.spot.piece c.args.used c.requires.below c.requires.most; word = c.in_ok-count.ensures.head; few = c.in_ok-count.ensures.most; least = c.in_ok-count.ensures.least; unmarked = c.in_ok-count.ensures.unmarked; below = subst (λ x. c.args.spot.piece < x) c.requires.used c.requires.below } in
    let child : IsChild ws c.args.spot.low (c.args.spot.top + 1) c.args.spot.levels c.args.spot.piece c.loop-j.j c.in_ok-child.child.root c.in_ok-child.child.low (c.in_ok-child.child.top + 1) c.in_ok-child.child.levels c.in_ok-child.child.piece = record { no_root = c.in_ok-child.ensures.kind.0; low_is = c.in_ok-child.ensures.low ∙ ap (λ w. low_at w c.args.spot.low c.args.spot.piece c.loop-j.j) c.loop-j.invariant.same; high_is = c.in_ok-child.ensures.high ∙ ap (λ w. high_at w (c.args.spot.top + 1) c.args.spot.piece c.loop-j.j) c.loop-j.invariant.same; under = c.in_ok-child.ensures.kind.1; place = c.in_ok-child.ensures.piece.0 ∙ ap (λ w. slot_at w c.args.spot.piece c.loop-j.j) c.loop-j.invariant.same } in
    let under : c.in_ok-child.child.levels ≡ c.args.spot.levels - 1 = omega (arith, child.under) in
    let nodes = subst (λ d. c.in_ok-total.total.nodes ≡ capped (c.loop-j.total.nodes + nodes_under d ws c.in_ok-child.child.piece)) under (subst (λ w. c.in_ok-total.total.nodes ≡ capped (c.loop-j.total.nodes + nodes_under c.in_ok-child.child.levels w c.in_ok-child.child.piece)) before c.in_ok-total.ensures.nodes) in
    let pairs = subst (λ d. c.in_ok-total.total.pairs ≡ capped (c.loop-j.total.pairs + pairs_under d ws c.in_ok-child.child.piece)) under (subst (λ w. c.in_ok-total.total.pairs ≡ capped (c.loop-j.total.pairs + pairs_under c.in_ok-child.child.levels w c.in_ok-child.child.piece)) before c.in_ok-total.ensures.pairs) in
    let place : at c.args.spot.piece 32 + c.loop-j.j < length ws = omega (arith, noted.within, noted.few) in
    record {
      looks = Looks-trans _ _ _ c.loop-j.invariant.looks (Looks-trans _ _ _ c.child_of.ensures.looks c.check_under.ensures.looks);
      on = c.in_ok-total.ensures.power;
      same = (c.check_under.ensures.looks.same c.in_ok-total.ensures.power).0 ∙ before;
      grown = λ free heap m. grown-more ws free c.args.spot.low (c.args.spot.top + 1) c.args.spot.levels c.args.spot.piece c.loop-j.j c.in_ok-child.child.root c.in_ok-child.child.low (c.in_ok-child.child.top + 1) c.in_ok-child.child.levels c.in_ok-child.child.piece (c.loop-j.invariant.grown free heap m) child (subst (λ w. Grows w free c.in_ok-child.child.root c.in_ok-child.child.low (c.in_ok-child.child.top + 1) c.in_ok-child.child.levels c.in_ok-child.child.piece) before (c.in_ok-total.ensures.grows free (subst (λ w. IsHeap w free) (sym before) heap) (subst (λ w. AreMarked w free c.args.marks.now) (sym before) m)));
      nodes = total-more (nodes_under (c.args.spot.levels - 1) ws) ws (at c.args.spot.piece 32) c.loop-j.j _ c.loop-j.total.nodes c.in_ok-total.total.nodes c.in_ok-child.child.piece place c.loop-j.invariant.nodes child.place nodes;
      pairs = total-more (pairs_under (c.args.spot.levels - 1) ws) ws (at c.args.spot.piece 32) c.loop-j.j _ c.loop-j.total.pairs c.in_ok-total.total.pairs c.in_ok-child.child.piece place c.loop-j.invariant.pairs child.place pairs;
    }

pub returns-clause-looks : goal.returns-clause-looks
returns-clause-looks g t c = c.loop-j.invariant.looks

pub returns-clause-grows : goal.returns-clause-grows
returns-clause-grows g t c free heap m =
    let ws = (g.W.Words.sheet c.args.words.now).words in
    let same = (c.count_of.ensures.looks.same c.in_ok-count.ensures.power).0 in
    let noted : IsNoted ws c.args.marks.now c.args.spot.root c.args.spot.levels c.args.spot.piece c.in_ok-count.count = record { within = used-within ws c.args.spot.piece c.args.used c.requires.below c.requires.most; word = c.in_ok-count.ensures.head; few = c.in_ok-count.ensures.most; least = c.in_ok-count.ensures.least; unmarked = c.in_ok-count.ensures.unmarked; below = subst (λ x. c.args.spot.piece < x) c.requires.used c.requires.below } in
    let order : InOrder ws c.args.spot.low (c.args.spot.top + 1) c.args.spot.piece c.in_ok-count.count = record { order = subst (λ w. (i : ℕ) → i < c.in_ok-count.count → (floor_at w c.args.spot.low c.args.spot.piece i ≤ key_at w c.args.spot.piece i) × (key_at w c.args.spot.piece i < c.args.spot.top + 1)) same c.in_ok-check_keys.ensures.order } in
    let some : 1 ≤ c.args.spot.levels = omega arith in
    inner-noted ws free c.args.marks.now c.args.spot.root c.args.spot.low (c.args.spot.top + 1) c.args.spot.levels c.args.spot.piece c.in_ok-count.count heap m noted some order (λ j lt. c.loop-j.invariant.grown free heap m j (omega arith))

pub returns-clause-nodes : goal.returns-clause-nodes
returns-clause-nodes g t c =
    let ws = (g.W.Words.sheet c.args.words.now).words in
    let same = (c.count_of.ensures.looks.same c.in_ok-count.ensures.power).0 in
    let noted : IsNoted ws c.args.marks.now c.args.spot.root c.args.spot.levels c.args.spot.piece c.in_ok-count.count = record { within = used-within ws c.args.spot.piece c.args.used c.requires.below c.requires.most; word = c.in_ok-count.ensures.head; few = c.in_ok-count.ensures.most; least = c.in_ok-count.ensures.least; unmarked = c.in_ok-count.ensures.unmarked; below = subst (λ x. c.args.spot.piece < x) c.requires.used c.requires.below } in
    let end : c.loop-j.j ≡ c.in_ok-count.count + 1 = omega arith in
    nodes-all ws c.args.spot.piece c.args.spot.levels c.in_ok-count.count c.args.tally.nodes c.with_node-total.result.nodes c.loop-j.total.nodes (omega arith) (count-noted ws c.args.marks.now c.args.spot.root c.args.spot.levels c.args.spot.piece c.in_ok-count.count noted) c.with_node-total.ensures.nodes (subst (λ x. c.loop-j.total.nodes ≡ capped (c.with_node-total.result.nodes + sum_by (nodes_under (c.args.spot.levels - 1) ws) (window ws (at c.args.spot.piece 32) x))) end c.loop-j.invariant.nodes)

pub returns-clause-pairs : goal.returns-clause-pairs
returns-clause-pairs g t c =
    let ws = (g.W.Words.sheet c.args.words.now).words in
    let same = (c.count_of.ensures.looks.same c.in_ok-count.ensures.power).0 in
    let noted : IsNoted ws c.args.marks.now c.args.spot.root c.args.spot.levels c.args.spot.piece c.in_ok-count.count = record { within = used-within ws c.args.spot.piece c.args.used c.requires.below c.requires.most; word = c.in_ok-count.ensures.head; few = c.in_ok-count.ensures.most; least = c.in_ok-count.ensures.least; unmarked = c.in_ok-count.ensures.unmarked; below = subst (λ x. c.args.spot.piece < x) c.requires.used c.requires.below } in
    let end : c.loop-j.j ≡ c.in_ok-count.count + 1 = omega arith in
    pairs-all ws c.args.spot.piece c.args.spot.levels c.in_ok-count.count c.args.tally.pairs c.with_node-total.result.pairs c.loop-j.total.pairs (omega arith) (count-noted ws c.args.marks.now c.args.spot.root c.args.spot.levels c.args.spot.piece c.in_ok-count.count noted) c.with_node-total.ensures.pairs (subst (λ x. c.loop-j.total.pairs ≡ capped (c.with_node-total.result.pairs + sum_by (pairs_under (c.args.spot.levels - 1) ws) (window ws (at c.args.spot.piece 32) x))) end c.loop-j.invariant.pairs)

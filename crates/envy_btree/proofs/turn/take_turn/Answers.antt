use Rattle.std.proofs.Common.{◌≡◌, ◌+◌, ◌≤◌, ◌++◌, MatchOption, [], ℕ, length, take, sym, subst, inl, inr, arith}
use Rattle.envy_btree.specs.declared.leaf.Leaf.{Leaf}
use Rattle.envy_btree.specs.Looking.{IsLeaf, IsShown, first_of, pair_at, pairs_after, pairs_by, place_by}
use Rattle.envy_btree.proofs.Rows.{turn-full, turn-next}
use Rattle.envy_btree.proofs.turn.take_turn.Goals as goal

pub returns-then-filled-out-clause-shown : goal.returns-then-filled-out-clause-shown
returns-then-filled-out-clause-shown g c es x =
    let ws = (g.W.Words.sheet c.args.words.now).words in
    let one = (g.W.Words.sheet c.leaf_for.new.words).words in
    let two = (g.W.Words.sheet c.part_of.new.words).words in
    let leaf = c.in-Some.leaf in
    let part = c.in_ok-part.part in
    let n = c.count_within-count.result in
    let found : IsLeaf ws es leaf.spot.piece leaf.count leaf.spot.low leaf.spot.top = subst (λ o. MatchOption o (es ≡ []) (λ (y : Leaf). IsLeaf ws es y.spot.piece y.count y.spot.low y.spot.top)) c.in-Some.is (c.in_ok-leaf.ensures.sees es x) in
    let first = (c.leaf_for.ensures.looks.same c.in_ok-leaf.ensures.power).0 in
    let pairs = c.in_ok-part.ensures.pairs es (subst (λ w. IsLeaf w es leaf.spot.piece leaf.count leaf.spot.low leaf.spot.top) (sym first) found) in
    let second : two ≡ one = (c.part_of.ensures.looks.same c.in_ok-part.ensures.power).0 in
    let is = subst (λ w. pairs_by c.args.way c.args.key es ≡ first_of (λ j. pair_at w leaf.spot.piece (place_by c.args.way part.place j)) part.count ++ pairs_after c.args.way part.next es) (sym second) pairs in
    let all : n ≡ part.count = elim c.count_within-count.ensures.most [ inl e ↦ e | inr e ↦ absurd (omega (arith, e, c.if-filled-out.true, c.requires.room, c.write_pairs.auto.out)) ] in
    let row = λ (j : ℕ). pair_at two leaf.spot.piece (place_by c.args.way part.place j) in
    let list = subst (λ m. take (c.args.filled + m) c.write_pairs.new.out ≡ take c.args.filled c.args.out.now ++ first_of row m) all c.in_ok-write_pairs.ensures.list in
    subst (λ m. IsShown c.args.way es (take c.args.filled c.args.out.now ++ pairs_by c.args.way c.args.key es) (c.args.filled + m) part.next c.write_pairs.new.out) (sym all)
    (turn-next c.args.way es row c.args.out.now c.write_pairs.new.out c.args.key c.args.filled part.count part.next is list c.requires.room (omega (arith, all, c.if-filled-out.true)))

pub returns-clause-shown : goal.returns-clause-shown
returns-clause-shown g c es x =
    let ws = (g.W.Words.sheet c.args.words.now).words in
    let one = (g.W.Words.sheet c.leaf_for.new.words).words in
    let two = (g.W.Words.sheet c.part_of.new.words).words in
    let leaf = c.in-Some.leaf in
    let part = c.in_ok-part.part in
    let n = c.count_within-count.result in
    let found : IsLeaf ws es leaf.spot.piece leaf.count leaf.spot.low leaf.spot.top = subst (λ o. MatchOption o (es ≡ []) (λ (y : Leaf). IsLeaf ws es y.spot.piece y.count y.spot.low y.spot.top)) c.in-Some.is (c.in_ok-leaf.ensures.sees es x) in
    let first = (c.leaf_for.ensures.looks.same c.in_ok-leaf.ensures.power).0 in
    let pairs = c.in_ok-part.ensures.pairs es (subst (λ w. IsLeaf w es leaf.spot.piece leaf.count leaf.spot.low leaf.spot.top) (sym first) found) in
    let second : two ≡ one = (c.part_of.ensures.looks.same c.in_ok-part.ensures.power).0 in
    let is = subst (λ w. pairs_by c.args.way c.args.key es ≡ first_of (λ j. pair_at w leaf.spot.piece (place_by c.args.way part.place j)) part.count ++ pairs_after c.args.way part.next es) (sym second) pairs in
    let row = λ (j : ℕ). pair_at two leaf.spot.piece (place_by c.args.way part.place j) in
    let few : n ≤ part.count = c.count_within-count.ensures.few in
    let long : length c.write_pairs.new.out ≡ c.args.filled + n = omega (arith, c.count_within-count.ensures.within, c.if-filled-out.false, c.requires.room, c.write_pairs.auto.out) in
    turn-full row c.args.out.now c.write_pairs.new.out (pairs_by c.args.way c.args.key es) (pairs_after c.args.way part.next es) c.args.filled n part.count is c.in_ok-write_pairs.ensures.list few c.requires.room long

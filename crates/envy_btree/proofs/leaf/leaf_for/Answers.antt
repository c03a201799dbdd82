use Rattle.std.proofs.Common.{◌≢◌, ◌-◌, ◌^◌, ◌∙◌, ap, sym, subst, length, get_or, arith}
use Rattle.envy_btree.specs.declared.leaf.Leaf.{Leaf}
use Rattle.envy_btree.specs.Looking.{IsLeaf, IsUnder}
use Rattle.envy_btree.proofs.LeafLooks.{root-under, under-within}
use Rattle.envy_btree.proofs.Viewing.{err-sees, unbroken}
use Rattle.envy_btree.proofs.leaf.leaf_for.Goals as goal

pub returns-in_err-piece-clause-sees : goal.returns-in_err-piece-clause-sees
returns-in_err-piece-clause-sees g c es x =
    let ws = (g.W.Words.sheet c.args.words.now).words in
    let root = c.in_ok-root.ensures.answer in
    let some : get_or ws 0 0 ≢ 0 = λ e. c.if-root-eq0.false (root.1 ∙ e) in
    let within = under-within ws es (c.in_ok-root.root - 1) 0 (2 ^ 64 - 1) 0 (root-under ws es (c.in_ok-root.root - 1) x c.requires.size (ap (λ n. n - 1) root.1) some) in
    let long = ap (λ w. length w) root.2 in
    unbroken _ c.from_residual-in_err-piece.result c.in_err-piece.field-0.0 c.from_residual-in_err-piece.ensures.1 (λ is. absurd (omega (arith, within, long, c.size-2.ensures, c.in_err-piece.ensures.err.1)))

pub returns-in_err-leaf-clause-sees : goal.returns-in_err-leaf-clause-sees
returns-in_err-leaf-clause-sees g c es x =
    let ws = (g.W.Words.sheet c.args.words.now).words in
    let mid = (g.W.Words.sheet c.load.new.self).words in
    let root = c.in_ok-root.ensures.answer in
    let some : get_or ws 0 0 ≢ 0 = λ e. c.if-root-eq0.false (root.1 ∙ e) in
    let u : IsUnder ws es c.in_ok-piece.piece 0 (2 ^ 64 - 1) 0 = root-under ws es c.in_ok-piece.piece x c.requires.size (c.in_ok-piece.ensures.ok.0 ∙ ap (λ n. n - 1) root.1) some in
    let seen = c.in_err-leaf.ensures.sees es (subst (λ w. IsUnder w es c.in_ok-piece.piece 0 (2 ^ 64 - 1) 0) (sym root.2) u) in
    err-sees (λ (x : Leaf). IsLeaf mid es x.spot.piece x.count x.spot.low x.spot.top) _ c.from_residual-in_err-leaf.result c.in_err-leaf.field-0.0 c.from_residual-in_err-leaf.ensures.1 seen

pub returns-clause-sees : goal.returns-clause-sees
returns-clause-sees g c es x =
    let ws = (g.W.Words.sheet c.args.words.now).words in
    let root = c.in_ok-root.ensures.answer in
    let some : get_or ws 0 0 ≢ 0 = λ e. c.if-root-eq0.false (root.1 ∙ e) in
    let u : IsUnder ws es c.in_ok-piece.piece 0 (2 ^ 64 - 1) 0 = root-under ws es c.in_ok-piece.piece x c.requires.size (c.in_ok-piece.ensures.ok.0 ∙ ap (λ n. n - 1) root.1) some in
    let seen = c.in_ok-leaf.ensures.sees es (subst (λ w. IsUnder w es c.in_ok-piece.piece 0 (2 ^ 64 - 1) 0) (sym root.2) u) in
    let leaf = c.in_ok-leaf.leaf in
    subst (λ w. IsLeaf w es leaf.spot.piece leaf.count leaf.spot.low leaf.spot.top) root.2 seen

use Rattle.std.proofs.Common.{◌≡◌, ◌+◌, ◌∙◌, ap, length, get_or, arith}
use Rattle.envy_heap.specs.Pieces.{at}
use Rattle.envy_btree.proofs.LeafLooks.{under-child, under-within}
use Rattle.envy_btree.proofs.leaf.child_of.Goals as goal

pub returns-in_err-piece-clause-sees : goal.returns-in_err-piece-clause-sees
returns-in_err-piece-clause-sees g c es levels u first =
    let ws = (g.W.Words.sheet c.args.words.now).words in
    let same : (g.W.Words.sheet c.place_of.new.words).words ≡ ws = (c.place_of.ensures.looks.same (c.in_ok-index.ensures.power c.requires.on)).0 in
    let child : c.in_ok-child.child ≡ get_or ws (at c.args.spot.piece 32 + c.in_ok-index.field-0.index) 0 =
    c.in_ok-child.ensures.answer.1 ∙ ap (λ w. get_or w (at c.args.spot.piece 32 + c.in_ok-index.field-0.index) 0) same in
    let kid = under-child ws es c.args.spot.piece c.args.spot.low c.args.spot.top levels c.args.count c.args.key c.in_ok-index.field-0.index c.in_ok-index.field-0.low c.in_ok-index.field-0.top c.in_ok-child.child u first c.in_ok-index.ensures.place child in
    let within = under-within ws es c.in_ok-child.child c.in_ok-index.field-0.low c.in_ok-index.field-0.top (levels + 1) kid in
    let long = ap (λ w. length w) (c.in_ok-child.ensures.answer.2 ∙ same) in
    absurd (omega (arith, within, c.size.ensures, c.in_err-piece.ensures.err.1, long))

pub returns-clause-sees : goal.returns-clause-sees
returns-clause-sees g c es levels u first =
    let ws = (g.W.Words.sheet c.args.words.now).words in
    let same : (g.W.Words.sheet c.place_of.new.words).words ≡ ws = (c.place_of.ensures.looks.same (c.in_ok-index.ensures.power c.requires.on)).0 in
    let child : c.in_ok-piece.piece ≡ get_or ws (at c.args.spot.piece 32 + c.in_ok-index.field-0.index) 0 =
    c.in_ok-piece.ensures.ok.0 ∙ c.in_ok-child.ensures.answer.1 ∙ ap (λ w. get_or w (at c.args.spot.piece 32 + c.in_ok-index.field-0.index) 0) same in
    under-child ws es c.args.spot.piece c.args.spot.low c.args.spot.top levels c.args.count c.args.key c.in_ok-index.field-0.index c.in_ok-index.field-0.low c.in_ok-index.field-0.top c.in_ok-piece.piece u first c.in_ok-index.ensures.place child

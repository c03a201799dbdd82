use Rattle.std.proofs.Common.{◌∙◌, sym, arith}
use Rattle.envy_heap.specs.Pieces.{at}
use Rattle.envy_btree.proofs.Passing.{long-of, parts-first, parts-none}
use Rattle.envy_btree.proofs.part.place_from.Goals as goal

pub returns-then-leaf-eq0-clause-pairs : goal.returns-then-leaf-eq0-clause-pairs
returns-then-leaf-eq0-clause-pairs g c low high es r keys =
    parts-none c.args.key es (sym (long-of _ c.args.leaf.spot.piece _ es c.requires.within c.requires.few keys) ∙ c.if-leaf-eq0.true)

pub returns-then-first-key-clause-pairs : goal.returns-then-first-key-clause-pairs
returns-then-first-key-clause-pairs g c low high es r keys =
    parts-first (g.W.Words.sheet c.args.words.now).words (at c.args.leaf.spot.piece 1) c.args.leaf.count c.args.key low high es r keys (omega (arith, c.if-leaf-eq0.false)) (omega (arith, c.in_ok-first.ensures.answer.1, c.if-first-key.true))

use Rattle.std.proofs.Common.{◌∙◌, subst}
use Rattle.envy_btree.specs.Nearest.{pairs_to, IsGreatestTo}
use Rattle.envy_btree.proofs.Calling.{greatest-of}
use Rattle.envy_btree.proofs.Heading.{to-headed, written-none, written-some}
use Rattle.envy_btree.proofs.scans.last.Goals as goal

pub returns-then-count-eq0-clause-finds : goal.returns-then-count-eq0-clause-finds
returns-then-count-eq0-clause-finds g c es x =
    let s = c.in_ok-count.ensures.scans es x in
    (s.0, subst (λ o. IsGreatestTo c.args.key es o) (to-headed c.args.key es ∙ written-none (pairs_to c.args.key es) c.scan_down.new.out c.in_ok-count.count s.1 c.if-count-eq0.true) (greatest-of (g.W.Words.sheet c.args.words.now).words es c.args.key x), s.2)

pub returns-else-count-eq0-clause-finds : goal.returns-else-count-eq0-clause-finds
returns-else-count-eq0-clause-finds g c es x =
    let s = c.in_ok-count.ensures.scans es x in
    (s.0, subst (λ o. IsGreatestTo c.args.key es o) (to-headed c.args.key es ∙ written-some (pairs_to c.args.key es) c.scan_down.new.out c.in_ok-count.count s.1 c.if-count-eq0.false) (greatest-of (g.W.Words.sheet c.args.words.now).words es c.args.key x), s.2)

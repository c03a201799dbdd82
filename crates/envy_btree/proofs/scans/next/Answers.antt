use Rattle.std.proofs.Common.{◌∙◌, subst}
use Rattle.envy_btree.specs.Nearest.{pairs_from, IsLeastFrom}
use Rattle.envy_btree.proofs.Calling.{least-of}
use Rattle.envy_btree.proofs.Heading.{from-headed, written-none, written-some}
use Rattle.envy_btree.proofs.scans.next.Goals as goal

pub returns-then-count-eq0-clause-finds : goal.returns-then-count-eq0-clause-finds
returns-then-count-eq0-clause-finds g c es x =
    let s = c.in_ok-count.ensures.scans es x in
    (s.0, subst (λ o. IsLeastFrom c.args.key es o) (from-headed c.args.key es ∙ written-none (pairs_from c.args.key es) c.scan.new.out c.in_ok-count.count s.1 c.if-count-eq0.true) (least-of (g.W.Words.sheet c.args.words.now).words es c.args.key x), s.2)

pub returns-else-count-eq0-clause-finds : goal.returns-else-count-eq0-clause-finds
returns-else-count-eq0-clause-finds g c es x =
    let s = c.in_ok-count.ensures.scans es x in
    (s.0, subst (λ o. IsLeastFrom c.args.key es o) (from-headed c.args.key es ∙ written-some (pairs_from c.args.key es) c.scan.new.out c.in_ok-count.count s.1 c.if-count-eq0.false) (least-of (g.W.Words.sheet c.args.words.now).words es c.args.key x), s.2)

use Rattle.std.proofs.Common.{◌-◌, ◌∙◌, arith, ap, sym, subst, length}
use Rattle.envy_btree.specs.Changes.{Rests}
use Rattle.envy_btree.proofs.Exits.{zero-in}
use Rattle.envy_btree.proofs.Rooting.{Root-rests, root-fits}
use Rattle.envy_btree.proofs.Looking.{none-deep, root-deep-ok, root-few-ok, root-value-ok, root-none}
use Rattle.envy_btree.proofs.search.look_up.Goals as goal

pub load-requires : goal.load-requires
load-requires g c = zero-in (length (g.W.Words.sheet c.args.words.now).words) c.requires.map.1.planted.heap.size

pub returns-then-root-eq0-clause-value : goal.returns-then-root-eq0-clause-value
returns-then-root-eq0-clause-value g c es x = sym (root-none _ es c.args.key x (sym c.in_ok-root.ensures.answer.1 ∙ c.if-root-eq0.true))

pub returns-then-root-eq0-clause-depth : goal.returns-then-root-eq0-clause-depth
returns-then-root-eq0-clause-depth g c = none-deep _ (sym c.in_ok-root.ensures.answer.1 ∙ c.if-root-eq0.true)

pub overflow_cast-piece : goal.overflow_cast-piece
overflow_cast-piece g c =
    let old = (g.W.Words.sheet c.args.words.now).words in
    let root = c.in_ok-root.ensures.answer in
    let r = Root-rests old c.requires.map.0 (c.in_ok-root.root - 1) c.requires.map.1.planted c.requires.size (ap (λ x. x - 1) root.1) (λ e. c.if-root-eq0.false (root.1 ∙ e)) in
    let fits = root-fits old c.requires.map.0 (c.in_ok-root.root - 1) (g.met.W.Words.lawful c.args.words.now).few r in
    omega (arith, fits)

pub locate-requires : goal.locate-requires
locate-requires g c =
    let old = (g.W.Words.sheet c.args.words.now).words in
    let root = c.in_ok-root.ensures.answer in
    let r = Root-rests old c.requires.map.0 (c.in_ok-root.root - 1) c.requires.map.1.planted c.requires.size (ap (λ x. x - 1) root.1) (λ e. c.if-root-eq0.false (root.1 ∙ e)) in
    record { rests = subst (λ w. Rests w (c.in_ok-root.root - 1) 6) (sym root.2) r.rests }

pub returns-clause-value : goal.returns-clause-value
returns-clause-value g c es x =
    let root = c.in_ok-root.ensures.answer in
    root-value-ok _ _ es (c.in_ok-root.root - 1) c.args.key c.locate.result x c.requires.size (ap (λ x. x - 1) root.1) (λ e. c.if-root-eq0.false (root.1 ∙ e)) root.2 c.locate.ensures.value

pub returns-clause-depth : goal.returns-clause-depth
returns-clause-depth g c =
    let root = c.in_ok-root.ensures.answer in
    root-deep-ok _ _ (c.in_ok-root.root - 1) c.locate.result c.requires.size (ap (λ x. x - 1) root.1) (λ e. c.if-root-eq0.false (root.1 ∙ e)) root.2 c.locate.ensures.depth

pub returns-clause-few : goal.returns-clause-few
returns-clause-few g c =
    let root = c.in_ok-root.ensures.answer in
    root-few-ok _ _ c.requires.map.0 (c.in_ok-root.root - 1) c.locate.result c.requires.map.1 c.requires.size (ap (λ x. x - 1) root.1) (λ e. c.if-root-eq0.false (root.1 ∙ e)) root.2 c.locate.ensures.depth

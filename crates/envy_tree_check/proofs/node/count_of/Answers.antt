use Rattle.std.proofs.Common.{◌≡◌, ◌≢◌, ◌+◌, ◌*◌, ◌/◌, ◌%◌, ◌<◌, ◌≤◌, ◌∙◌, ap, sym, subst, get_or, refl, arith}
use Rattle.envy_tree_check.specs.declared.fault.MapFault.TheVariants.{Off}
use Rattle.envy_tree_check.proofs.Faulting.{err-dims, err-if}
use Rattle.envy_tree_check.proofs.Noding.{few-sick, freed-sick, head-said, head-sick, level-sick}
use Rattle.envy_tree_check.proofs.node.count_of.Goals as goal

pub returns-in_err-word-clause-power : goal.returns-in_err-word-clause-power
returns-in_err-word-clause-power g c = err-dims _ c.from_residual.result Off _ c.from_residual.ensures.1 c.in_err-word.ensures.answer

pub returns-in_err-word-clause-sickens : goal.returns-in_err-word-clause-sickens
returns-in_err-word-clause-sickens g c free m = err-if _ c.from_residual.result Off c.from_residual.ensures.1 tt

pub returns-then-word-ge-HEAD_LIMIT-clause-sickens : goal.returns-then-word-ge-HEAD_LIMIT-clause-sickens
returns-then-word-ge-HEAD_LIMIT-clause-sickens g c free m = head-sick (g.W.Words.sheet c.args.words.now).words free c.args.spot.root c.args.spot.low (c.args.spot.top + 1) c.args.spot.levels c.args.spot.piece c.in_ok-word.word c.in_ok-word.ensures.answer.1 c.if-word-ge-HEAD_LIMIT.true

pub returns-then-word-kind-clause-sickens : goal.returns-then-word-kind-clause-sickens
returns-then-word-kind-clause-sickens g c free m = level-sick (g.W.Words.sheet c.args.words.now).words free c.args.spot.root c.args.spot.low (c.args.spot.top + 1) c.args.spot.levels c.args.spot.piece c.in_ok-word.word c.kind_of-kind.result c.in_ok-word.ensures.answer.1 c.kind_of-kind.ensures c.if-word-kind.true

pub returns-then-count-least-clause-sickens : goal.returns-then-count-least-clause-sickens
returns-then-count-least-clause-sickens g c free m = few-sick (g.W.Words.sheet c.args.words.now).words free c.args.spot.root c.args.spot.low (c.args.spot.top + 1) c.args.spot.levels c.args.spot.piece c.in_ok-word.word _ c.kind_of-kind.result c.fewest_of-least.result c.in_ok-word.ensures.answer.1 (omega arith) c.kind_of-kind.ensures refl c.fewest_of-least.ensures c.if-count-least.true

pub returns-then-found-mark-clause-sickens : goal.returns-then-found-mark-clause-sickens
returns-then-found-mark-clause-sickens g c free m = freed-sick (g.W.Words.sheet c.args.words.now).words free c.args.marks.now c.args.spot.root c.args.spot.low (c.args.spot.top + 1) c.args.spot.levels c.args.spot.piece c.in_ok-word.word m (omega arith)

pub returns-clause-head : goal.returns-clause-head
returns-clause-head g c = sym c.in_ok-word.ensures.answer.1 ∙ head-said c.args.spot.levels c.in_ok-word.word _ c.kind_of-kind.result (omega arith) c.kind_of-kind.ensures refl

pub returns-clause-least : goal.returns-clause-least
returns-clause-least g c = omega arith

pub returns-clause-unmarked : goal.returns-clause-unmarked
returns-clause-unmarked g c = λ e.
    let same : get_or c.args.marks.now c.in_ok-word.word 0 ≡ c.args.spot.piece + 1 = ap (λ x. get_or c.args.marks.now x 0) c.in_ok-word.ensures.answer.1 ∙ e in
    absurd (omega arith)

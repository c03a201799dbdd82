use Rattle.std.proofs.Common.{◌≡◌, ◌≢◌, ◌+◌, ◌*◌, ◌-◌, ◌/◌, ◌<◌, ◌≤◌, ◌∙◌, ℕ, suc, List, ap, sym, subst, length, get_or, refl, arith}
use Rattle.envy_heap.specs.Pieces.{at, head}
use Rattle.envy_btree.specs.Rules.{key_at, key_count, kind_at, slot_at}
use Rattle.envy_btree.proofs.Viewing.{Looks-trans, load-looks}
use Rattle.envy_tree_check.specs.Bounds.{high_at, low_at}
use Rattle.envy_tree_check.specs.declared.fault.MapFault.TheVariants.{Off}
use Rattle.envy_tree_check.proofs.Faulting.{err-dims, err-if, node-sick}
use Rattle.envy_tree_check.proofs.child.child_of.Goals as goal

pub returns-in_err-child-clause-power : goal.returns-in_err-child-clause-power
returns-in_err-child-clause-power g c = err-dims _ c.from_residual.result Off _ c.from_residual.ensures.1 c.in_err-child.ensures.answer

pub returns-in_err-child-clause-sickens : goal.returns-in_err-child-clause-sickens
returns-in_err-child-clause-sickens g c free = err-if _ c.from_residual.result Off c.from_residual.ensures.1 tt

pub returns-then-child-limit-clause-sickens : goal.returns-then-child-limit-clause-sickens
returns-then-child-limit-clause-sickens g c free = node-sick (g.W.Words.sheet c.args.words.now).words free c.args.spot.root c.args.spot.low (c.args.spot.top + 1) c.args.spot.levels c.args.spot.piece c.args.count c.args.j c.in_ok-child.child c.requires.head c.requires.place c.in_ok-child.ensures.answer.1 (omega (arith, c.requires.used))

pub returns-in_err-low-clause-power : goal.returns-in_err-low-clause-power
returns-in_err-low-clause-power g c = err-dims _ c.from_residual-in_err-low.result Off _ c.from_residual-in_err-low.ensures.1 c.in_err-low.ensures.power

pub returns-in_err-low-clause-sickens : goal.returns-in_err-low-clause-sickens
returns-in_err-low-clause-sickens g c free = err-if _ c.from_residual-in_err-low.result Off c.from_residual-in_err-low.ensures.1 tt

pub returns-in_err-top-clause-power : goal.returns-in_err-top-clause-power
returns-in_err-top-clause-power g c = err-dims _ c.from_residual-in_err-top.result Off _ c.from_residual-in_err-top.ensures.1 c.in_err-top.ensures.power

pub returns-in_err-top-clause-sickens : goal.returns-in_err-top-clause-sickens
returns-in_err-top-clause-sickens g c free = err-if _ c.from_residual-in_err-top.result Off c.from_residual-in_err-top.ensures.1 tt

pub top_of-requires : goal.top_of-requires
top_of-requires g c =
    let same = (c.low_of.ensures.looks.same c.in_ok-low.ensures.power).0 ∙ c.in_ok-child.ensures.answer.2 in
    record {
      on = c.in_ok-low.ensures.power;
      within = subst (λ w. at c.args.spot.piece 63 < length w) (sym same) c.requires.within;
      keys = subst (λ w. key_count w c.args.spot.piece ≡ c.args.count) (sym same) (omega (arith, c.requires.head));
      most = c.requires.most;
      place = c.requires.place;
      above = subst (λ w. (i : ℕ) → i < c.args.count → 1 ≤ key_at w c.args.spot.piece i) (sym same) c.requires.above;
    }

pub returns-clause-low : goal.returns-clause-low
returns-clause-low g c = c.in_ok-low.ensures.low ∙ ap (λ w. low_at w c.args.spot.low c.args.spot.piece c.args.j) c.in_ok-child.ensures.answer.2

pub returns-clause-high : goal.returns-clause-high
returns-clause-high g c =
    let same = (c.low_of.ensures.looks.same c.in_ok-low.ensures.power).0 ∙ c.in_ok-child.ensures.answer.2 in
    c.in_ok-top.ensures.high ∙ ap (λ w. high_at w (c.args.spot.top + 1) c.args.spot.piece c.args.j) same

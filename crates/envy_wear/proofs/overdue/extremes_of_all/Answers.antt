use Rattle.std.proofs.Common.{◌≡◌, ◌∙◌, ◌-◌, ◌<◌, ◌≤◌, ℕ, sym, ap, subst}
use Rattle.envy_base.specs.declared.shape.Shape.{Shape}
use Rattle.envy_map.specs.Fields.{chart}
use Rattle.envy_wear.specs.Swaps.{wear_at, IsMostWorn, IsLeastWorn}
use Rattle.envy_wear.proofs.Exits.{none-if, on-err}
use Rattle.envy_wear.proofs.Extremes.{most-first, least-first, at-end}
use Rattle.envy_wear.proofs.overdue.extremes_of_all.Goals as goal
use Rattle.envy_base.specs.Shape.{positions_of}

pub returns-in_err-first-clause-most : goal.returns-in_err-first-clause-most
returns-in_err-first-clause-most g c = none-if c.from_residual.result _ _ c.from_residual.ensures.1

pub returns-in_err-first-clause-least : goal.returns-in_err-first-clause-least
returns-in_err-first-clause-least g c = none-if c.from_residual.result _ _ c.from_residual.ensures.1

pub returns-in_err-first-clause-off : goal.returns-in_err-first-clause-off
returns-in_err-first-clause-off g c = on-err c.from_residual.result _ c.in_err-first.ensures.off

pub loop-position-init : goal.loop-position-init
loop-position-init g c =
    let wear : ℕ → ℕ = wear_at (chart (g.B.Board.state c.args.board.now)).fields in
    let first = c.in_ok-first.ensures in
    let same : c.in_ok-first.first.wear ≡ wear c.in_ok-first.first.position = first.wear ∙ ap wear (sym first.position) in
    record {
      most = most-first wear c.in_ok-first.first.position first.position;
      most_wear = same;
      least = least-first wear c.in_ok-first.first.position first.position;
      least_wear = same;
    }

pub worn_at-requires-in-loop-position-clause-position : goal.worn_at-requires-in-loop-position-clause-position
worn_at-requires-in-loop-position-clause-position g c =
    subst (λ (sh : Shape). c.loop-position.position < positions_of sh) c.shape.ensures (subst (λ (n : ℕ). c.loop-position.position < n) c.positions_of-position-end.ensures c.loop-position-test.true)

pub returns-in_err-worn_at-clause-most : goal.returns-in_err-worn_at-clause-most
returns-in_err-worn_at-clause-most g c = none-if c.from_residual-in_err-worn_at.result _ _ c.from_residual-in_err-worn_at.ensures.1

pub returns-in_err-worn_at-clause-least : goal.returns-in_err-worn_at-clause-least
returns-in_err-worn_at-clause-least g c = none-if c.from_residual-in_err-worn_at.result _ _ c.from_residual-in_err-worn_at.ensures.1

pub returns-in_err-worn_at-clause-off : goal.returns-in_err-worn_at-clause-off
returns-in_err-worn_at-clause-off g c = on-err c.from_residual-in_err-worn_at.result _ c.in_err-worn_at.ensures.off

pub loop-position-preserved : goal.loop-position-preserved
loop-position-preserved g c =
    let seen = c.loop-position.invariant in
    let next = c.in_ok-worn_at.ensures in
    let wear : ℕ → ℕ = wear_at (chart (g.B.Board.state c.args.board.now)).fields in
    let most = c.with-seen.ensures.most c.loop-position.position wear seen.most seen.most_wear next.position next.wear in
    let least = c.with-seen.ensures.least c.loop-position.position wear seen.least seen.least_wear next.position next.wear in
    record { most = most.0; most_wear = most.1; least = least.0; least_wear = least.1 }

pub returns-clause-most : goal.returns-clause-most
returns-clause-most g c =
    let wear : ℕ → ℕ = wear_at (chart (g.B.Board.state c.args.board.now)).fields in
    let end = at-end c.loop-position.position c.shape.result (g.B.Board.state c.args.board.now).shape c.shape.ensures (g.met.B.Board.lawful c.args.board.now).shape (subst (λ (n : ℕ). n ≤ c.loop-position.position) c.positions_of-position-end.ensures c.loop-position-test.false) (subst (λ (n : ℕ). 1 ≤ n → c.loop-position.position ≤ n) c.positions_of-position-end.ensures c.loop-position.auto.position-end) in
    (subst (λ (n : ℕ). IsMostWorn n wear c.loop-position.seen.most.position) end c.loop-position.invariant.most, c.loop-position.invariant.most_wear)

pub returns-clause-least : goal.returns-clause-least
returns-clause-least g c =
    let wear : ℕ → ℕ = wear_at (chart (g.B.Board.state c.args.board.now)).fields in
    let end = at-end c.loop-position.position c.shape.result (g.B.Board.state c.args.board.now).shape c.shape.ensures (g.met.B.Board.lawful c.args.board.now).shape (subst (λ (n : ℕ). n ≤ c.loop-position.position) c.positions_of-position-end.ensures c.loop-position-test.false) (subst (λ (n : ℕ). 1 ≤ n → c.loop-position.position ≤ n) c.positions_of-position-end.ensures c.loop-position.auto.position-end) in
    (subst (λ (n : ℕ). IsLeastWorn n wear c.loop-position.seen.least.position) end c.loop-position.invariant.least, c.loop-position.invariant.least_wear)

use Rattle.std.proofs.Common.{ℕ, ◌<◌, ◌≤◌, get_or, subst, arith}
use Rattle.envy_base.specs.declared.shape.Shape.{Shape}
use Rattle.envy_map.specs.Fields.{chart}
use Rattle.envy_wear.proofs.Exits.{none-if, on-err}
use Rattle.envy_wear.proofs.Extremes.{between, least-more, least-only, most-more, most-only, past-end}
use Rattle.envy_wear.proofs.quiet.spread_of_all.Goals as goal

pub returns-in_err-first-clause-least : goal.returns-in_err-first-clause-least
returns-in_err-first-clause-least g c = none-if c.from_residual.result _ _ c.from_residual.ensures.1

pub returns-in_err-first-clause-most : goal.returns-in_err-first-clause-most
returns-in_err-first-clause-most g c = none-if c.from_residual.result _ _ c.from_residual.ensures.1

pub returns-in_err-first-clause-order : goal.returns-in_err-first-clause-order
returns-in_err-first-clause-order g c = none-if c.from_residual.result _ _ c.from_residual.ensures.1

pub returns-in_err-first-clause-off : goal.returns-in_err-first-clause-off
returns-in_err-first-clause-off g c = on-err c.from_residual.result _ c.in_err-first.ensures

pub loop-segment-init : goal.loop-segment-init
loop-segment-init g c =
    let wear : ℕ → ℕ = λ s. get_or (chart (g.B.Board.state c.args.board.now)).fields.wears s 0 in
    record {
      order = omega arith;
      least = least-only wear c.in_ok-first.first c.in_ok-first.ensures.1;
      most = most-only wear c.in_ok-first.first c.in_ok-first.ensures.1;
    }

pub wear-requires-in-loop-segment : goal.wear-requires-in-loop-segment
wear-requires-in-loop-segment g c = subst (λ (sh : Shape). c.loop-segment.segment < sh.segments) c.shape-segment-end.ensures c.loop-segment-test.true

pub returns-in_err-wear-clause-least : goal.returns-in_err-wear-clause-least
returns-in_err-wear-clause-least g c = none-if c.from_residual-in_err-wear.result _ _ c.from_residual-in_err-wear.ensures.1

pub returns-in_err-wear-clause-most : goal.returns-in_err-wear-clause-most
returns-in_err-wear-clause-most g c = none-if c.from_residual-in_err-wear.result _ _ c.from_residual-in_err-wear.ensures.1

pub returns-in_err-wear-clause-order : goal.returns-in_err-wear-clause-order
returns-in_err-wear-clause-order g c = none-if c.from_residual-in_err-wear.result _ _ c.from_residual-in_err-wear.ensures.1

pub returns-in_err-wear-clause-off : goal.returns-in_err-wear-clause-off
returns-in_err-wear-clause-off g c = on-err c.from_residual-in_err-wear.result _ c.in_err-wear.ensures

pub loop-segment-preserved : goal.loop-segment-preserved
loop-segment-preserved g c =
    let wear : ℕ → ℕ = λ s. get_or (chart (g.B.Board.state c.args.board.now)).fields.wears s 0 in
    let seen = c.loop-segment.seen in
    let with = c.with-seen.result in
    let n = c.loop-segment.segment in
    let w = c.in_ok-wear.field-0 in
    let read = c.in_ok-wear.ensures.1 in
    let low = c.with-seen.ensures.least in
    let high = c.with-seen.ensures.most in
    record {
      order = between with.least with.most w low.0 high.0;
      least = least-more wear n seen.least with.least w c.loop-segment.invariant.least low.0 low.1 read;
      most = most-more wear n seen.most with.most w c.loop-segment.invariant.most high.0 high.1 read;
    }

pub returns-clause-least : goal.returns-clause-least
returns-clause-least g c =
    let wear : ℕ → ℕ = λ s. get_or (chart (g.B.Board.state c.args.board.now)).fields.wears s 0 in
    let end = past-end c.loop-segment.segment c.shape-segment-end.result (g.B.Board.state c.args.board.now).shape c.shape-segment-end.ensures (g.met.B.Board.lawful c.args.board.now).shape c.loop-segment-test.false c.loop-segment.auto.segment-end in
    subst (λ (n : ℕ). (s : ℕ) → s < n → c.loop-segment.seen.least ≤ wear s) end c.loop-segment.invariant.least

pub returns-clause-most : goal.returns-clause-most
returns-clause-most g c =
    let wear : ℕ → ℕ = λ s. get_or (chart (g.B.Board.state c.args.board.now)).fields.wears s 0 in
    let end = past-end c.loop-segment.segment c.shape-segment-end.result (g.B.Board.state c.args.board.now).shape c.shape-segment-end.ensures (g.met.B.Board.lawful c.args.board.now).shape c.loop-segment-test.false c.loop-segment.auto.segment-end in
    subst (λ (n : ℕ). (s : ℕ) → s < n → wear s ≤ c.loop-segment.seen.most) end c.loop-segment.invariant.most

pub returns-clause-order : goal.returns-clause-order
returns-clause-order g c = c.loop-segment.invariant.order

use Rattle.std.proofs.Common.{◌≡◌, ◌∙◌, ℕ, ◌<◌, ◌≤◌, List, length, get_or, refl, sym, ap, subst}
use Rattle.std.proofs.lemmas.List.{length-set}
use Rattle.std.proofs.lemmas.Result.{IfOk-from_err}
use Rattle.envy_base.specs.declared.shape.Shape.{Shape}
use Rattle.envy_map.specs.Fields.{chart}
use Rattle.envy_map.proofs.Going.{OnErr-any}
use Rattle.envy_space.specs.Pool.{Pool}
use Rattle.envy_space.proofs.ReadLemmas.{all-read, fill-fits, more-read, none-kept, none-read, within-long}
use Rattle.envy_space.proofs.space.Space.read_fills.Goals as goal

pub loop-segment-init : goal.loop-segment-init
loop-segment-init g c = (
  none-read c.args.self.now.fills (chart (g.B.Board.state c.args.board.now)).fields.fills,
  subst (λ (p : Pool). length p.fills ≡ p.shape.segments) c.self.view_is c.self.invariant.fills_long ∙ ap (λ (x : Shape). x.segments) c.requires.shape,
  refl,
  refl,
  refl,
)

pub returns-in_err-fill-clause-fills : goal.returns-in_err-fill-clause-fills
returns-in_err-fill-clause-fills g c = IfOk-from_err c.from_residual.result _ c.from_residual.ensures.0

pub returns-in_err-fill-clause-off : goal.returns-in_err-fill-clause-off
returns-in_err-fill-clause-off g c = OnErr-any c.from_residual.result c.in_err-fill.ensures

pub set_fill-requires-clause-segment : goal.set_fill-requires-clause-segment
set_fill-requires-clause-segment g c =
    subst (λ (x : Shape). c.loop-segment.segment < x.segments) (ap (λ (p : Pool). p.shape) c.self.view_is ∙ sym c.loop-segment.invariant.2) c.loop-segment-test.true

pub set_fill-requires-clause-fits : goal.set_fill-requires-clause-fits
set_fill-requires-clause-fits g c =
    let now = chart (g.B.Board.state c.args.board.now) in
    fill-fits now.fields.fills c.loop-segment.segment c.in_ok-fill.field-0 now.shape c.loop-segment.self.shape (c.loop-segment.invariant.2 ∙ c.requires.shape) c.in_ok-fill.ensures.1 (c.requires.sound.numbers.fills_fit c.loop-segment.segment)

pub set_fill-requires-clause-kept : goal.set_fill-requires-clause-kept
set_fill-requires-clause-kept g c =
    none-kept c.loop-segment.self.kept c.args.self.now.shape.segments c.loop-segment.segment c.in_ok-fill.field-0 (c.loop-segment.invariant.3 ∙ c.requires.none)

pub loop-segment-preserved : goal.loop-segment-preserved
loop-segment-preserved g c =
    let now = chart (g.B.Board.state c.args.board.now) in
    let i = c.loop-segment.invariant in
    let k = c.loop-segment.segment in
    let v = c.in_ok-fill.field-0 in
    let low = subst (λ (x : Shape). k < x.segments) (ap (λ (p : Pool). p.shape) c.self.view_is ∙ c.requires.shape) c.loop-segment-test.true in
    let fills = ap (λ (p : Pool). p.fills) c.set_fill.ensures in (
      λ s lt. ap (λ (xs : List ℕ). get_or xs s 0) fills ∙ more-read c.loop-segment.self.fills now.fields.fills k v (within-long c.loop-segment.self.fills k now.shape.segments i.1 low) c.in_ok-fill.ensures.1 i.0 s lt,
      ap length fills ∙ length-set c.loop-segment.self.fills k v ∙ i.1,
      ap (λ (p : Pool). p.shape) c.set_fill.ensures ∙ i.2,
      ap (λ (p : Pool). p.kept) c.set_fill.ensures ∙ i.3,
      ap (λ (p : Pool). p.positions) c.set_fill.ensures ∙ i.4,
    )

pub returns-clause-fills : goal.returns-clause-fills
returns-clause-fills g c =
    let now = chart (g.B.Board.state c.args.board.now) in
    let past = subst (λ (x : Shape). x.segments ≤ c.loop-segment.segment) (ap (λ (p : Pool). p.shape) c.self.view_is ∙ c.requires.shape) c.loop-segment-test.false in
    all-read c.loop-segment.self.fills now.fields.fills now.shape.segments c.loop-segment.segment c.loop-segment.invariant.1 c.requires.sound.numbers.fills_long past c.loop-segment.invariant.0

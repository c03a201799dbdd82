use Rattle.std.proofs.Common.{◌≡◌, ◌∙◌, Bool, true, false, replicate, sym, ap}
use Rattle.std.specs.Prelude.{Result, Ok, Err, OnErr, OnOk}
use Rattle.std.proofs.lemmas.Bool.{false≢true}
use Rattle.envy_base.specs.declared.board.Off.{Off}
use Rattle.envy_base.specs.declared.shape.Shape.{Shape}
use Rattle.envy_map.specs.Fields.{Fields, chart}
use Rattle.envy_soundness.specs.Power.{power_of}
use Rattle.envy_soundness.proofs.KeptCounts.{kept_in-pages}
use Rattle.envy_space.specs.Pool.{Pool, PoolAgrees, HasCounted}
use Rattle.envy_space.proofs.space.Space.rebuild.Goals as goal

agrees : (sh : Shape) (f : Fields) (pool : Pool) (r : Result Unit Off) → pool.shape ≡ sh → pool.fills ≡ f.fills → pool.positions ≡ f.positions → OnOk r (HasCounted sh f sh.pages pool) → OnOk r (PoolAgrees sh f pool)
agrees sh f pool (Ok done) shape fills positions counted = record {
  shape = shape;
  fills = fills;
  positions = positions;
  long = counted.long;
  kept = λ s lt. counted.counted s lt ∙ kept_in-pages sh f.slots f.undos f.places s;
}
agrees sh f pool (Err off) shape fills positions counted = tt

-- with power on a count doesn't end for want of it
power : (r : Result Unit Off) (b : Bool) → true ≡ b → OnErr r (b ≡ false) → b ≡ power_of r
power (Ok done) b on off = sym on
power (Err off) b on is = is

unchanged : (P : Type 0) (r : Result Unit Off) (b : Bool) → true ≡ b → OnErr r (b ≡ false) → OnErr r P
unchanged P (Ok done) b on off = tt
unchanged P (Err off) b on is = absurd (false≢true (sym is ∙ sym on))

pub returns-clause-agrees : goal.returns-clause-agrees
returns-clause-agrees g c =
    let now = chart (g.B.Board.state c.args.board.now) in
    agrees now.shape now.fields c.count_kept.new.self c.count_kept.result
    (c.count_kept.ensures.shape ∙ c.in_ok-read_fills.ensures.shape ∙ c.in_ok-read_positions.ensures.shape ∙ ap (λ (p : Pool). p.shape) c.clear.ensures ∙ c.requires.shape)
    (c.count_kept.ensures.fills ∙ c.in_ok-read_fills.ensures.fills)
    (c.count_kept.ensures.positions ∙ c.in_ok-read_fills.ensures.positions ∙ c.in_ok-read_positions.ensures.positions)
    c.count_kept.ensures.counted

pub read_positions-requires-clause-sound : goal.read_positions-requires-clause-sound
read_positions-requires-clause-sound g c = c.requires.sound (sym c.if-not-powered.ensures)

pub read_positions-requires-clause-shape : goal.read_positions-requires-clause-shape
read_positions-requires-clause-shape g c = ap (λ (p : Pool). p.shape) c.clear.ensures ∙ c.requires.shape

pub returns-in_err-read_positions-clause-agrees : goal.returns-in_err-read_positions-clause-agrees
returns-in_err-read_positions-clause-agrees g c = absurd (false≢true (sym c.in_err-read_positions.ensures.off ∙ sym c.if-not-powered.ensures))

pub returns-in_err-read_positions-clause-shape : goal.returns-in_err-read_positions-clause-shape
returns-in_err-read_positions-clause-shape g c = c.in_err-read_positions.ensures.shape ∙ ap (λ (p : Pool). p.shape) c.clear.ensures

pub returns-in_err-read_positions-clause-unchanged : goal.returns-in_err-read_positions-clause-unchanged
returns-in_err-read_positions-clause-unchanged g c = absurd (false≢true (sym c.in_err-read_positions.ensures.off ∙ sym c.if-not-powered.ensures))

pub returns-in_err-read_positions-clause-power : goal.returns-in_err-read_positions-clause-power
returns-in_err-read_positions-clause-power g c = absurd (false≢true (sym c.in_err-read_positions.ensures.off ∙ sym c.if-not-powered.ensures))

pub read_fills-requires-clause-sound : goal.read_fills-requires-clause-sound
read_fills-requires-clause-sound g c = c.requires.sound (sym c.if-not-powered.ensures)

pub read_fills-requires-clause-shape : goal.read_fills-requires-clause-shape
read_fills-requires-clause-shape g c = c.in_ok-read_positions.ensures.shape ∙ ap (λ (p : Pool). p.shape) c.clear.ensures ∙ c.requires.shape

pub read_fills-requires-clause-none : goal.read_fills-requires-clause-none
read_fills-requires-clause-none g c =
    c.in_ok-read_positions.ensures.kept ∙ ap (λ (p : Pool). p.kept) c.clear.ensures
    ∙ ap (λ (x : Shape). replicate x.segments 0) (sym (c.in_ok-read_positions.ensures.shape ∙ ap (λ (p : Pool). p.shape) c.clear.ensures))

pub returns-in_err-read_fills-clause-agrees : goal.returns-in_err-read_fills-clause-agrees
returns-in_err-read_fills-clause-agrees g c = absurd (false≢true (sym c.in_err-read_fills.ensures.off ∙ sym c.if-not-powered.ensures))

pub returns-in_err-read_fills-clause-shape : goal.returns-in_err-read_fills-clause-shape
returns-in_err-read_fills-clause-shape g c = c.in_err-read_fills.ensures.shape ∙ c.in_ok-read_positions.ensures.shape ∙ ap (λ (p : Pool). p.shape) c.clear.ensures

pub returns-in_err-read_fills-clause-unchanged : goal.returns-in_err-read_fills-clause-unchanged
returns-in_err-read_fills-clause-unchanged g c = absurd (false≢true (sym c.in_err-read_fills.ensures.off ∙ sym c.if-not-powered.ensures))

pub returns-in_err-read_fills-clause-power : goal.returns-in_err-read_fills-clause-power
returns-in_err-read_fills-clause-power g c = absurd (false≢true (sym c.in_err-read_fills.ensures.off ∙ sym c.if-not-powered.ensures))

pub count_kept-requires-clause-sound : goal.count_kept-requires-clause-sound
count_kept-requires-clause-sound g c = c.requires.sound (sym c.if-not-powered.ensures)

pub count_kept-requires-clause-shape : goal.count_kept-requires-clause-shape
count_kept-requires-clause-shape g c = c.in_ok-read_fills.ensures.shape ∙ c.in_ok-read_positions.ensures.shape ∙ ap (λ (p : Pool). p.shape) c.clear.ensures ∙ c.requires.shape

pub count_kept-requires-clause-fills : goal.count_kept-requires-clause-fills
count_kept-requires-clause-fills g c = c.in_ok-read_fills.ensures.fills

pub count_kept-requires-clause-none : goal.count_kept-requires-clause-none
count_kept-requires-clause-none g c =
    c.in_ok-read_fills.ensures.kept ∙ c.in_ok-read_positions.ensures.kept ∙ ap (λ (p : Pool). p.kept) c.clear.ensures
    ∙ ap (λ (x : Shape). replicate x.segments 0) (sym (c.in_ok-read_fills.ensures.shape ∙ c.in_ok-read_positions.ensures.shape ∙ ap (λ (p : Pool). p.shape) c.clear.ensures))

pub returns-clause-shape : goal.returns-clause-shape
returns-clause-shape g c = c.count_kept.ensures.shape ∙ c.in_ok-read_fills.ensures.shape ∙ c.in_ok-read_positions.ensures.shape ∙ ap (λ (p : Pool). p.shape) c.clear.ensures

pub returns-clause-unchanged : goal.returns-clause-unchanged
returns-clause-unchanged g c = unchanged _ c.count_kept.result (g.B.Board.state c.args.board.now).on c.if-not-powered.ensures c.count_kept.ensures.off

pub returns-clause-power : goal.returns-clause-power
returns-clause-power g c = power c.count_kept.result (g.B.Board.state c.args.board.now).on c.if-not-powered.ensures c.count_kept.ensures.off

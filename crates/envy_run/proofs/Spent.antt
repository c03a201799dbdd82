-- The flash work of lines, from that of the calls that they name.
use Rattle.std.proofs.Common.{◌≡◌, inl, inr, ℕ, ◌+◌, ◌≤◌, refl, sym, subst, arith}
use Rattle.std.specs.Prelude.{sum}
use Rattle.envy_soundness.specs.Same.{Counted, Grows}
use Rattle.envy_map.specs.Fields.{Chart}
use Rattle.envy_memory.specs.Below.{flush_programs, flush_erases}
use Rattle.envy_memory.specs.Calls.{Works}
use Rattle.envy_memory.specs.Picture.{Picture}
use Rattle.envy_trace.specs.declared.line.Line.{Line}
use Rattle.envy_trace.specs.declared.line.Line.TheVariants.{Empty, Load, Look, Store, Begin, Put, Commit, Abort, Tick, Power, Cut, Bad, Stat}
use Rattle.envy_run.specs.Below.{WorksOf}
use Rattle.envy_run.specs.Spending.{Spends, programs_of, erases_of}
use Rattle.envy_run.specs.Tells.{CountsStay}

-- nothing began
pub spends-none : (k j : ℕ) (old new : Chart) → new.begun ≡ old.begun → sum new.erases ≡ sum old.erases → Spends k j old new
spends-none k j old new begun erases = record { programs = omega arith; erases = omega arith }

-- what a call of the memory began
spends-works : (k j : ℕ) (old new : Chart) → Works k j old new → Spends k j old new
spends-works k j old new works =
    let few = Counted.few (Works.counted works) in
    let most = Grows.few (Counted.erases (Works.counted works)) in
    record { programs = few; erases = most }

spends-more : (a b k j : ℕ) (old new : Chart) → a ≤ k → b ≤ j → Spends a b old new → Spends k j old new
spends-more a b k j old new le less s = let programs = s.programs in let erases = s.erases in record { programs = omega arith; erases = omega arith }

-- where the chart is the one of before but for a plan
spends-same : (k j : ℕ) (old now new : Chart) → now.begun ≡ old.begun → sum now.erases ≡ sum old.erases → new ≡ now → Spends k j old new
spends-same k j old now new begun erases is = subst (λ (c : Chart). Spends k j old c) (sym is) (spends-none k j old now begun erases)

-- what a line began that is one call
pub spends-line : (line : Line) (old new : Chart) → WorksOf line old new → Spends (programs_of old.shape.rows line) (erases_of line) old new
spends-line Empty old new is = spends-same 0 0 old old new refl refl is
spends-line (Load a) old new is = spends-same 0 0 old old new refl refl is
spends-line (Look a) old new is = spends-same 0 0 old old new refl refl is
spends-line (Store a w) old new works = spends-works (flush_programs old.shape.rows) flush_erases old new works
spends-line Begin old new works = spends-works 0 0 old new works
spends-line (Put t a w) old new works = spends-works (flush_programs old.shape.rows) flush_erases old new works
spends-line (Commit t) old new works = spends-works 0 0 old new works
spends-line (Abort t) old new works = spends-works 0 0 old new works
spends-line Tick old new (inl works) = spends-more 1 0 1 1 old new (omega arith) (omega arith) (spends-works 1 0 old new works)
spends-line Tick old new (inr works) = spends-more 0 1 1 1 old new (omega arith) (omega arith) (spends-works 0 1 old new works)
spends-line Power old new is = spends-same 0 0 old old new refl refl is
spends-line (Cut k g) old new is = spends-same 0 0 old _ new refl refl is
spends-line (Bad k g) old new is = spends-same 0 0 old _ new refl refl is
spends-line Stat old new is = spends-same 0 0 old old new refl refl is

-- a restart begins nothing
pub spends-stay : (k j : ℕ) (old : Chart) (c new : Picture) → Spends k j old c.chart → CountsStay c new → Spends k j old new.chart
spends-stay k j old c new s stay =
    let programs = s.programs in
    let erases = s.erases in
    let begun = stay.begun in
    let erased = stay.erases in
    record { programs = omega arith; erases = omega arith }

-- what lines began, and then one more
pub spends-trans : (a b k j : ℕ) (first old new : Chart) → Spends a b first old → Spends k j old new → Spends (a + k) (b + j) first new
spends-trans a b k j first old new x y =
    let p = x.programs in let e = x.erases in let q = y.programs in let f = y.erases in
    record { programs = omega arith; erases = omega arith }

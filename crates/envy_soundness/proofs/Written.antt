-- What a call that makes one write leaves, and where a row and its copy lie.
use Rattle.std.proofs.Common.{◌≡◌, inl, inr, ℕ, ◌+◌, ◌*◌, ◌<◌, Fits, w32, sym, ◌∙◌, ap, subst, arith}
use Rattle.std.specs.Prelude.{Result, Ok, Err, OnOk}
use Rattle.std.proofs.lemmas.Nat.{mul-add-lt}
use Rattle.envy_base.specs.Shape.{IsShape}
use Rattle.envy_base.specs.declared.board.Off.{Off}
use Rattle.envy_base.specs.declared.shape.Shape.{Shape}
use Rattle.envy_map.specs.Fields.{Fields, Chart, with_fields}
use Rattle.envy_map.specs.Writes.{Writes}
use Rattle.envy_soundness.specs.Power.{power_of}

pub wrote : (change : Fields → Fields) (c new : Chart) (r : Result Unit Off) → Writes change c r new → OnOk r (new ≡ with_fields c (change c.fields))
wrote change c new (Ok done) w = w.1
wrote change c new (Err off) w = tt

pub wrote-power : (change : Fields → Fields) (c new : Chart) (r : Result Unit Off) → Writes change c r new → new.on ≡ power_of r
wrote-power change c new (Ok done) w = ap (λ (x : Chart). x.on) w.1 ∙ w.0
wrote-power change c new (Err off) (inl (was, is)) = ap (λ (x : Chart). x.on) is ∙ was
wrote-power change c new (Err off) (inr (on, f, what, is)) = ap (λ (x : Chart). x.on) is

-- row i of a segment, by a shape as it was read
pub row-of : (sh read : Shape) (e i : ℕ) → read ≡ sh → IsShape sh → e < sh.segments → i < sh.rows → e * read.rows + i < 16777216
row-of sh read e i same shape segment row =
    let few = shape.few in
    let below = mul-add-lt e sh.rows i sh.segments segment row in
    subst (λ (x : Shape). e * x.rows + i < 16777216) (sym same) (omega (arith, below))

pub row-fits : (n i : ℕ) → n + i < 16777216 → Fits w32 (n + i)
row-fits n i few = omega arith

pub base-fits : (n i : ℕ) → n + i < 16777216 → Fits w32 n
base-fits n i few = omega arith

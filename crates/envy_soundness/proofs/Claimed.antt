-- A row at the fill of its segment, before it is claimed for a page and after that.
use Rattle.std.proofs.Common.{◌≡◌, ◌≢◌, ℕ, ◌+◌, ◌*◌, ◌/◌, ◌%◌, ◌<◌, List, get_or, set, Some, sym, ◌∙◌, ap, subst, arith}
use Rattle.std.proofs.lemmas.List.{get_or-set_same}
use Rattle.std.proofs.lemmas.Nat.{div-mul-add, mod-mul-add, mul-add-lt}
use Rattle.envy_base.specs.declared.shape.Shape.{Shape}
use Rattle.envy_base.specs.declared.fields.Job.TheVariants.{Copy, Switch}
use Rattle.envy_map.specs.Fields.{Fields}
use Rattle.envy_map.specs.Writes.{with_back, with_fill}
use Rattle.envy_soundness.specs.Jobs.{AreHome}
use Rattle.envy_soundness.specs.May.{MayName}
use Rattle.envy_soundness.specs.Sound.{Sound, Rows, Numbers, Names, IsPlaced}
use Rattle.envy_soundness.proofs.JobLaw.{AreHome-unless}

-- while a segment is copied none is switched
pub unswitched-copying : (f : Fields) (v w : ℕ) → f.job ≡ Some (Copy v) → f.job ≢ Some (Switch w)
unswitched-copying f v w copying switch = let clash : Some (Copy v) ≡ Some (Switch w) = sym copying ∙ switch in cc

-- so no kept row lies in the spare
pub AreHome-copying : (sh : Shape) (f : Fields) (flash : List (List ℕ)) (v : ℕ) → Sound sh f flash → f.job ≡ Some (Copy v) → AreHome sh f
AreHome-copying sh f flash v sound copying = AreHome-unless sh f flash sound (λ w switch placed. unswitched-copying f v w copying switch)

-- the row at a segment's fill is one of the board's, and no page names it
pub row-range : (sh : Shape) (s n : ℕ) → s < sh.segments → n < sh.rows → s * sh.rows + n < sh.segments * sh.rows
row-range sh s n lt room = let below = mul-add-lt s sh.rows n sh.segments lt room in omega (arith, below)

pub unnamed-claimed : (sh : Shape) (f : Fields) (flash : List (List ℕ)) (s n r : ℕ) → Sound sh f flash → get_or f.fills s 0 ≡ n → n < sh.rows → Names f r (s * sh.rows + n) → ⊥
unnamed-claimed sh f flash s n r sound filled room names =
    let low = Rows.filled sound.rows r (s * sh.rows + n) names in
    let place : (s * sh.rows + n) % sh.rows ≡ n = mod-mul-add s sh.rows n room in
    let level : get_or f.fills ((s * sh.rows + n) / sh.rows) 0 ≡ n = ap (λ (t : ℕ). get_or f.fills t 0) (div-mul-add s sh.rows n room) ∙ filled in
    omega arith

-- at a position that isn't being switched, the page that it was claimed for may name it
pub MayName-claimed : (sh : Shape) (f : Fields) (flash : List (List ℕ)) (s n p : ℕ) → Sound sh f flash → s < sh.segments → get_or f.fills s 0 ≡ n → n < sh.rows → IsPlaced sh f.positions s → f.job ≢ Some (Switch s) → MayName sh (with_fill s (n + 1) (with_back (s * sh.rows + n) p f)) p (s * sh.rows + n)
MayName-claimed sh f flash s n p sound lt filled room placed unswitched =
    let range = row-range sh s n lt room in
    let segment : (s * sh.rows + n) / sh.rows ≡ s = div-mul-add s sh.rows n room in
    let place : (s * sh.rows + n) % sh.rows ≡ n = mod-mul-add s sh.rows n room in
    let raised : get_or (set f.fills s (n + 1)) ((s * sh.rows + n) / sh.rows) 0 ≡ n + 1 = ap (λ (t : ℕ). get_or (set f.fills s (n + 1)) t 0) segment ∙ get_or-set_same f.fills s (n + 1) 0 (rw (Numbers.fills_long sound.numbers) lt) in
    record {
      range = range;
      filled = omega arith;
      claimed = get_or-set_same f.backs (s * sh.rows + n) p 0 (rw (Numbers.backs_long sound.numbers) range);
      alone = λ r names. absurd (unnamed-claimed sh f flash s n r sound filled room names);
      home = subst (λ (x : ℕ). IsPlaced sh f.positions x) (sym segment) placed;
      unswitched = λ v switch same. unswitched (switch ∙ ap (λ (x : ℕ). Some (Switch x)) (sym same ∙ segment));
    }

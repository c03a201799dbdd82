-- A number tells its answer.
use Rattle.std.proofs.Common.{◌≡◌, ◌⊎◌, inl, inr, ◌<◌, ◌≤◌, ℕ, refl, sym, ap, arith}
use Rattle.envy_calls.specs.Codes.{number_of}
use Rattle.envy_calls.specs.declared.code.Code.{Code}
use Rattle.envy_parted.specs.Codes.{number_of_part}
use Rattle.envy_parted.specs.declared.code.PartCode.{PartCode}
use Rattle.envy_parted.specs.declared.code.PartCode.TheVariants.{Of, FlashAddress, SramAddress, Past, Overlap}

-- no number is that of a memory's answer and of a place
apart : ((x : Code) → (number_of x < 64) ⊎ (80 ≤ number_of x)) → (x : Code) (n : ℕ) → 64 ≤ n → n < 80 → number_of x ≡ n → ⊥
apart below x n high far is = elim (below x) [ inl low ↦ omega (low, high, is, arith) | inr top ↦ omega (top, far, is, arith) ]

pub same_part : ((x y : Code) → number_of x ≡ number_of y → x ≡ y) → ((x : Code) → (number_of x < 64) ⊎ (80 ≤ number_of x)) → (x y : PartCode) → number_of_part x ≡ number_of_part y → x ≡ y
same_part law below (Of x) (Of y) is = ap Of (law x y is)
same_part law below (Of x) FlashAddress is = absurd (apart below x 64 (omega arith) (omega arith) is)
same_part law below (Of x) SramAddress is = absurd (apart below x 65 (omega arith) (omega arith) is)
same_part law below (Of x) Past is = absurd (apart below x 66 (omega arith) (omega arith) is)
same_part law below (Of x) Overlap is = absurd (apart below x 67 (omega arith) (omega arith) is)
same_part law below FlashAddress (Of y) is = absurd (apart below y 64 (omega arith) (omega arith) (sym is))
same_part law below SramAddress (Of y) is = absurd (apart below y 65 (omega arith) (omega arith) (sym is))
same_part law below Past (Of y) is = absurd (apart below y 66 (omega arith) (omega arith) (sym is))
same_part law below Overlap (Of y) is = absurd (apart below y 67 (omega arith) (omega arith) (sym is))
same_part law below FlashAddress FlashAddress is = refl
same_part law below FlashAddress SramAddress is = absurd (omega (is, arith))
same_part law below FlashAddress Past is = absurd (omega (is, arith))
same_part law below FlashAddress Overlap is = absurd (omega (is, arith))
same_part law below SramAddress FlashAddress is = absurd (omega (is, arith))
same_part law below SramAddress SramAddress is = refl
same_part law below SramAddress Past is = absurd (omega (is, arith))
same_part law below SramAddress Overlap is = absurd (omega (is, arith))
same_part law below Past FlashAddress is = absurd (omega (is, arith))
same_part law below Past SramAddress is = absurd (omega (is, arith))
same_part law below Past Past is = refl
same_part law below Past Overlap is = absurd (omega (is, arith))
same_part law below Overlap FlashAddress is = absurd (omega (is, arith))
same_part law below Overlap SramAddress is = absurd (omega (is, arith))
same_part law below Overlap Past is = absurd (omega (is, arith))
same_part law below Overlap Overlap is = refl

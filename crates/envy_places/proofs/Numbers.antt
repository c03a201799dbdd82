-- A number tells its answer.
use Rattle.std.proofs.Common.{◌≡◌, ◌⊎◌, inl, inr, ◌<◌, ◌≤◌, ℕ, refl, sym, ap, arith}
use Rattle.envy_calls.specs.Codes.{number_of}
use Rattle.envy_calls.specs.declared.code.Code.{Code}
use Rattle.envy_places.specs.Codes.{number_of_place}
use Rattle.envy_places.specs.declared.code.PlaceCode.{PlaceCode}
use Rattle.envy_places.specs.declared.code.PlaceCode.TheVariants.{Of, NoJournal, OtherVersion, Damaged, Appended, OtherBoard}

-- no number is that of a memory's answer and of a place's
apart : ((x : Code) → (number_of x < 64) ⊎ (80 ≤ number_of x)) → (x : Code) (n : ℕ) → 64 ≤ n → n < 80 → number_of x ≡ n → ⊥
apart below x n high far is = elim (below x) [ inl low ↦ omega (low, high, is, arith) | inr top ↦ omega (top, far, is, arith) ]

pub same_code : ((x y : Code) → number_of x ≡ number_of y → x ≡ y) → ((x : Code) → (number_of x < 64) ⊎ (80 ≤ number_of x)) → (x y : PlaceCode) → number_of_place x ≡ number_of_place y → x ≡ y
same_code law below (Of x) (Of y) is = ap Of (law x y is)
same_code law below (Of x) NoJournal is = absurd (apart below x 72 (omega arith) (omega arith) is)
same_code law below (Of x) OtherVersion is = absurd (apart below x 73 (omega arith) (omega arith) is)
same_code law below (Of x) Damaged is = absurd (apart below x 74 (omega arith) (omega arith) is)
same_code law below (Of x) Appended is = absurd (apart below x 75 (omega arith) (omega arith) is)
same_code law below (Of x) OtherBoard is = absurd (apart below x 76 (omega arith) (omega arith) is)
same_code law below NoJournal (Of y) is = absurd (apart below y 72 (omega arith) (omega arith) (sym is))
same_code law below NoJournal NoJournal is = refl
same_code law below NoJournal OtherVersion is = absurd (omega (is, arith))
same_code law below NoJournal Damaged is = absurd (omega (is, arith))
same_code law below NoJournal Appended is = absurd (omega (is, arith))
same_code law below NoJournal OtherBoard is = absurd (omega (is, arith))
same_code law below OtherVersion (Of y) is = absurd (apart below y 73 (omega arith) (omega arith) (sym is))
same_code law below OtherVersion NoJournal is = absurd (omega (is, arith))
same_code law below OtherVersion OtherVersion is = refl
same_code law below OtherVersion Damaged is = absurd (omega (is, arith))
same_code law below OtherVersion Appended is = absurd (omega (is, arith))
same_code law below OtherVersion OtherBoard is = absurd (omega (is, arith))
same_code law below Damaged (Of y) is = absurd (apart below y 74 (omega arith) (omega arith) (sym is))
same_code law below Damaged NoJournal is = absurd (omega (is, arith))
same_code law below Damaged OtherVersion is = absurd (omega (is, arith))
same_code law below Damaged Damaged is = refl
same_code law below Damaged Appended is = absurd (omega (is, arith))
same_code law below Damaged OtherBoard is = absurd (omega (is, arith))
same_code law below Appended (Of y) is = absurd (apart below y 75 (omega arith) (omega arith) (sym is))
same_code law below Appended NoJournal is = absurd (omega (is, arith))
same_code law below Appended OtherVersion is = absurd (omega (is, arith))
same_code law below Appended Damaged is = absurd (omega (is, arith))
same_code law below Appended Appended is = refl
same_code law below Appended OtherBoard is = absurd (omega (is, arith))
same_code law below OtherBoard (Of y) is = absurd (apart below y 76 (omega arith) (omega arith) (sym is))
same_code law below OtherBoard NoJournal is = absurd (omega (is, arith))
same_code law below OtherBoard OtherVersion is = absurd (omega (is, arith))
same_code law below OtherBoard Damaged is = absurd (omega (is, arith))
same_code law below OtherBoard Appended is = absurd (omega (is, arith))
same_code law below OtherBoard OtherBoard is = refl

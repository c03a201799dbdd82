-- Where a batch lies, as a number: two batches with one number lie in the same places.
use Rattle.std.proofs.Common.{◌≡◌, ◌∙◌, ℕ, zero, suc, ◌+◌, ◌*◌, ◌^◌, ◌/◌, ◌%◌, ◌<◌, ◌≤◌, List, [], ◌∷◌, length, sym, ap, subst, pow-suc, mul_comm, arith}
use Rattle.std.proofs.lemmas.Nat.{mul-add-lt, div-mul-add, mod-mul-add}
use native.Mathlib.Nat.{one-le-pow}
use Rattle.envy_torn.specs.Batches.{Change, Write, Cut, SamePlace, SamePlaces, Within, Fits, changed, different_places}

-- an offset and a length as one number; a cut has a row of its own
abbrev place : ℕ → Change → ℕ
place size (Write at bytes) = at * (size + 1) + length bytes
place size (Cut len) = (size + 1) * (size + 1) + len

-- one more than there are places
abbrev base : ℕ → ℕ
base size = 1 + (size + 2) * (size + 1)

abbrev pub number : ℕ → List Change → ℕ
number size [] = 0
number size (change ∷ batch) = number size batch * base size + (place size change + 1)

place-less : (size : ℕ) (change : Change) (file : List ℕ) → Within size change file → place size change + 1 < base size
place-less size (Write at bytes) file within =
    let less = mul-add-lt at (size + 1) (length bytes) (size + 2) (omega (arith, within)) (omega (arith, within)) in
    let turned = mul_comm (size + 1) (size + 2) in
    omega (arith, less, turned)
place-less size (Cut len) file within =
    let less = mul-add-lt (size + 1) (size + 1) len (size + 2) (omega (arith, within)) (omega (arith, within)) in
    let turned = mul_comm (size + 1) (size + 2) in
    omega (arith, less, turned)

row-is : (size row column : ℕ) → column ≤ size → (row * (size + 1) + column) / (size + 1) ≡ row
row-is size row column within = div-mul-add row (size + 1) column (omega (arith, within))

column-is : (size row column : ℕ) → column ≤ size → (row * (size + 1) + column) % (size + 1) ≡ column
column-is size row column within = mod-mul-add row (size + 1) column (omega (arith, within))

same_parts : (size row column next other : ℕ) → column ≤ size → other ≤ size → row * (size + 1) + column ≡ next * (size + 1) + other → (row ≡ next) × (column ≡ other)
same_parts size row column next other within also e = (
  sym (row-is size row column within) ∙ ap (λ n. n / (size + 1)) e ∙ row-is size next other also,
  sym (column-is size row column within) ∙ ap (λ n. n % (size + 1)) e ∙ column-is size next other also,
)

same_place : (size : ℕ) (a b : Change) (file other : List ℕ) → Within size a file → Within size b other → place size a ≡ place size b → SamePlace a b
same_place size (Write at bytes) (Write offset others) file other within also e =
    same_parts size at (length bytes) offset (length others) (omega (arith, within)) (omega (arith, also)) e
same_place size (Write at bytes) (Cut len) file other within also e =
    let row = (same_parts size at (length bytes) (size + 1) len (omega (arith, within)) (omega (arith, also)) e).0 in
    omega (arith, within, row)
same_place size (Cut len) (Write offset others) file other within also e =
    let row = (same_parts size (size + 1) len offset (length others) (omega (arith, within)) (omega (arith, also)) e).0 in
    omega (arith, also, row)
same_place size (Cut len) (Cut shorter) file other within also e =
    (same_parts size (size + 1) len (size + 1) shorter (omega (arith, within)) (omega (arith, also)) e).1

pub number-less : (size changes : ℕ) (batch : List Change) (file : List ℕ) → Fits size batch file → length batch ≤ changes → number size batch < different_places size changes
number-less size changes [] file fits few = one-le-pow changes (base size) (omega arith)
number-less size zero (change ∷ batch) file fits few = absurd (omega (arith, few))
number-less size (suc changes) (change ∷ batch) file fits few =
    let less = number-less size changes batch (changed change file) fits.1 (omega (arith, few)) in
    subst (λ n. number size (change ∷ batch) < n) (mul_comm (base size) (base size ^ changes) ∙ sym (pow-suc (base size) changes))
    (mul-add-lt (number size batch) (base size) (place size change + 1) (base size ^ changes) less (place-less size change file fits.0))

pub same_number : (size : ℕ) (a b : List Change) (file other : List ℕ) → Fits size a file → Fits size b other → number size a ≡ number size b → SamePlaces a b
same_number size [] [] file other fits also e = tt
same_number size [] (change ∷ b) file other fits also e = omega (arith, e)
same_number size (change ∷ a) [] file other fits also e = omega (arith, e)
same_number size (change ∷ a) (next ∷ b) file other fits also e =
    let low = place-less size change file fits.0 in
    let under = place-less size next other also.0 in
    let here : place size change + 1 ≡ place size next + 1 = sym (mod-mul-add (number size a) (base size) (place size change + 1) low) ∙ ap (λ n. n % base size) e ∙ mod-mul-add (number size b) (base size) (place size next + 1) under in
    let rest : number size a ≡ number size b = sym (div-mul-add (number size a) (base size) (place size change + 1) low) ∙ ap (λ n. n / base size) e ∙ div-mul-add (number size b) (base size) (place size next + 1) under in
    (same_place size change next file other fits.0 also.0 (omega (arith, here)), same_number size a b (changed change file) (changed next other) fits.1 also.1 rest)

-- A counted batch: what is lost of it shows in its number.
use Rattle.std.proofs.Common.{◌≡◌, ◌≢◌, ◌⊎◌, inl, inr, ℕ, zero, suc, ◌+◌, ◌*◌, ◌<◌, ◌≤◌, ◌==◌, nat_lt, cond, true, false, List, [], ◌∷◌, ◌++◌, length, get_or, take, drop, refl, sym, ◌∙◌, ap, arith, append_assoc, length-append, length-take, take-append-drop}
use Rattle.std.proofs.lemmas.Bool.{cases_eq, cases_Bool, cond-true, cond-false, eqb-true, eq-eqb, ne_eqb, ltb-false, le-ltb, false≢true, false_from_ne_true}
use Rattle.std.proofs.lemmas.List.{take_all, take_more, take-append-le}
use Rattle.std.specs.Int.{w64, from_le_bytes}
use Rattle.envy_journal.specs.Log.{Begins, IsLeftOf}
use Rattle.envy_journal.specs.Reading.{are_operations, behind_tag, whole, words_in, zero_in, zeros}

-- no operation begins with a mark or a zero
pub not_mark : (tag : ℕ) → behind_tag tag ≢ 0 → tag ≢ 7
unfolding behind_tag words_in
not_mark tag some is = some (ap behind_tag is)

not_zero : (tag : ℕ) → behind_tag tag ≢ 0 → tag ≢ 0
unfolding behind_tag words_in
not_zero tag some is = some (ap behind_tag is)

pub zero_in_zero : (byte : ℕ) → byte ≡ 0 → zero_in byte ≡ 1
zero_in_zero byte is = ap zero_in is

pub zero_in_other : (byte : ℕ) → byte ≢ 0 → zero_in byte ≡ 0
zero_in_other byte ne = cond-false (byte == 0) 1 0 (ne_eqb byte 0 ne)

zero_in_few : (byte : ℕ) → zero_in byte ≤ 1
zero_in_few byte = elim (cases_eq byte 0) [
  | inl is ↦ omega (arith, zero_in_zero byte is)
  | inr ne ↦ omega (arith, zero_in_other byte ne)
]

zero_in_one : (byte : ℕ) → 1 ≤ zero_in byte → byte ≡ 0
zero_in_one byte some = elim (cases_eq byte 0) [
  | inl is ↦ is
  | inr ne ↦ absurd (omega (arith, zero_in_other byte ne))
]

-- One step of each reading.
operations_tag : (tag : ℕ) (rest : List ℕ) → behind_tag tag ≢ 0 → are_operations 0 (tag ∷ rest) ≡ are_operations (behind_tag tag) rest
unfolding are_operations
operations_tag tag rest some = cond-false (behind_tag tag == 0) false (are_operations (behind_tag tag) rest) (ne_eqb (behind_tag tag) 0 some)

operations_some : (tag : ℕ) (rest : List ℕ) → are_operations 0 (tag ∷ rest) ≡ true → behind_tag tag ≢ 0
unfolding are_operations
operations_some tag rest is none = false≢true (sym (cond-true (behind_tag tag == 0) false (are_operations (behind_tag tag) rest) (eq-eqb (behind_tag tag) 0 none)) ∙ is)

pub whole_tag : (n tag : ℕ) (rest : List ℕ) → behind_tag tag ≢ 0 → whole n 0 (tag ∷ rest) ≡ whole n (behind_tag tag) rest
unfolding whole
whole_tag n tag rest some =
    cond-false (tag == 7) _ _ (ne_eqb tag 7 (not_mark tag some)) ∙ cond-false (behind_tag tag == 0) false (whole n (behind_tag tag) rest) (ne_eqb (behind_tag tag) 0 some)

pub whole_none : (n tag : ℕ) (rest : List ℕ) → tag ≢ 7 → behind_tag tag ≡ 0 → whole n 0 (tag ∷ rest) ≡ false
unfolding whole
whole_none n tag rest ne none = cond-false (tag == 7) _ _ (ne_eqb tag 7 ne) ∙ cond-true (behind_tag tag == 0) false (whole n (behind_tag tag) rest) (eq-eqb (behind_tag tag) 0 none)

whole_zero : (n : ℕ) (rest : List ℕ) → whole n 0 (0 ∷ rest) ≡ false
unfolding whole behind_tag words_in
whole_zero n rest = refl

-- the end of a batch that wasn't counted is none of one that was
pub whole_stop : (n : ℕ) (rest : List ℕ) → whole n 0 (5 ∷ rest) ≡ false
unfolding whole behind_tag words_in
whole_stop n rest = refl

pub whole_empty : (n skip : ℕ) → whole n skip [] ≡ false
unfolding whole
whole_empty n skip = refl

-- a mark and a number
long_right : (k v n : ℕ) → cond (nat_lt k 8) false (v == n) ≡ true → (8 ≤ k) × (v ≡ n)
long_right k v n is = elim (cases_Bool (nat_lt k 8)) [
  | inl short ↦ absurd (false≢true (sym (cond-true (nat_lt k 8) false (v == n) short) ∙ is))
  | inr long ↦ (ltb-false k 8 long, eqb-true v n (sym (cond-false (nat_lt k 8) false (v == n) long) ∙ is))
]

pub mark_right : (n : ℕ) (rest : List ℕ) → whole n 0 (7 ∷ rest) ≡ true → (8 ≤ length rest) × (from_le_bytes w64 (take 8 rest) ≡ n)
unfolding whole
mark_right n rest is = long_right (length rest) (from_le_bytes w64 (take 8 rest)) n is

pub mark_whole : (n : ℕ) (rest : List ℕ) → 8 ≤ length rest → from_le_bytes w64 (take 8 rest) ≡ n → whole n 0 (7 ∷ rest) ≡ true
unfolding whole
mark_whole n rest long is =
    cond-false (nat_lt (length rest) 8) false (from_le_bytes w64 (take 8 rest) == n) (le-ltb (length rest) 8 long) ∙ eq-eqb (from_le_bytes w64 (take 8 rest)) n is

pub mark_short : (n : ℕ) (rest : List ℕ) → length rest < 8 → whole n 0 (7 ∷ rest) ≡ false
mark_short n rest short = false_from_ne_true (whole n 0 (7 ∷ rest)) (λ is. let right = mark_right n rest is in omega (arith, right.0))

-- Whole operations are passed over, and their zeros counted.
pub whole_operations : (skip : ℕ) (l : List ℕ) (n : ℕ) (rest : List ℕ) → are_operations skip l ≡ true → whole n skip (l ++ rest) ≡ whole (zeros l + n) 0 rest
unfolding are_operations zeros whole
whole_operations zero [] n rest is = ap (λ (k : ℕ). whole k 0 rest) (omega arith)
whole_operations (suc skip) [] n rest is = absurd (false≢true is)
whole_operations (suc skip) (byte ∷ l) n rest is =
    whole_operations skip l (zero_in byte + n) rest is ∙ ap (λ (k : ℕ). whole k 0 rest) (omega arith)
whole_operations zero (tag ∷ l) n rest is =
    let some = operations_some tag l is in
    whole_tag n tag (l ++ rest) some
    ∙ whole_operations (behind_tag tag) l n rest (sym (operations_tag tag l some) ∙ is)
    ∙ ap (λ (k : ℕ). whole k 0 rest) (omega (arith, zero_in_other tag (not_zero tag some)))

-- operations behind operations are operations
pub operations_both : (skip : ℕ) (l m : List ℕ) → are_operations skip l ≡ true → are_operations 0 m ≡ true → are_operations skip (l ++ m) ≡ true
unfolding are_operations
operations_both zero [] m is also = also
operations_both (suc skip) [] m is also = absurd (false≢true is)
operations_both (suc skip) (byte ∷ l) m is also = operations_both skip l m is also
operations_both zero (tag ∷ l) m is also =
    let some = operations_some tag l is in
    operations_tag tag (l ++ m) some ∙ operations_both (behind_tag tag) l m (sym (operations_tag tag l some) ∙ is) also

-- bytes that are all passed over
pub operations_over : (l : List ℕ) (skip : ℕ) → length l ≡ skip → are_operations skip l ≡ true
unfolding are_operations
operations_over [] zero is = refl
operations_over [] (suc skip) is = absurd (omega (arith, is))
operations_over (byte ∷ l) zero is = absurd (omega (arith, is))
operations_over (byte ∷ l) (suc skip) is = operations_over l skip (omega (arith, is))

-- an operation is one tag and so many bytes
pub one_operation : (tag : ℕ) (l : List ℕ) → behind_tag tag ≢ 0 → length l ≡ behind_tag tag → are_operations 0 (tag ∷ l) ≡ true
one_operation tag l some is = operations_tag tag l some ∙ operations_over l (behind_tag tag) is

pub no_operations : are_operations 0 [] ≡ true
unfolding are_operations
no_operations = refl

-- a batch is as whole with more behind it
pub whole_more : (l more : List ℕ) (n skip : ℕ) → whole n skip l ≡ true → whole n skip (l ++ more) ≡ true
unfolding whole
whole_more [] more n skip is = absurd (false≢true is)
whole_more (byte ∷ l) more n (suc skip) is = whole_more l more (zero_in byte + n) skip is
whole_more (tag ∷ l) more n zero is = elim (cases_eq tag 7) [
  | inl seven ↦
      let right = mark_right n l (ap (λ (t : ℕ). whole n 0 (t ∷ l)) (sym seven) ∙ is) in
      ap (λ (t : ℕ). whole n 0 (t ∷ l ++ more)) seven
      ∙ mark_whole n (l ++ more) (omega (arith, right.0, length-append l more)) (ap (λ (b : List ℕ). from_le_bytes w64 b) (take-append-le 8 l more right.0) ∙ right.1)
  | inr ne ↦ elim (cases_eq (behind_tag tag) 0) [
    | inl none ↦ absurd (false≢true (sym (whole_none n tag l ne none) ∙ is))
    | inr some ↦ whole_tag n tag (l ++ more) some ∙ whole_more l more n (behind_tag tag) (sym (whole_tag n tag l some) ∙ is)
  ]
]

-- and what isn't whole isn't so with less
pub whole_less : (l : List ℕ) (n k : ℕ) → whole n 0 l ≡ false → whole n 0 (take k l) ≡ false
whole_less l n k not =
    false_from_ne_true (whole n 0 (take k l)) (λ is. false≢true (sym not ∙ ap (λ (m : List ℕ). whole n 0 m) (sym (take-append-drop k l)) ∙ whole_more (take k l) (drop k l) n 0 is))

all_eight : (count : List ℕ) → length count ≡ 8 → take 8 count ≡ count
all_eight count eight = take_all 8 count (omega (arith, eight))

-- a whole counted batch
pub whole_batch : (held count rest : List ℕ) → are_operations 0 held ≡ true → length count ≡ 8 → from_le_bytes w64 count ≡ zeros held → whole 0 0 (held ++ 7 ∷ count ++ rest) ≡ true
whole_batch held count rest is eight right =
    ap (λ (l : List ℕ). whole 0 0 l) (append_assoc held (7 ∷ count) rest)
    ∙ whole_operations 0 held 0 (7 ∷ count ++ rest) is
    ∙ mark_whole (zeros held + 0) (count ++ rest) (omega (arith, eight, length-append count rest))
    (ap (λ (l : List ℕ). from_le_bytes w64 l) (take-append-le 8 count rest (omega (arith, eight)) ∙ all_eight count eight) ∙ right ∙ omega arith)

-- a batch that ends with the other mark isn't one
pub whole_other : (held rest : List ℕ) → are_operations 0 held ≡ true → whole 0 0 (held ++ 5 ∷ rest) ≡ false
whole_other held rest is = whole_operations 0 held 0 (5 ∷ rest) is ∙ whole_stop (zeros held + 0) rest

-- zeros of bytes behind bytes
pub zeros_both : (l m : List ℕ) → zeros (l ++ m) ≡ zeros l + zeros m
unfolding zeros
zeros_both [] m = omega arith
zeros_both (byte ∷ l) m = omega (arith, zeros_both l m)

pub zeros_few : (l : List ℕ) → zeros l ≤ length l
unfolding zeros
zeros_few [] = omega arith
zeros_few (byte ∷ l) = omega (arith, zero_in_few byte, zeros_few l)

-- one byte more
pub zeros_push : (l : List ℕ) (i : ℕ) → i < length l → zeros (take (i + 1) l) ≡ zeros (take i l) + zero_in (get_or l i 0)
unfolding zeros
zeros_push l i lt = ap zeros (take_more l i 0 lt) ∙ zeros_both (take i l) (get_or l i 0 ∷ []) ∙ omega arith

pub no_zeros : (l : List ℕ) → l ≡ [] → zeros l ≡ 0
unfolding zeros
no_zeros l is = ap zeros is

-- What a crash leaves of bytes, place by place.
abbrev pub Fades : List ℕ → List ℕ → Type 0
Fades file [] = Unit
Fades [] (x ∷ c) = ⊥
Fades (b ∷ file) (x ∷ c) = ((x ≡ 0) ⊎ (x ≡ b)) × Fades file c

pub fades_from : (file c : List ℕ) → IsLeftOf file c → Fades file c
fades_from file [] is = tt
fades_from [] (x ∷ c) is = absurd (omega (arith, is.no_longer))
fades_from (b ∷ file) (x ∷ c) is = (
  elim (cases_eq x 0) [
    | inl lost ↦ inl lost
    | inr kept ↦ inr (is.each 0 (omega arith) kept)
  ],
  fades_from file c (record { no_longer = omega (arith, is.no_longer); each = λ i lt kept. is.each (suc i) (omega (arith, lt)) kept }),
)

-- A number by its bytes, the lowest first.
abbrev value : List ℕ → ℕ
value [] = 0
value (b ∷ l) = b + 256 * value l

value_eight : (l : List ℕ) → length l ≡ 8 → from_le_bytes w64 l ≡ value l
value_eight [] is = absurd (omega arith)
value_eight (a ∷ []) is = absurd (omega arith)
value_eight (a ∷ b ∷ []) is = absurd (omega arith)
value_eight (a ∷ b ∷ c ∷ []) is = absurd (omega arith)
value_eight (a ∷ b ∷ c ∷ d ∷ []) is = absurd (omega arith)
value_eight (a ∷ b ∷ c ∷ d ∷ e ∷ []) is = absurd (omega arith)
value_eight (a ∷ b ∷ c ∷ d ∷ e ∷ f ∷ []) is = absurd (omega arith)
value_eight (a ∷ b ∷ c ∷ d ∷ e ∷ f ∷ g ∷ []) is = absurd (omega arith)
value_eight (a ∷ b ∷ c ∷ d ∷ e ∷ f ∷ g ∷ h ∷ []) is = omega arith
value_eight (a ∷ b ∷ c ∷ d ∷ e ∷ f ∷ g ∷ h ∷ x ∷ l) is = absurd (omega arith)

faded_less : (x b : ℕ) → (x ≡ 0) ⊎ (x ≡ b) → x ≤ b
faded_less x b (inl lost) = omega (arith, lost)
faded_less x b (inr same) = omega (arith, same)

-- a number that lost bytes is less,
value_less : (count more c : List ℕ) → Fades (count ++ more) c → value (take (length count) c) ≤ value count
value_less [] more c fades = omega arith
value_less (b ∷ count) more [] fades = omega arith
value_less (b ∷ count) more (x ∷ c) fades = omega (arith, faded_less x b fades.0, value_less count more c fades.1)

-- so one that isn't less lost none
value_right : (count more c : List ℕ) → Fades (count ++ more) c → length count ≤ length c → value count ≤ value (take (length count) c) → take (length count) c ≡ count
value_right [] more c fades long le = refl
value_right (b ∷ count) more [] fades long le = absurd (omega (arith, long))
value_right (b ∷ count) more (x ∷ c) fades long le =
    let low = faded_less x b fades.0 in
    let rest = value_less count more c fades.1 in
    let same : x ≡ b = omega (arith, low, rest, le) in
    let next = value_right count more c fades.1 (omega (arith, long)) (omega (arith, low, rest, le)) in
    λ i. same i ∷ next i

number_right : (count more c : List ℕ) → length count ≡ 8 → Fades (count ++ more) c → 8 ≤ length c → from_le_bytes w64 count ≤ from_le_bytes w64 (take 8 c) → take (length count) c ≡ count
number_right count more c eight fades long le =
    let cut : take 8 c ≡ take (length count) c = ap (λ (k : ℕ). take k c) (sym eight) in
    let now = value_eight (take 8 c) (omega (arith, length-take {A = ℕ}, long)) in
    value_right count more c fades (omega (arith, eight, long)) (omega (arith, le, value_eight count eight, now, ap value cut))

-- Where a crash left a whole counted batch of one that was written, nothing is lost of it: each zero that is lost is
-- one more than was counted, and a number that lost bytes is less.
module _ (count more : List ℕ) (eight : length count ≡ 8) where
  pub right : (skip : ℕ) (held c : List ℕ) (n m : ℕ) → are_operations skip held ≡ true → Fades (held ++ 7 ∷ count ++ more) c → whole m skip c ≡ true → n ≤ m
      → from_le_bytes w64 count ≡ zeros held + n → Begins (held ++ 7 ∷ count) c × (m ≡ n)
  unfolding are_operations whole zeros
  right zero [] [] n m is fades found le number = absurd (false≢true found)
  right zero [] (x ∷ c) n m is (inl lost, fades) found le number =
      absurd (false≢true (sym (whole_zero m c) ∙ ap (λ (t : ℕ). whole m 0 (t ∷ c)) (sym lost) ∙ found))
  right zero [] (x ∷ c) n m is (inr same, fades) found le number =
      let mark = mark_right m c (ap (λ (t : ℕ). whole m 0 (t ∷ c)) (sym same) ∙ found) in
      let next = number_right count more c eight fades mark.0 (omega (arith, number, le, mark.1)) in
      let front : take 8 c ≡ count = ap (λ (k : ℕ). take k c) (sym eight) ∙ next in
      (λ i. same i ∷ next i, omega (arith, number, mark.1, ap (λ (l : List ℕ). from_le_bytes w64 l) front))
  right (suc skip) [] c n m is fades found le number = absurd (false≢true is)
  right (suc skip) (b ∷ held) [] n m is fades found le number = absurd (false≢true found)
  right (suc skip) (b ∷ held) (x ∷ c) n m is (inl lost, fades) found le number =
      let one = zero_in_zero x lost in
      let next = right skip held c (zero_in b + n) (zero_in x + m) is fades found (omega (arith, one, zero_in_few b, le)) (omega (arith, number)) in
      let none = zero_in_one b (omega (arith, one, next.1, le)) in
      let same : x ≡ b = lost ∙ sym none in
      let begins = next.0 in
      (λ i. same i ∷ begins i, omega (arith, one, zero_in_zero b none, next.1))
  right (suc skip) (b ∷ held) (x ∷ c) n m is (inr same, fades) found le number =
      let equal = ap zero_in same in
      let next = right skip held c (zero_in b + n) (zero_in x + m) is fades found (omega (arith, equal, le)) (omega (arith, number)) in
      let begins = next.0 in
      (λ i. same i ∷ begins i, omega (arith, equal, next.1))
  right zero (tag ∷ held) [] n m is fades found le number = absurd (false≢true found)
  right zero (tag ∷ held) (x ∷ c) n m is (inl lost, fades) found le number =
      absurd (false≢true (sym (whole_zero m c) ∙ ap (λ (t : ℕ). whole m 0 (t ∷ c)) (sym lost) ∙ found))
  right zero (tag ∷ held) (x ∷ c) n m is (inr same, fades) found le number =
      let some = operations_some tag held is in
      let next = right (behind_tag tag) held c n m (sym (operations_tag tag held some) ∙ is) fades (sym (whole_tag m tag c some) ∙ ap (λ (t : ℕ). whole m 0 (t ∷ c)) (sym same) ∙ found) le
      (omega (arith, number, zero_in_other tag (not_zero tag some))) in
      let begins = next.0 in
      (λ i. same i ∷ begins i, next.1)

-- Where reading stops at a gate, and where it breaks off within a batch.
use Rattle.std.proofs.Common.{◌≡◌, ◌≢◌, inl, inr, ℕ, zero, suc, ◌+◌, ◌<◌, ◌≤◌, ◌==◌, true, false, List, [], ◌∷◌, ◌++◌, length, get_or, take, drop, replicate, refl, sym, ◌∙◌, ap, arith, length-take}
use Rattle.std.proofs.lemmas.Bool.{cases_Bool, cases_eq, cond-true, cond-false, eq-eqb, ne_eqb, false≢true}
use Rattle.std.proofs.lemmas.List.{take_all, take_more, replicate_more, get_or-replicate}
use Rattle.envy_journal.specs.Reading.{are_operations, behind_tag, breaks_off, is_open, reading, whole, words_in, Rests}
use Rattle.envy_journal.proofs.Parsed.{breaks_counted, breaks_none, breaks_other, breaks_over, breaks_short, breaks_shut, counted_open, leads_into, nothing, open_less, other_shut, shorter, shut}

-- What breaks off at the end.
pub rests_shut : (gate : ℕ) (rest : List ℕ) → is_open gate rest ≡ false → Rests (gate ∷ rest)
rests_shut gate rest not = inl (breaks_shut gate rest not)

pub rests_none : Rests []
rests_none = inl (breaks_none false)

whole_nothing : whole 0 0 [] ≡ false
unfolding whole
whole_nothing = refl

-- one byte alone
one_rests : (x : ℕ) → Rests (x ∷ [])
one_rests x = elim (cases_eq x 4) [
  | inl four ↦ inr (ap (λ (y : ℕ). y ∷ []) four)
  | inr ne ↦ elim (cases_eq x 6) [
    | inl six ↦ rests_shut x [] (counted_open x [] ne six ∙ whole_nothing)
    | inr also ↦ rests_shut x [] (other_shut x [] ne also)
  ]
]

pub one_byte_rests : (l : List ℕ) → length l ≤ 1 → Rests l
one_byte_rests [] le = rests_none
one_byte_rests (x ∷ []) le = one_rests x
one_byte_rests (x ∷ y ∷ l) le = absurd (omega (arith, le))

one_reads : (x : ℕ) → reading false 0 (x ∷ []) ≡ []
one_reads x = elim (cases_Bool (is_open x [])) [
  | inl is ↦ leads_into x [] is ∙ nothing true
  | inr not ↦ shut x [] not
]

pub one_byte_reads : (l : List ℕ) → length l ≤ 1 → reading false 0 l ≡ []
one_byte_reads [] le = nothing false
one_byte_reads (x ∷ []) le = one_reads x
one_byte_reads (x ∷ y ∷ l) le = absurd (omega (arith, le))

pub reads_short : (bytes : List ℕ) → length bytes ≤ 1 → (n : ℕ) → reading false 0 (take n bytes) ≡ []
reads_short bytes le n = one_byte_reads (take n bytes) (omega (arith, length-take {A = ℕ}))

-- a gate that isn't open, cut short too
pub rests_at_gate : (bytes : List ℕ) → is_open (get_or bytes 0 0) (drop 1 bytes) ≡ false → (n : ℕ) → Rests (take n bytes)
rests_at_gate bytes not zero = rests_none
rests_at_gate [] not (suc n) = rests_none
rests_at_gate (gate ∷ rest) not (suc n) = rests_shut gate (take n rest) (open_less gate rest n not)

pub rests_short : (bytes : List ℕ) → length bytes ≤ 1 → (n : ℕ) → Rests (take n bytes)
rests_short bytes le n = one_byte_rests (take n bytes) (omega (arith, length-take {A = ℕ}))

-- a batch that breaks off, cut short too
breaks_stuck : (tag : ℕ) (rest : List ℕ) → tag ≢ 5 → (tag ≡ 7 → length rest < 8) → (behind_tag tag ≢ 0 → length rest < behind_tag tag) → breaks_off true 0 (tag ∷ rest) ≡ true
breaks_stuck tag rest five total short = elim (cases_eq tag 7) [
  | inl seven ↦ ap (λ (t : ℕ). breaks_off true 0 (t ∷ rest)) seven ∙ breaks_counted rest ∙ breaks_short false 8 rest (total seven)
  | inr ne ↦ elim (cases_eq (behind_tag tag) 0) [
    | inl none ↦ breaks_other tag rest five ne none
    | inr some ↦ breaks_over tag rest five ne some ∙ breaks_short true (behind_tag tag) rest (short some)
  ]
]

pub breaks_within : (bytes : List ℕ) → get_or bytes 0 0 ≢ 5 → (get_or bytes 0 0 ≡ 7 → length bytes < 9) → (behind_tag (get_or bytes 0 0) ≢ 0 → length bytes < behind_tag (get_or bytes 0 0) + 1) → (n : ℕ) → breaks_off true 0 (take n bytes) ≡ true
breaks_within bytes stop total short zero = breaks_none true
breaks_within [] stop total short (suc n) = breaks_none true
breaks_within (tag ∷ rest) stop total short (suc n) =
    breaks_stuck tag (take n rest) stop
    (λ is. let lt : suc (length rest) < 9 = total is in shorter n rest 8 (omega arith))
    (λ is. let lt : suc (length rest) < behind_tag tag + 1 = short is in shorter n rest (behind_tag tag) (omega arith))

pub breaks_empty : (bytes : List ℕ) → length bytes ≡ 0 → (n : ℕ) → breaks_off true 0 (take n bytes) ≡ true
breaks_empty [] none zero = breaks_none true
breaks_empty [] none (suc n) = breaks_none true
breaks_empty (byte ∷ bytes) none n = absurd (omega arith)

no_five : behind_tag 5 ≡ 0
unfolding behind_tag words_in
no_five = refl

no_seven : behind_tag 7 ≡ 0
unfolding behind_tag words_in
no_seven = refl

-- and so do operations that no end follows
pub breaks_operations : (skip : ℕ) (l : List ℕ) → are_operations skip l ≡ true → (n : ℕ) → breaks_off true skip (take n l) ≡ true
unfolding are_operations breaks_off
breaks_operations zero [] is zero = refl
breaks_operations zero [] is (suc n) = refl
breaks_operations (suc skip) [] is n = absurd (false≢true is)
breaks_operations (suc skip) (byte ∷ l) is zero = refl
breaks_operations (suc skip) (byte ∷ l) is (suc n) = breaks_operations skip l is n
breaks_operations zero (tag ∷ l) is zero = refl
breaks_operations zero (tag ∷ l) is (suc n) = elim (cases_eq (behind_tag tag) 0) [
  | inl none ↦ absurd (false≢true (sym (cond-true (behind_tag tag == 0) false (are_operations (behind_tag tag) l) (eq-eqb (behind_tag tag) 0 none)) ∙ is))
  | inr some ↦
      breaks_over tag (take n l) (λ five. some (ap behind_tag five ∙ no_five)) (λ seven. some (ap behind_tag seven ∙ no_seven)) some
      ∙ breaks_operations (behind_tag tag) l (sym (cond-false (behind_tag tag == 0) false (are_operations (behind_tag tag) l) (ne_eqb (behind_tag tag) 0 some)) ∙ is) n
]

-- zeros, one after another
pub zeros_more : (bytes : List ℕ) (at : ℕ) → at < length bytes → get_or bytes at 0 ≡ 0 → take at bytes ≡ replicate at 0 → take (at + 1) bytes ≡ replicate (at + 1) 0
zeros_more bytes at lt is so_far = take_more bytes at 0 lt ∙ ap (λ (x : ℕ). take at bytes ++ x ∷ []) is ∙ ap (λ (l : List ℕ). l ++ 0 ∷ []) so_far ∙ replicate_more at 0

pub zeros_all : (bytes : List ℕ) (at : ℕ) → at ≡ length bytes → take at bytes ≡ replicate at 0 → bytes ≡ replicate (length bytes) 0
zeros_all bytes at is so_far = sym (take_all at bytes (omega (arith, is))) ∙ so_far ∙ ap (λ (n : ℕ). replicate n 0) is

pub zeros_not : (bytes : List ℕ) (at : ℕ) → at < length bytes → get_or bytes at 0 ≢ 0 → bytes ≢ replicate (length bytes) 0
zeros_not bytes at lt ne all = ne (ap (λ (l : List ℕ). get_or l at 0) all ∙ get_or-replicate (length bytes) at 0 0 lt)

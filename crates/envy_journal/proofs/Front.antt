-- What stands at the front of a batch that was counted.
use Rattle.std.proofs.Common.{◌≡◌, ◌≢◌, inl, inr, ℕ, zero, suc, ◌+◌, ◌*◌, ◌<◌, ◌≤◌, ◌==◌, nat_lt, true, false, List, [], ◌∷◌, length, get_or, take, drop, refl, sym, ◌∙◌, ap, arith, length-take, take-append-drop}
use Rattle.std.proofs.lemmas.Bool.{cases_eq, cond-false, le-ltb}
use Rattle.std.proofs.lemmas.List.{take-take, drop-drop, drop_more, drop_all}
use Rattle.std.specs.Int.{w64, from_le_bytes}
use Rattle.envy_journal.specs.Reading.{are_operations, behind_tag, whole, words_in, zero_in, zeros}
use Rattle.envy_journal.proofs.Counting.{mark_right, mark_short, mark_whole, one_operation, operations_over, whole_empty, whole_none, whole_operations, whole_stop, whole_tag}
use Rattle.envy_journal.proofs.Parsed.{part_length, tagged}
use Rattle.envy_journal.proofs.Words.{behind_erase, behind_other, behind_program, behind_words}

-- too few bytes of an operation
pub whole_short : (l : List ℕ) (skip n : ℕ) → length l ≤ skip → whole n skip l ≡ false
unfolding whole
whole_short [] skip n le = whole_empty n skip
whole_short (byte ∷ l) zero n le = absurd (omega (arith, le))
whole_short (byte ∷ l) (suc skip) n le = whole_short l skip (zero_in byte + n) (omega (arith, le))

too_short : (tag : ℕ) (rest : List ℕ) → (words_in tag ≢ 0 → length rest < 4 + 8 * words_in tag) → (tag ≡ 2 → length rest < 260) → (tag ≡ 3 → length rest < 4) → behind_tag tag ≢ 0 → length rest ≤ behind_tag tag
too_short tag rest words program erase some = elim (cases_eq tag 2) [
  | inl is ↦ omega (arith, program is, behind_program tag is)
  | inr two ↦ elim (cases_eq tag 3) [
    | inl is ↦ omega (arith, erase is, behind_erase tag is)
    | inr three ↦ elim (cases_eq (words_in tag) 0) [
      | inl none ↦ absurd (some (behind_other tag none two three))
      | inr any ↦ omega (arith, words any, behind_words tag any)
    ]
  ]
]

pub too_few : (tag n : ℕ) → (words_in tag ≢ 0 → n < 5 + 8 * words_in tag) → (tag ≡ 2 → n < 261) → (tag ≡ 3 → n < 5) → behind_tag tag ≢ 0 → n < behind_tag tag + 1
too_few tag n words program erase some = elim (cases_eq tag 2) [
  | inl is ↦ omega (arith, program is, behind_program tag is)
  | inr two ↦ elim (cases_eq tag 3) [
    | inl is ↦ omega (arith, erase is, behind_erase tag is)
    | inr three ↦ elim (cases_eq (words_in tag) 0) [
      | inl none ↦ absurd (some (behind_other tag none two three))
      | inr any ↦ omega (arith, words any, behind_words tag any)
    ]
  ]
]

pub empty_counts : (bytes : List ℕ) → length bytes ≡ 0 → (n : ℕ) → whole n 0 bytes ≡ false
empty_counts [] none n = whole_empty n 0
empty_counts (byte ∷ bytes) none n = absurd (omega (arith, none))

-- the end of a batch that wasn't counted
pub not_counted : (bytes : List ℕ) → get_or bytes 0 0 ≡ 5 → (n : ℕ) → whole n 0 bytes ≡ false
not_counted [] is n = whole_empty n 0
not_counted (tag ∷ rest) is n = ap (λ (t : ℕ). whole n 0 (t ∷ rest)) is ∙ whole_stop n rest

-- where nothing more is read of a batch, it isn't whole
pub ends_counts : (bytes : List ℕ) → (get_or bytes 0 0 ≡ 7 → length bytes < 9) → (words_in (get_or bytes 0 0) ≢ 0 → length bytes < 5 + 8 * words_in (get_or bytes 0 0)) → (get_or bytes 0 0 ≡ 2 → length bytes < 261) → (get_or bytes 0 0 ≡ 3 → length bytes < 5)
    → (n : ℕ) → whole n 0 bytes ≡ false
ends_counts [] total words program erase n = whole_empty n 0
ends_counts (tag ∷ rest) total words program erase n = elim (cases_eq tag 7) [
  | inl seven ↦ let lt : suc (length rest) < 9 = total seven in ap (λ (t : ℕ). whole n 0 (t ∷ rest)) seven ∙ mark_short n rest (omega arith)
  | inr ne ↦ elim (cases_eq (behind_tag tag) 0) [
    | inl none ↦ whole_none n tag rest ne none
    | inr some ↦
        whole_tag n tag rest some
        ∙ whole_short rest (behind_tag tag) n
        (too_short tag rest (λ any. let lt : suc (length rest) < 5 + 8 * words_in tag = words any in omega arith) (λ is. let lt : suc (length rest) < 261 = program is in omega arith)
        (λ is. let lt : suc (length rest) < 5 = erase is in omega arith) some)
  ]
]

-- the end of a counted batch is as whole alone
pub close_counts : (bytes : List ℕ) → 9 ≤ length bytes → get_or bytes 0 0 ≡ 7 → (n : ℕ) → whole n 0 bytes ≡ true → whole n 0 (take 9 bytes) ≡ true
close_counts [] long is n found = absurd (omega (arith, long))
close_counts (tag ∷ rest) long is n found =
    let right = mark_right n rest (ap (λ (t : ℕ). whole n 0 (t ∷ rest)) (sym is) ∙ found) in
    ap (λ (t : ℕ). whole n 0 (t ∷ take 8 rest)) is
    ∙ mark_whole n (take 8 rest) (omega (arith, length-take {A = ℕ}, right.0)) (ap (λ (l : List ℕ). from_le_bytes w64 l) (take-take 8 8 rest (omega arith)) ∙ right.1)

-- and operations are passed over
module _ (bytes : List ℕ) where
  tag_counts : (tag k : ℕ) → k + 1 ≤ length bytes → get_or bytes 0 0 ≡ tag → behind_tag tag ≡ k → 0 < k → are_operations 0 (take (suc k) bytes) ≡ true
  tag_counts tag k long is behind some =
      ap (λ (l : List ℕ). are_operations 0 l) (tagged k bytes tag (omega (arith, long)) is)
      ∙ one_operation tag (take k (drop 1 bytes)) (λ none. omega (arith, none, behind, some)) (part_length k bytes long ∙ sym behind)

  pub run_counts : (n : ℕ) → 5 + 8 * n ≤ length bytes → words_in (get_or bytes 0 0) ≡ n → n ≢ 0 → are_operations 0 (take (5 + 8 * n) bytes) ≡ true
  run_counts n long is some =
      let tag = get_or bytes 0 0 in
      let behind : behind_tag tag ≡ 4 + 8 * n = behind_words tag (λ none. some (sym is ∙ none)) ∙ ap (λ (k : ℕ). 4 + 8 * k) is in
      ap (λ (k : ℕ). are_operations 0 (take k bytes)) {x = 5 + 8 * n} {y = suc (4 + 8 * n)} (omega arith) ∙ tag_counts tag (4 + 8 * n) (omega (arith, long)) refl behind (omega arith)

  pub program_counts : 261 ≤ length bytes → get_or bytes 0 0 ≡ 2 → are_operations 0 (take 261 bytes) ≡ true
  program_counts long is = tag_counts 2 260 (omega (arith, long)) is (behind_program 2 refl) (omega arith)

  pub erase_counts : 5 ≤ length bytes → get_or bytes 0 0 ≡ 3 → are_operations 0 (take 5 bytes) ≡ true
  erase_counts long is = tag_counts 3 4 (omega (arith, long)) is (behind_erase 3 refl) (omega arith)

-- Steps of the search for the end of a counted batch.
mark_test : (n : ℕ) (rest : List ℕ) → 8 ≤ length rest → whole n 0 (7 ∷ rest) ≡ (from_le_bytes w64 (take 8 rest) == n)
unfolding whole
mark_test n rest long = cond-false (nat_lt (length rest) 8) false (from_le_bytes w64 (take 8 rest) == n) (le-ltb (length rest) 8 long)

module _ (bytes : List ℕ) (at n : ℕ) (within : at < length bytes) where
  abbrev rest : List ℕ
  rest = drop (at + 1) bytes

  step : whole n 0 (drop at bytes) ≡ whole n 0 (get_or bytes at 0 ∷ rest)
  step = ap (λ (l : List ℕ). whole n 0 l) (drop_more bytes at 0 within)

  marked : get_or bytes at 0 ≡ 7 → whole n 0 (drop at bytes) ≡ whole n 0 (7 ∷ rest)
  marked is = step ∙ ap (λ (t : ℕ). whole n 0 (t ∷ rest)) is

  pub total_found : (v : ℕ) → get_or bytes at 0 ≡ 7 → 8 ≤ length rest → v ≡ from_le_bytes w64 (take 8 rest) → (v == n) ≡ whole n 0 (drop at bytes)
  total_found v is long number = ap (λ (k : ℕ). k == n) number ∙ sym (marked is ∙ mark_test n rest long)

  pub total_short : get_or bytes at 0 ≡ 7 → length rest < 8 → whole n 0 (drop at bytes) ≡ false
  total_short is short = marked is ∙ mark_short n rest short

  pub none_found : (size : ℕ) → (get_or bytes at 0 ≡ 7 → ⊥) → size ≡ behind_tag (get_or bytes at 0) → size ≡ 0 → whole n 0 (drop at bytes) ≡ false
  none_found size ne is none = step ∙ whole_none n (get_or bytes at 0) rest ne (sym is ∙ none)

  passed : (size : ℕ) → size ≡ behind_tag (get_or bytes at 0) → (size ≡ 0 → ⊥) → whole n 0 (drop at bytes) ≡ whole n size rest
  passed size is some = step ∙ whole_tag n (get_or bytes at 0) rest (λ none. some (is ∙ none)) ∙ ap (λ (k : ℕ). whole n k rest) (sym is)

  pub cut_found : (size : ℕ) → size ≡ behind_tag (get_or bytes at 0) → (size ≡ 0 → ⊥) → length rest < size → whole n 0 (drop at bytes) ≡ false
  cut_found size is some short = passed size is some ∙ whole_short rest size n (omega (arith, short))

  pub operation_found : (size : ℕ) → size ≡ behind_tag (get_or bytes at 0) → (size ≡ 0 → ⊥) → size ≤ length rest → whole n 0 (drop at bytes) ≡ whole (n + zeros (take size rest)) 0 (drop (at + (size + 1)) bytes)
  operation_found size is some fits =
      let piece = take size rest in
      passed size is some
      ∙ ap (λ (l : List ℕ). whole n size l) (sym (take-append-drop size rest))
      ∙ whole_operations size piece n (drop size rest) (operations_over piece size (omega (arith, length-take {A = ℕ}, fits)))
      ∙ ap (λ (k : ℕ). whole k 0 (drop size rest)) (omega arith)
      ∙ ap (λ (l : List ℕ). whole (n + zeros piece) 0 l) (drop-drop size (at + 1) bytes ∙ ap (λ (k : ℕ). drop k bytes) (omega arith))

pub none_behind : (bytes : List ℕ) (at n : ℕ) → length bytes ≤ at → whole n 0 (drop at bytes) ≡ false
none_behind bytes at n past = ap (λ (l : List ℕ). whole n 0 l) (drop_all at bytes past) ∙ whole_empty n 0

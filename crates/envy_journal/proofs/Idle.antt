-- A log that holds no operation holds no byte.
use Rattle.std.proofs.Common.{◌≡◌, ◌≢◌, inl, inr, ℕ, zero, suc, ◌+◌, ◌*◌, ◌≤◌, ◌==◌, true, false, List, [], ◌∷◌, ◌++◌, length, take, drop, refl, sym, ◌∙◌, ap, subst, arith, length-append, length-take, take-append-drop}
use Rattle.std.proofs.lemmas.Bool.{cases_eq, cond-false, cond-true, eq-eqb, false≢true, ne_eqb}
use Rattle.envy_journal.specs.declared.operation.Operation.{Operation}
use Rattle.std.specs.Int.{w32, from_le_bytes}
use Rattle.envy_journal.specs.Reading.{are_operations, behind_tag, puts, reading, words_in, Leads}
use Rattle.envy_journal.proofs.Parsed.{erase_leads, program_leads, puts_leads}
use Rattle.envy_journal.proofs.Words.{behind_erase, behind_other, behind_program, behind_words, puts_long}

-- as many bytes are there as are passed over
passed : (k : ℕ) (l : List ℕ) → are_operations k l ≡ true → k ≤ length l
unfolding are_operations
passed zero l is = omega arith
passed (suc k) [] is = absurd (false≢true is)
passed (suc k) (byte ∷ l) is = omega (arith, passed k l is)

pub some_behind : (tag : ℕ) (rest : List ℕ) → are_operations 0 (tag ∷ rest) ≡ true → behind_tag tag ≢ 0
unfolding are_operations
some_behind tag rest is none = false≢true (sym (cond-true (behind_tag tag == 0) false (are_operations (behind_tag tag) rest) (eq-eqb (behind_tag tag) 0 none)) ∙ is)

pub rest_over : (tag : ℕ) (rest : List ℕ) → are_operations 0 (tag ∷ rest) ≡ true → are_operations (behind_tag tag) rest ≡ true
unfolding are_operations
rest_over tag rest is = sym (cond-false (behind_tag tag == 0) false (are_operations (behind_tag tag) rest) (ne_eqb (behind_tag tag) 0 (some_behind tag rest is))) ∙ is

-- an operation that is there is read
is_read : (k tag : ℕ) (rest : List ℕ) (p : List Operation) → length p ≢ 0 → Leads true 0 (tag ∷ take k rest) p true → reading true 0 (tag ∷ rest) ≡ [] → ⊥
is_read k tag rest p some leads none =
    let all : p ++ reading true 0 (drop k rest) ≡ [] = sym (leads.goes_on (drop k rest)) ∙ ap (λ (l : List ℕ). reading true 0 (tag ∷ l)) (take-append-drop k rest) ∙ none in
    some (omega (arith, ap length all, length-append p (reading true 0 (drop k rest))))

long : (k tag : ℕ) (rest : List ℕ) → are_operations 0 (tag ∷ rest) ≡ true → behind_tag tag ≡ k → length (take k rest) ≡ k
long k tag rest is size = omega (arith, length-take {A = ℕ}, passed (behind_tag tag) rest (rest_over tag rest is), size)

-- what stands at the front of whole operations is read, and something is
pub record HasFront (tag : ℕ) (rest : List ℕ) : Type 0 where
  pub read : List Operation
  pub some : length read ≢ 0
  pub fits : behind_tag tag ≤ length rest
  pub leads : Leads true 0 (tag ∷ take (behind_tag tag) rest) read true

front_of : (k t tag : ℕ) (rest : List ℕ) (o : Operation) → tag ≡ t → behind_tag tag ≡ k → are_operations 0 (tag ∷ rest) ≡ true → Leads true 0 (t ∷ take k rest) (o ∷ []) true → HasFront tag rest
front_of k t tag rest o same size is leads = record {
  read = o ∷ [];
  some = λ zero. omega (arith, zero);
  fits = passed (behind_tag tag) rest (rest_over tag rest is);
  leads = subst (λ (n : ℕ). Leads true 0 (n ∷ take (behind_tag tag) rest) (o ∷ []) true) (sym same) (subst (λ (n : ℕ). Leads true 0 (t ∷ take n rest) (o ∷ []) true) (sym size) leads);
}

pub has_front : (tag : ℕ) (rest : List ℕ) → are_operations 0 (tag ∷ rest) ≡ true → HasFront tag rest
has_front tag rest is = elim (cases_eq tag 2) [
  | inl program ↦ front_of 260 2 tag rest _ program (behind_program tag program) is (program_leads (take 260 rest) (long 260 tag rest is (behind_program tag program)))
  | inr two ↦ elim (cases_eq tag 3) [
    | inl erase ↦ front_of 4 3 tag rest _ erase (behind_erase tag erase) is (erase_leads (take 4 rest) (long 4 tag rest is (behind_erase tag erase)))
    | inr three ↦ elim (cases_eq (words_in tag) 0) [
      | inl none ↦ absurd (some_behind tag rest is (behind_other tag none two three))
      | inr any ↦
          let n = words_in tag in
          let size = behind_words tag any in
          let part = take (4 + 8 * n) rest in
          record {
            read = puts (from_le_bytes w32 (take 4 part)) n (drop 4 part);
            some = λ zero. any (sym (puts_long n (from_le_bytes w32 (take 4 part)) (drop 4 part)) ∙ zero);
            fits = passed (behind_tag tag) rest (rest_over tag rest is);
            leads = subst (λ (k : ℕ). Leads true 0 (tag ∷ take k rest) (puts (from_le_bytes w32 (take 4 part)) n (drop 4 part)) true) (sym size)
                (puts_leads part tag n refl any (long (4 + 8 * n) tag rest is size));
          }
    ]
  ]
]

first_read : (tag : ℕ) (rest : List ℕ) → are_operations 0 (tag ∷ rest) ≡ true → reading true 0 (tag ∷ rest) ≡ [] → ⊥
first_read tag rest is none = let front = has_front tag rest is in is_read (behind_tag tag) tag rest front.read front.some front.leads none

-- bytes that are whole operations, and in which none is read
pub no_bytes : (l : List ℕ) → are_operations 0 l ≡ true → reading true 0 l ≡ [] → l ≡ []
no_bytes [] is none = refl
no_bytes (tag ∷ rest) is none = absurd (first_read tag rest is none)

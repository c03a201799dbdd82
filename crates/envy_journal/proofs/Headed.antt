-- The head of a journal, piece by piece.
use Rattle.std.proofs.Common.{◌≡◌, true, ℕ, ◌+◌, ◌<◌, ◌≤◌, List, [], ◌∷◌, ◌++◌, length, get_or, take, drop, sym, ◌∙◌, ap, subst, arith, inl, inr, length-take, length-drop}
use Rattle.std.proofs.lemmas.Bool.{cases_lt}
use Rattle.std.proofs.lemmas.List.{take_all, drop_more, get_or-take, get_or-drop, get_or_past}
use Rattle.std.proofs.lemmas.Nat.{le_bytes_4}
use Rattle.std.proofs.Math.Seq.{take-add}
use Rattle.std.specs.Int.{w32, from_le_bytes}
use Rattle.envy_base.specs.declared.shape.Shape.{Shape}
use Rattle.envy_journal.specs.Head.{HasHead, head_bytes}
use Rattle.envy_journal.specs.Version.{mark, version, older_version, is_known}
use Rattle.envy_journal.specs.Reading.{number_bytes}

-- a head is a mark, a version and six numbers
pub pieces : (v : ℕ) (sh : Shape) (named versioned a b c d e f : List ℕ) → named ≡ mark → versioned ≡ named ++ v ∷ []
    → a ≡ versioned ++ number_bytes sh.segments → b ≡ a ++ number_bytes sh.rows → c ≡ b ++ number_bytes sh.pages
    → d ≡ c ++ number_bytes sh.shadows → e ≡ d ++ number_bytes sh.frames → f ≡ e ++ number_bytes sh.entries → f ≡ head_bytes v sh
pieces v sh named versioned a b c d e f is_named is_versioned is_a is_b is_c is_d is_e is_f =
    let with_version : versioned ≡ mark ++ v ∷ [] = is_versioned ∙ ap (λ (l : List ℕ). l ++ v ∷ []) is_named in
    let with_a : a ≡ (mark ++ v ∷ []) ++ number_bytes sh.segments = is_a ∙ ap (λ (l : List ℕ). l ++ number_bytes sh.segments) with_version in
    let with_b = is_b ∙ ap (λ (l : List ℕ). l ++ number_bytes sh.rows) with_a in
    let with_c = is_c ∙ ap (λ (l : List ℕ). l ++ number_bytes sh.pages) with_b in
    let with_d = is_d ∙ ap (λ (l : List ℕ). l ++ number_bytes sh.shadows) with_c in
    let with_e = is_e ∙ ap (λ (l : List ℕ). l ++ number_bytes sh.frames) with_d in
    is_f ∙ ap (λ (l : List ℕ). l ++ number_bytes sh.entries) with_e

module _ (bytes : List ℕ) where
  -- one byte more
  pub byte_back : (at x : ℕ) → at < length bytes → get_or bytes at 0 ≡ x → take (at + 1) bytes ≡ take at bytes ++ x ∷ []
  byte_back at x lt is =
      take-add at 1 bytes
      ∙ ap (λ (l : List ℕ). take at bytes ++ take 1 l) (drop_more bytes at 0 lt)
      ∙ ap (λ (y : ℕ). take at bytes ++ y ∷ []) is

  module _ (small : (i : ℕ) → get_or bytes i 0 < 256) where
    small_part : (at i : ℕ) → get_or (take 4 (drop at bytes)) i 0 < 256
    small_part at i = elim (cases_lt i 4) [
      | inl lt ↦ subst (λ (n : ℕ). n < 256) (sym (get_or-take 4 (drop at bytes) i 0 lt ∙ get_or-drop at bytes i 0)) (small (at + i))
      | inr ge ↦ subst (λ (n : ℕ). n < 256) (sym (get_or_past (take 4 (drop at bytes)) i 0 (omega (arith, length-take {A = ℕ})))) (omega arith)
    ]

    -- a number that is read where it stands
    pub number_back : (at n : ℕ) → at + 4 ≤ length bytes → n ≡ from_le_bytes w32 (take 4 (drop at bytes)) → take (at + 4) bytes ≡ take at bytes ++ number_bytes n
    number_back at n le is =
        let long : length (take 4 (drop at bytes)) ≡ 4 = omega (arith, length-take {A = ℕ}, length-drop at bytes) in
        take-add at 4 bytes ∙ ap (λ (l : List ℕ). take at bytes ++ l) (sym (le_bytes_4 (take 4 (drop at bytes)) n long (small_part at) is))

-- a head that was copied to the front, and a gate behind it
pub gated : (head piece first second : List ℕ) (gate : ℕ) → length head ≡ 33 → piece ≡ head → take (0 + length piece) first ≡ piece → take 34 second ≡ take 33 first ++ gate ∷ [] → length second ≡ 34 → second ≡ head ++ gate ∷ []
gated head piece first second gate long is copied closed room =
    let all : 33 ≡ 0 + length piece = omega (arith, ap length is, long) in
    sym (take_all 34 second (omega arith)) ∙ closed ∙ ap (λ (l : List ℕ). l ++ gate ∷ []) (ap (λ (n : ℕ). take n first) all ∙ copied ∙ is)

-- versions that are known
pub version_known : (v : ℕ) → v ≡ version → is_known v ≡ true
version_known v is = ap is_known is

pub older_known : (v : ℕ) → v ≡ older_version → is_known v ≡ true
older_known v is = ap is_known is

-- a head that was read
pub head_here : (sh : Shape) (v : ℕ) (bytes : List ℕ) → v ≡ get_or bytes 8 0 → is_known v ≡ true → take 33 bytes ≡ head_bytes v sh → HasHead sh bytes
head_here sh v bytes is known begins = record { known = ap is_known (sym is) ∙ known; begins = begins ∙ ap (λ (n : ℕ). head_bytes n sh) is }

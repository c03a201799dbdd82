-- The front of one list before the rest of another.
use Rattle.std.proofs.Common.{◌≡◌, ℕ, zero, suc, ◌+◌, ◌<◌, List, [], ◌∷◌, ◌++◌, length, get_or, set, take, drop, refl, sym, ◌∙◌, ap, arith}
use Rattle.std.proofs.lemmas.List.{append-nil, take_all, drop_all}
use Rattle.envy_base.specs.State.{IsPage, ands, ones}
use Rattle.envy_base.proofs.Rows.{ands_ones}

module _ {A : Type 0} where
  -- one element more
  patch_suc : (a b : List A) (i : ℕ) (d : A) → length a ≡ length b → i < length a → set (take i a ++ drop i b) i (get_or a i d) ≡ take (suc i) a ++ drop (suc i) b
  patch_suc [] b i d same lt = absurd (omega arith)
  patch_suc (x ∷ a) [] i d same lt = absurd (omega arith)
  patch_suc (x ∷ a) (y ∷ b) zero d same lt = refl
  patch_suc (x ∷ a) (y ∷ b) (suc i) d same lt = ap (λ (l : List A). x ∷ l) (patch_suc a b i d (omega arith) (omega arith))

  same_suc : (a b : List A) (i : ℕ) (d : A) → length a ≡ length b → i < length a → get_or a i d ≡ get_or b i d → take i a ++ drop i b ≡ take (suc i) a ++ drop (suc i) b
  same_suc [] b i d same lt is = absurd (omega arith)
  same_suc (x ∷ a) [] i d same lt is = absurd (omega arith)
  same_suc (x ∷ a) (y ∷ b) zero d same lt is = ap (λ (z : A). z ∷ b) (sym is)
  same_suc (x ∷ a) (y ∷ b) (suc i) d same lt is = ap (λ (l : List A). x ∷ l) (same_suc a b i d (omega arith) (omega arith) is)

  patch_at : (a b : List A) (i : ℕ) (d : A) → length a ≡ length b → i < length a → get_or (take i a ++ drop i b) i d ≡ get_or b i d
  patch_at [] b i d same lt = absurd (omega arith)
  patch_at (x ∷ a) [] i d same lt = absurd (omega arith)
  patch_at (x ∷ a) (y ∷ b) zero d same lt = refl
  patch_at (x ∷ a) (y ∷ b) (suc i) d same lt = patch_at a b i d (omega arith) (omega arith)

  one_more : (i : ℕ) (a b : List A) → take (suc i) a ++ drop (suc i) b ≡ take (i + 1) a ++ drop (i + 1) b
  one_more i a b = let e : suc i ≡ i + 1 = omega arith in ap (λ (n : ℕ). take n a ++ drop n b) e

  pub patched : (a b : List A) (i : ℕ) (d : A) → length a ≡ length b → i < length a → set (take i a ++ drop i b) i (get_or a i d) ≡ take (i + 1) a ++ drop (i + 1) b
  patched a b i d same lt = patch_suc a b i d same lt ∙ one_more i a b

  pub unpatched : (a b : List A) (i : ℕ) (d : A) → length a ≡ length b → i < length a → get_or a i d ≡ get_or b i d → take i a ++ drop i b ≡ take (i + 1) a ++ drop (i + 1) b
  unpatched a b i d same lt is = same_suc a b i d same lt is ∙ one_more i a b

  pub at_patch : (a b : List A) (i : ℕ) (d : A) → length a ≡ length b → i < length a → get_or (take i a ++ drop i b) i d ≡ get_or b i d
  at_patch = patch_at

  pub patched_all : (a b : List A) (n : ℕ) → length a ≡ n → length b ≡ n → take n a ++ drop n b ≡ a
  patched_all a b n long long' =
      ap (λ (l : List A). l ++ drop n b) (take_all n a (omega arith)) ∙ ap (λ (l : List A). a ++ l) (drop_all n b (omega arith)) ∙ append-nil a

-- programming an erased row makes it the page
pub ands-ones : (page : List ℕ) → IsPage page → ands ones page ≡ page
ands-ones page is = ands_ones 32 page is.long is.words

-- The first words of the map.
use Rattle.std.proofs.Common.{◌≡◌, ◌≢◌, ◌↔◌, ℕ, ◌+◌, ◌*◌, ◌^◌, ◌≤◌, ◌==◌, false, IsTrue, List, [], ◌∷◌, take, drop, length, get_or, refl, sym, ◌∙◌, ap, arith}
use Rattle.std.specs.Prelude.{slice_index}
use Rattle.std.proofs.lemmas.Bool.{false≢true}
use Rattle.std.proofs.lemmas.Bool.Decides.{nat_tests}
use Rattle.std.proofs.lemmas.List.{get_or-drop, length-drop}
use Rattle.envy_base.specs.declared.shape.Shape.{Shape}
use Rattle.envy_base.specs.State.{State, IsBoard}
use Rattle.envy_map.specs.Fields.{chart, map_fields, sizes_of}

three : (xs : List ℕ) → 3 ≤ length xs → take 3 xs ≡ get_or xs 0 0 ∷ get_or xs 1 0 ∷ get_or xs 2 0 ∷ []
three [] long = absurd (omega arith)
three (x ∷ []) long = absurd (omega arith)
three (x ∷ y ∷ []) long = absurd (omega arith)
three (x ∷ y ∷ z ∷ xs) long = refl

pub sizes-are : (s : State) → IsBoard s → (chart s).fields.sizes ≡ slice_index s.sram 2 ∷ slice_index s.sram 3 ∷ slice_index s.sram 4 ∷ []
unfolding map_fields
sizes-are s board =
    let long : 3 ≤ length (drop 2 s.sram) = omega (arith, length-drop 2 s.sram) in
    three (drop 2 s.sram) long ∙ rw (get_or-drop 2 s.sram 0 0, get_or-drop 2 s.sram 1 0, get_or-drop 2 s.sram 2 0) refl

-- lists of three
pub differ-first : {P : Type 0} (xs : List ℕ) (x y z a b c : ℕ) → xs ≡ x ∷ y ∷ z ∷ [] → x ≢ a → xs ≡ a ∷ b ∷ c ∷ [] → P
differ-first xs x y z a b c is other same = absurd (other (ap (λ (ys : List ℕ). get_or ys 0 0) (sym is ∙ same)))

-- three sizes that differ in the second differ
pub differ-second : {P : Type 0} (xs : List ℕ) (x y z a b c : ℕ) → xs ≡ x ∷ y ∷ z ∷ [] → y ≢ b → xs ≡ a ∷ b ∷ c ∷ [] → P
differ-second xs x y z a b c is other same = absurd (other (ap (λ (ys : List ℕ). get_or ys 1 0) (sym is ∙ same)))

pub eq-true : (z c : ℕ) → z ≡ c → IsTrue (z == c)
eq-true z c is = grind (arith, nat_tests)

pub true-eq : (z c : ℕ) → IsTrue (z == c) → z ≡ c
true-eq z c is = grind (arith, nat_tests)

-- three sizes that differ in the third alone
pub same-third : (xs : List ℕ) (x y z a b c : ℕ) → xs ≡ x ∷ y ∷ z ∷ [] → x ≡ a → y ≡ b → IsTrue (z == c) ↔ (xs ≡ a ∷ b ∷ c ∷ [])
same-third xs x y z a b c is first second = (
  λ third. is ∙ rw (first, second, true-eq z c third) refl,
  λ same. eq-true z c (ap (λ (ys : List ℕ). get_or ys 2 0) (sym is ∙ same)),
)

-- what the three words that keep a shape tell
module _ (s : State) (sh : Shape) (flash array pools : ℕ) (board : IsBoard s) (shape : sh ≡ s.shape) (first : flash ≡ slice_index s.sram 2) (second : array ≡ slice_index s.sram 3) (third : pools ≡ slice_index s.sram 4) where
  abbrev Kept : Type 0
  Kept = (chart s).fields.sizes ≡ sizes_of s.shape

  read : (chart s).fields.sizes ≡ flash ∷ array ∷ pools ∷ []
  read = sizes-are s board ∙ rw (first, second, third) refl

  expected : Kept → (chart s).fields.sizes ≡ sizes_of sh
  expected kept = kept ∙ ap sizes_of (sym shape)

  -- other sizes of flash are not the shape,
  pub not-flash : (flash ≡ sh.segments * 2 ^ 32 + sh.rows → ⊥) → IsTrue false ↔ Kept
  not-flash other = (λ no. absurd (false≢true no), λ kept. differ-first _ flash array pools _ _ _ read other (expected kept))

  -- nor are other sizes of the array
  pub not-array : (array ≡ sh.pages * 2 ^ 32 + sh.shadows → ⊥) → IsTrue false ↔ Kept
  not-array other = (λ no. absurd (false≢true no), λ kept. differ-second _ flash array pools _ _ _ read other (expected kept))

  -- and then the pools decide
  pub pools-decide : flash ≡ sh.segments * 2 ^ 32 + sh.rows → array ≡ sh.pages * 2 ^ 32 + sh.shadows → IsTrue (pools == (sh.frames * 2 ^ 32 + sh.entries)) ↔ Kept
  pools-decide is is' =
      let same = same-third _ flash array pools _ _ (sh.frames * 2 ^ 32 + sh.entries) read is is' in
      (λ yes. same.0 yes ∙ ap sizes_of shape, λ kept. same.1 (expected kept))

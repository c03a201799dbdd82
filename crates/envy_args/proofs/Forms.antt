-- The forms that a word has.
use Rattle.std.proofs.Common.{◌≡◌, ℕ, Bool, true, false, ◌==◌, refl, sym, ap, [], ◌∷◌, Some, None, codes, eqb-true, ne_eqb, if◌then◌else◌}
use Rattle.std.specs.Str.{bytes_eq}
use Rattle.std.proofs.lemmas.Bool.{eqb-false}
use Rattle.clap.specs.Lexer.{long_of}
use Rattle.envy_args.specs.Words.{Text, has_value, is_option, name_in, value_in}

-- `--`, `--name=value`, `--name`, or none of these
pub data Form (word : Text) : Type 0 where
  dashes : bytes_eq word (codes "--") ≡ true → Form word
  pair : bytes_eq word (codes "--") ≡ false → is_option word ≡ true → has_value word ≡ true → long_of word ≡ Some (name_in word, Some (value_in word)) → Form word
  single : bytes_eq word (codes "--") ≡ false → is_option word ≡ true → has_value word ≡ false → long_of word ≡ Some (name_in word, None) → Form word
  other : bytes_eq word (codes "--") ≡ false → is_option word ≡ false → long_of word ≡ None → Form word

-- behind two hyphens something follows
longer : (x : ℕ) (word : Text) → Form (45 ∷ 45 ∷ x ∷ word)
longer x word = go (has_value (45 ∷ 45 ∷ x ∷ word)) refl
  where
    go : (b : Bool) → has_value (45 ∷ 45 ∷ x ∷ word) ≡ b → Form (45 ∷ 45 ∷ x ∷ word)
    go true e = pair refl refl e (ap (λ b. Some (name_in (45 ∷ 45 ∷ x ∷ word), if b then Some (value_in (45 ∷ 45 ∷ x ∷ word)) else None)) e)
    go false e = single refl refl e (ap (λ b. Some (name_in (45 ∷ 45 ∷ x ∷ word), if b then Some (value_in (45 ∷ 45 ∷ x ∷ word)) else None)) e)

flipped : (x : ℕ) → (x == 45) ≡ false → (45 == x) ≡ false
flipped x e = ne_eqb 45 x (λ h. eqb-false x 45 e (sym h))

no-first : (x : ℕ) (word : Text) → (x == 45) ≡ false → Form (x ∷ word)
no-first x word e = other (rw e refl) (rw (flipped x e) refl) (rw e refl)

no-second : (y : ℕ) (word : Text) → (y == 45) ≡ false → Form (45 ∷ y ∷ word)
no-second y word e = other (rw e refl) (rw (flipped y e) refl) (rw e refl)

from-second : (y : ℕ) (word : Text) → Form (45 ∷ y ∷ word)
from-second y word = go (y == 45) refl word
  where
    go : (b : Bool) → (y == 45) ≡ b → (word : Text) → Form (45 ∷ y ∷ word)
    go true e [] = rw (eqb-true y 45 e) (dashes refl)
    go true e (x ∷ word) = rw (eqb-true y 45 e) (longer x word)
    go false e word = no-second y word e

pub form_of : (word : Text) → Form word
form_of [] = other refl refl refl
form_of (x ∷ word) = go (x == 45) refl word
  where
    go : (b : Bool) → (x == 45) ≡ b → (word : Text) → Form (x ∷ word)
    go true e [] = rw (eqb-true x 45 e) (other refl refl refl)
    go true e (y ∷ word) = rw (eqb-true x 45 e) (from-second y word)
    go false e word = no-first x word e

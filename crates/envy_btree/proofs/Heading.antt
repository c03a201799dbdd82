-- The first pair that a scan writes.
use Rattle.std.proofs.Common.{◌≡◌, ◌≢◌, ℕ, Bool, true, false, cond, List, [], ◌∷◌, ◌++◌, get_or, Option, None, Some, refl, ap, sym, ◌∙◌, ltb, arith}
use Rattle.envy_btree.specs.Answers.{IsWritten}
use Rattle.envy_btree.specs.Nearest.{first_from, last_to, or_pair, pairs_from, pairs_to}

abbrev pub headed : List (ℕ × ℕ) → Option (ℕ × ℕ)
headed [] = None
headed (e ∷ es) = Some e

pub from-headed : (key : ℕ) (es : List (ℕ × ℕ)) → first_from key es ≡ headed (pairs_from key es)
from-headed key [] = refl
from-headed key (e ∷ es) = go (ltb e.0 key) (from-headed key es)
  where
    go : (b : Bool) → first_from key es ≡ headed (pairs_from key es) → cond b (first_from key es) (Some e) ≡ headed (cond b (pairs_from key es) (e ∷ es))
    go true rest = rest
    go false rest = refl

headed-last : (xs : List (ℕ × ℕ)) (e : ℕ × ℕ) → headed (xs ++ e ∷ []) ≡ or_pair e (headed xs)
headed-last [] e = refl
headed-last (x ∷ xs) e = refl

pub to-headed : (key : ℕ) (es : List (ℕ × ℕ)) → last_to key es ≡ headed (pairs_to key es)
to-headed key [] = refl
to-headed key (e ∷ es) = go (ltb key e.0) (to-headed key es)
  where
    go : (b : Bool) → last_to key es ≡ headed (pairs_to key es) → cond b None (or_pair e (last_to key es)) ≡ headed (cond b [] (pairs_to key es ++ e ∷ []))
    go true rest = refl
    go false rest = ap (or_pair e) rest ∙ sym (headed-last (pairs_to key es) e)

pub written-none : (all now : List (ℕ × ℕ)) (n : ℕ) → IsWritten all ((0, 0) ∷ []) now n → n ≡ 0 → headed all ≡ None
written-none [] now n w none = refl
written-none (e ∷ es) now n w none = absurd (omega (arith, w.0))

pub written-some : (all now : List (ℕ × ℕ)) (n : ℕ) → IsWritten all ((0, 0) ∷ []) now n → n ≢ 0 → headed all ≡ Some (get_or now 0 (0, 0))
written-some [] now n w some = absurd (some w.0)
written-some (e ∷ es) now n w some = sym (ap (λ xs. Some (get_or xs 0 (0, 0))) w.1)

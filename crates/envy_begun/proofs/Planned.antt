-- What the first bytes of a file tell.
use Rattle.std.proofs.Common.{◌≡◌, ℕ, true, ◌==◌, List, [], ◌∷◌, length, refl, arith}
use Rattle.std.proofs.lemmas.Bool.{eqb-true}

pub is-empty : (file : List ℕ) → (length file == 0) ≡ true → file ≡ []
is-empty [] e = refl
is-empty (byte ∷ rest) e = let none : length (byte ∷ rest) ≡ 0 = eqb-true (length (byte ∷ rest)) 0 e in absurd (omega arith)

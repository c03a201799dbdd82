-- Words made by hand that are no heap.
use Rattle.std.specs.Prelude.{ℕ, ◌-◌, List, [], ◌∷◌, ◌++◌, length, replicate}

-- a list, and zeros up to 640 words, so 9 pieces
abbrev pub nine : List ℕ → List ℕ
nine xs = xs ++ replicate (640 - length xs) 0

-- these first four words, and the first word of piece 0
abbrev pub with_first : List ℕ → ℕ → List ℕ
with_first xs link = nine (xs ++ replicate 60 0 ++ link ∷ [])

-- After which words a barrier was ordered.
use Rattle.std.specs.Prelude.{◌≡◌, ⊤, ℕ, List, [], ◌∷◌, ◌++◌, Option, None, Some}

-- One more barrier was ordered, after this word. Of a fence that keeps no list nothing is said.
abbrev pub AddsFence : ℕ → Option (List ℕ) → Option (List ℕ) → Type 0
AddsFence word None new = ⊤
AddsFence word (Some words) new = new ≡ Some (words ++ word ∷ [])

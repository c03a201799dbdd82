-- The lines of a list of bytes.
use Rattle.std.specs.Prelude.{◌≢◌, ℕ, ◌==◌, if◌then◌else◌, List, [], ◌∷◌, ◌++◌}
use Rattle.std.specs.List.{AllByRecursion, flat_map}

-- the byte that ends a line
abbrev pub newline : ℕ
newline = 10

-- no byte is a newline
abbrev pub NoNewline : List ℕ → Type 0
NoNewline bytes = AllByRecursion (λ b. b ≢ newline) bytes

-- the byte goes in front of the first line
abbrev pub onto_first : ℕ → List (List ℕ) → List (List ℕ)
onto_first b [] = (b ∷ []) ∷ []
onto_first b (line ∷ lines) = (b ∷ line) ∷ lines

-- the pieces between newlines; the last piece counts only where it isn't empty
unfoldable pub lines_of : List ℕ → List (List ℕ)
lines_of [] = []
lines_of (b ∷ bytes) = if b == newline then [] ∷ lines_of bytes else onto_first b (lines_of bytes)

-- the lines one after another, each with its newline
abbrev pub spelled : List (List ℕ) → List ℕ
spelled lines = flat_map (λ line. line ++ newline ∷ []) lines

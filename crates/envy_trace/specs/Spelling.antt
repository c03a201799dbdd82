-- How a line of a trace is written, and what spells a line.
use Rattle.std.specs.Prelude.{◌≡◌, ℕ, ◌^◌, ◌<◌, ◌≤◌, ⊤, List, [], ◌∷◌, ◌++◌, length, codes, decimal, Option, None, Some}
use Rattle.std.specs.List.{AllZip, flat_map}
use Rattle.std.specs.Str.Parse.{IsNumeral, digits_value}
use Rattle.envy_trace.specs.declared.line.Line.{Line}
use Rattle.envy_trace.specs.declared.line.Line.TheVariants.{Empty, Load, Look, Store, Begin, Put, Commit, Abort, Tick, Power, Cut, Bad, Stat}
use Rattle.envy_trace.specs.Grammar.{fields_of, command_in}

-- the command word of a line, and its numbers
abbrev pub parts : Line → Option (List ℕ × List ℕ)
parts Empty = None
parts (Load a) = Some (codes "load", a ∷ [])
parts (Look a) = Some (codes "look", a ∷ [])
parts (Store a w) = Some (codes "store", a ∷ w ∷ [])
parts Begin = Some (codes "begin", [])
parts (Put t a w) = Some (codes "put", t ∷ a ∷ w ∷ [])
parts (Commit t) = Some (codes "commit", t ∷ [])
parts (Abort t) = Some (codes "abort", t ∷ [])
parts Tick = Some (codes "tick", [])
parts Power = Some (codes "power", [])
parts (Cut k g) = Some (codes "cut", k ∷ g ∷ [])
parts (Bad k g) = Some (codes "bad", k ∷ g ∷ [])
parts Stat = Some (codes "stat", [])

-- the ranges of the numbers
abbrev pub IsLine : Line → Type 0
IsLine Empty = ⊤
IsLine (Load a) = a < 2 ^ 32
IsLine (Look a) = a < 2 ^ 32
IsLine (Store a w) = (a < 2 ^ 32) × (w < 2 ^ 64)
IsLine Begin = ⊤
IsLine (Put t a w) = (t < 256) × (a < 2 ^ 32) × (w < 2 ^ 64)
IsLine (Commit t) = t < 256
IsLine (Abort t) = t < 256
IsLine Tick = ⊤
IsLine Power = ⊤
IsLine (Cut k g) = (1 ≤ k) × (k < 2 ^ 32) × (g < 2 ^ 64)
IsLine (Bad k g) = (1 ≤ k) × (k < 2 ^ 32) × (g < 2 ^ 64)
IsLine Stat = ⊤

-- a planned fault has a place from 1 on
abbrev pub HasPlace : Line → Type 0
HasPlace (Cut k g) = 1 ≤ k
HasPlace (Bad k g) = 1 ≤ k
HasPlace line = ⊤

-- The one written form

-- the word, and before each number a space
abbrev pub written : List ℕ → List ℕ → List ℕ
written name numbers = name ++ flat_map (λ n. 32 ∷ decimal n) numbers

abbrev pub written_parts : Option (List ℕ × List ℕ) → List ℕ
written_parts None = []
written_parts (Some p) = written p.0 p.1

unfoldable pub line_bytes : Line → List ℕ
line_bytes line = written_parts (parts line)

-- All spellings

-- decimal digits of this value: zeros in front make no difference
abbrev pub IsNumeralOf : List ℕ → ℕ → Type 0
IsNumeralOf field n = IsNumeral 10 field × (digits_value 10 field ≡ n)

-- the fields are a command word and numerals
abbrev pub Spells : List (List ℕ) → Option (List ℕ × List ℕ) → Type 0
Spells fields None = command_in fields ≡ None
Spells fields (Some p) = (numerals : List (List ℕ)) × (fields ≡ p.0 ∷ numerals) × AllZip IsNumeralOf numerals p.1

-- the bytes are a spelling of the line
pub record Reads (bytes : List ℕ) (line : Line) : Type 0 where
  pub short : length bytes ≤ 120
  pub fields : Spells (fields_of bytes) (parts line)
  pub ranges : IsLine line

-- What spells a line of a trace of the index.
use Rattle.std.specs.Prelude.{ℕ, ◌^◌, ◌<◌, ◌≤◌, ⊤, List, [], ◌∷◌, length, codes, Option, None, Some}
use Rattle.envy_trace.specs.Grammar.{fields_of}
use Rattle.envy_trace.specs.Spelling.{Spells}
use Rattle.envy_btree.specs.declared.line.IndexLine.{IndexLine}
use Rattle.envy_btree.specs.declared.line.IndexLine.TheVariants.{Empty, Get, Insert, Remove, Power, Cut, Bad}

-- the command word of a line, and its numbers
abbrev pub parts : IndexLine → Option (List ℕ × List ℕ)
parts Empty = None
parts (Get key) = Some (codes "get", key ∷ [])
parts (Insert key value) = Some (codes "insert", key ∷ value ∷ [])
parts (Remove key) = Some (codes "remove", key ∷ [])
parts Power = Some (codes "power", [])
parts (Cut k g) = Some (codes "cut", k ∷ g ∷ [])
parts (Bad k g) = Some (codes "bad", k ∷ g ∷ [])

-- the ranges of the numbers
abbrev pub IsIndexLine : IndexLine → Type 0
IsIndexLine Empty = ⊤
IsIndexLine (Get key) = key < 2 ^ 64
IsIndexLine (Insert key value) = (key < 2 ^ 64) × (value < 2 ^ 64)
IsIndexLine (Remove key) = key < 2 ^ 64
IsIndexLine Power = ⊤
IsIndexLine (Cut k g) = (1 ≤ k) × (k < 2 ^ 32) × (g < 2 ^ 64)
IsIndexLine (Bad k g) = (1 ≤ k) × (k < 2 ^ 32) × (g < 2 ^ 64)

-- the bytes are a spelling of the line
pub record ReadsIndex (bytes : List ℕ) (line : IndexLine) : Type 0 where
  pub short : length bytes ≤ 120
  pub fields : Spells (fields_of bytes) (parts line)
  pub ranges : IsIndexLine line

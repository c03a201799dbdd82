-- What a line of a trace says, or why it is refused.
use Rattle.std.specs.Prelude.{ℕ, ◌-◌, ◌^◌, ◌==◌, nat_lt, nat_le, Bool, ◌&&◌, ◌||◌, if◌then◌else◌, List, [], ◌∷◌, length, take, filter, codes, Option, None, Some, Result, Ok, Err}
use Rattle.std.specs.List.{slice_split, starts_with, ends_with}
use Rattle.std.specs.Str.{bytes_eq, all_ascii_digits}
use Rattle.std.specs.Str.Parse.{digits_value}
use Rattle.envy_trace.specs.declared.fault.LineFault.{LineFault}
use Rattle.envy_trace.specs.declared.fault.LineFault.TheVariants.{Word, Number, Count, Long}
use Rattle.envy_trace.specs.declared.bounds.Bounds.{Bounds}
use Rattle.envy_trace.specs.declared.line.Line.{Line}
use Rattle.envy_trace.specs.declared.line.Line.TheVariants.{Empty, Load, Look, Store, Begin, Put, Commit, Abort, Tick, Power, Cut, Bad, Stat}

-- Fields

-- a space or a tab
abbrev pub is_blank : ℕ → Bool
is_blank byte = byte == 32 || byte == 9

-- one carriage return at the very end doesn't belong to the line
abbrev pub without_return : List ℕ → List ℕ
without_return bytes = if ends_with ◌==◌ bytes (codes "\r") then take (length bytes - 1) bytes else bytes

-- what stands between blanks
abbrev pub pieces : List ℕ → List (List ℕ)
pieces bytes = filter (λ piece. nat_lt 0 (length piece)) (slice_split is_blank bytes)

abbrev pub fields_of : List ℕ → List (List ℕ)
fields_of bytes = pieces (without_return bytes)

-- Numbers

abbrev pub slot : Bounds
slot = record { least = 0; greatest = 255 }

abbrev pub address : Bounds
address = record { least = 0; greatest = 2 ^ 32 - 1 }

abbrev pub word : Bounds
word = record { least = 0; greatest = 2 ^ 64 - 1 }

-- the place of a planned fault among the operations to come
abbrev pub place : Bounds
place = record { least = 1; greatest = 2 ^ 32 - 1 }

abbrev pub lies_in : Bounds → ℕ → Bool
lies_in bounds n = nat_le bounds.least n && nat_le n bounds.greatest

-- one decimal digit or more, with a value within the bounds
abbrev pub number_in : Bounds → List ℕ → Result ℕ LineFault
number_in bounds field =
    if nat_lt 0 (length field) && all_ascii_digits field && lies_in bounds (digits_value 10 field)
    then Ok (digits_value 10 field) else Err Number

-- Commands

infixl 10 ◌>>=◌
abbrev pub ◌>>=◌ : {A B : Type 0} → Result A LineFault → (A → Result B LineFault) → Result B LineFault
(Ok x) >>= f = f x
(Err e) >>= f = Err e

-- the fields after a command word: none, or as many numbers, of which the line is made
abbrev pub none : {L : Type 0} → L → List (List ℕ) → Result L LineFault
none line [] = Ok line
none line _ = Err Count

abbrev pub one : {L : Type 0} → Bounds → (ℕ → L) → List (List ℕ) → Result L LineFault
one r line (f ∷ []) = do
  x ← number_in r f
  Ok (line x)
one r line _ = Err Count

abbrev pub two : {L : Type 0} → Bounds → Bounds → (ℕ → ℕ → L) → List (List ℕ) → Result L LineFault
two r s line (f ∷ g ∷ []) = do
  x ← number_in r f
  y ← number_in s g
  Ok (line x y)
two r s line _ = Err Count

abbrev pub three : {L : Type 0} → Bounds → Bounds → Bounds → (ℕ → ℕ → ℕ → L) → List (List ℕ) → Result L LineFault
three r s t line (f ∷ g ∷ h ∷ []) = do
  x ← number_in r f
  y ← number_in s g
  z ← number_in t h
  Ok (line x y z)
three r s t line _ = Err Count

-- an entry of the table: a command word, and how the fields after it are read
pub record Entry (L : Type 0) : Type 0 where
  pub name : List ℕ
  pub read : List (List ℕ) → Result L LineFault

infix 5 ◌takes◌
abbrev pub ◌takes◌ : {L : Type 0} → List ℕ → (List (List ℕ) → Result L LineFault) → Entry L
name takes read = record { name = name; read = read }

abbrev pub commands : List (Entry Line)
commands =
    (codes "load" takes one address Load)
    ∷ (codes "look" takes one address Look)
    ∷ (codes "store" takes two address word Store)
    ∷ (codes "begin" takes none Begin)
    ∷ (codes "put" takes three slot address word Put)
    ∷ (codes "commit" takes one slot Commit)
    ∷ (codes "abort" takes one slot Abort)
    ∷ (codes "tick" takes none Tick)
    ∷ (codes "power" takes none Power)
    ∷ (codes "cut" takes two place word Cut)
    ∷ (codes "bad" takes two place word Bad)
    ∷ (codes "stat" takes none Stat)
    ∷ []

-- the entry of the word reads the other fields
abbrev pub look_up : {L : Type 0} → List (Entry L) → List ℕ → List (List ℕ) → Result L LineFault
look_up [] name others = Err Word
look_up (entry ∷ table) name others = if bytes_eq entry.name name then entry.read others else look_up table name others

-- Lines

-- the command word, and the fields after it; there is none in a line without fields, nor in a comment
abbrev pub command_in : List (List ℕ) → Option (List ℕ × List (List ℕ))
command_in [] = None
command_in (name ∷ others) = if starts_with ◌==◌ name (codes "#") then None else Some (name, others)

abbrev pub says : {L : Type 0} → L → List (Entry L) → Option (List ℕ × List (List ℕ)) → Result L LineFault
says empty table None = Ok empty
says empty table (Some c) = look_up table c.0 c.1

-- what a line says by a table, or why it is refused
abbrev pub read_by : {L : Type 0} → L → List (Entry L) → List ℕ → Result L LineFault
read_by empty table bytes = if nat_lt 120 (length bytes) then Err Long else says empty table (command_in (fields_of bytes))

-- a line of a trace
unfoldable pub line_of : List ℕ → Result Line LineFault
line_of = read_by Empty commands

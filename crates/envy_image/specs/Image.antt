-- A board as bytes.
use Rattle.std.specs.Prelude.{◌≡◌, ℕ, ◌+◌, ◌<◌, ◌^◌, ◌==◌, Bool, true, false, List, [], ◌∷◌, ◌++◌, codes}
use Rattle.std.specs.List.{flat_map}
use Rattle.std.specs.Int.{w32, w64, to_le_bytes}
use Rattle.envy_base.specs.declared.shape.Shape.{Shape}
use Rattle.envy_base.specs.Shape.{version_of}
use Rattle.envy_base.specs.State.{State}

-- the bytes that an image begins with: the second mark is that of an extended image, which a board with reserves or sums has
abbrev pub mark_of : Bool → List ℕ
mark_of false = codes "eNVyIMG1"
mark_of true = codes "eNVyIMG2"

-- numbers of 4 bytes and words of 8, the lowest byte first
abbrev pub number_bytes : ℕ → List ℕ
number_bytes n = to_le_bytes w32 n

abbrev pub word_bytes : ℕ → List ℕ
word_bytes w = to_le_bytes w64 w

abbrev pub words_bytes : List ℕ → List ℕ
words_bytes words = flat_map word_bytes words

abbrev pub rows_bytes : List (List ℕ) → List ℕ
rows_bytes rows = flat_map words_bytes rows

abbrev pub numbers_bytes : List ℕ → List ℕ
numbers_bytes numbers = flat_map number_bytes numbers

-- the numbers of a shape that an image names: reserves and sums only if it is extended
abbrev pub numbers_of : Bool → Shape → List ℕ
numbers_of false sh = sh.segments ∷ sh.rows ∷ sh.pages ∷ sh.shadows ∷ sh.frames ∷ sh.entries ∷ []
numbers_of true sh = sh.segments ∷ sh.rows ∷ sh.pages ∷ sh.shadows ∷ sh.frames ∷ sh.entries ∷ sh.reserves ∷ sh.sums ∷ []

-- how many bytes they take
abbrev pub numbers_size : Bool → ℕ
numbers_size false = 24
numbers_size true = 32

-- each number of a shape fits 4 bytes
pub record FitNumbers (sh : Shape) : Type 0 where
  pub segments : sh.segments < 2 ^ 32
  pub rows : sh.rows < 2 ^ 32
  pub pages : sh.pages < 2 ^ 32
  pub shadows : sh.shadows < 2 ^ 32
  pub frames : sh.frames < 2 ^ 32
  pub entries : sh.entries < 2 ^ 32
  pub reserves : sh.reserves < 2 ^ 32
  pub sums : sh.sums < 2 ^ 32

-- a mark, and a shape
unfoldable pub head_with : Bool → Shape → List ℕ
head_with extended sh = mark_of extended ++ numbers_bytes (numbers_of extended sh)

-- whether the image of a board is extended
abbrev pub is_extended : Shape → Bool
is_extended sh = version_of sh == 3

-- the head of the image of a board
abbrev pub head_of : Shape → List ℕ
head_of sh = head_with (is_extended sh) sh

-- how many bytes it takes
abbrev pub head_size : Shape → ℕ
head_size sh = 8 + numbers_size (is_extended sh)

-- every row of flash, and every word of SRAM
abbrev pub body_of : List (List ℕ) → List ℕ → List ℕ
body_of flash sram = rows_bytes flash ++ words_bytes sram

-- the image of a board
unfoldable pub image_of : State → List ℕ
image_of s = head_of s.shape ++ body_of s.flash s.sram

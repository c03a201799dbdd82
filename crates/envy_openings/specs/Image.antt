-- What bytes of a caller say of a board whose image they begin with, and what writing an image does.
use Rattle.std.specs.Prelude.{◌≡◌, ◌≢◌, ◌⊎◌, ⊤, ℕ, ◌+◌, ◌*◌, ◌<◌, ◌≤◌, Bool, false, IsTrue, List, ◌++◌, length, drop, slice_index, Option, None, Some, Ok}
use Rattle.envy_base.specs.Counting.{up}
use Rattle.envy_base.specs.Shape.{checked}
use Rattle.envy_base.specs.State.{State}
use Rattle.envy_base.specs.declared.shape.Shape.{Shape}
use Rattle.envy_image.specs.Image.{mark_of, head_of, head_size, image_of, numbers_size, FitNumbers}
use Rattle.envy_image.specs.Reading.{IsMisshapen}
use Rattle.envy_image.specs.Installing.{Goes, body_size, count_after}
use Rattle.envy_memory.specs.Picture.{Picture, state_in}
use Rattle.envy_policy.specs.Setup.{checked as setup_checked}
use Rattle.envy_policy.specs.declared.setup.Setup.{Setup as OfSetup}
use Rattle.envy_calls.specs.Codes.{number_of}
use Rattle.envy_calls.specs.Making.{IsNoSetup}
use Rattle.envy_calls.specs.Setups.{setup_of}
use Rattle.envy_calls.specs.declared.code.Code.{Code}
use Rattle.envy_calls.specs.declared.code.Code.TheVariants.{Done, Empty, Off, NoMemory, Small, ImageShort, ImageMark, ImageOther, ImageShape}
use Rattle.envy_calls.specs.declared.setup.EnvySetup.{EnvySetup}

-- how many bytes the image of a board has: those of its head, 256 for each row, and 8 for each word of SRAM
abbrev pub image_size : Shape → ℕ
image_size sh = head_size sh + body_size sh

-- bytes begin with the head of an image, and these stand behind it
pub record HasHead (bytes : List ℕ) (sh : Shape) (rest : List ℕ) : Type 0 where
  pub head : bytes ≡ head_of sh ++ rest
  pub fit : FitNumbers sh

-- bytes end before the head of an image does
abbrev pub EndsInHead : List ℕ → Type 0
EndsInHead bytes =
    (length bytes < 8) ⊎ ((extended : Bool) × (rest : List ℕ) × (bytes ≡ mark_of extended ++ rest) × (length rest < numbers_size extended))

-- why bytes don't begin with the head of an image whose shape checks
abbrev pub NoHead : List ℕ → Code → Type 0
NoHead bytes ImageShort = EndsInHead bytes
NoHead bytes ImageMark = (first rest : List ℕ) × (bytes ≡ first ++ rest) × (length first ≡ 8) × ((extended : Bool) → first ≢ mark_of extended)
NoHead bytes (ImageShape fault) = (head rest : List ℕ) × (bytes ≡ head ++ rest) × IsMisshapen head fault
NoHead bytes other = ⊥

-- why bytes make no board of a shape
abbrev pub NoBoard : List ℕ → Shape → Code → Type 0
NoBoard bytes shape NoMemory = ⊤
NoBoard bytes shape ImageShort = EndsInHead bytes ⊎ ((rest : List ℕ) × HasHead bytes shape rest × (length rest < body_size shape))
NoBoard bytes shape ImageOther = (sh : Shape) × (rest : List ℕ) × HasHead bytes sh rest × (checked sh ≡ Ok tt) × (sh ≢ shape)
NoBoard bytes shape code = NoHead bytes code

-- Of a new board the image was made that bytes begin with: each segment was erased once, each row programmed once.
pub record HoldsImage (bytes : List ℕ) (made board : State) : Type 0 where
  pub rest : List ℕ
  pub is : bytes ≡ image_of board ++ rest
  pub goes : Goes made board
  pub begun : board.begun ≡ count_after (made.shape.segments * made.shape.rows) made.begun
  pub erases : (e : ℕ) → e < made.shape.segments → slice_index board.erases e ≡ up (slice_index made.erases e)

-- What writing the image of a board over bytes answers, and what they are then.
abbrev pub Saves : State → List ℕ → List ℕ → Code → Type 0
Saves board before after Done = IsTrue board.on × (after ≡ image_of board ++ drop (image_size board.shape) before)
Saves board before after Off = (board.on ≡ false) × (after ≡ before)
Saves board before after Small = IsTrue board.on × (length before < image_size board.shape) × (after ≡ before)
Saves board before after NoMemory = IsTrue board.on × (image_size board.shape ≤ length before) × (after ≡ before)
Saves board before after other = ⊥

-- in a place: it is the board of the memory that it holds
abbrev pub DoesSave : Option Picture → List ℕ → List ℕ → ℕ → Type 0
DoesSave None before after answer = (answer ≡ number_of Empty) × (after ≡ before)
DoesSave (Some p) before after answer = (code : Code) × (answer ≡ number_of code) × Saves (state_in p) before after code

-- how many bytes the image of a setup's board has, or why there is no setup
abbrev pub DoesImageSize : EnvySetup → ℕ → ℕ → Code → Type 0
DoesImageSize given before after code =
    ((code ≡ Done) × (setup : OfSetup) × (setup_of given ≡ Some setup) × (setup_checked setup ≡ Ok tt) × (after ≡ image_size setup.shape))
    ⊎ (IsNoSetup given code × (after ≡ before))

abbrev pub with_shape : Shape → EnvySetup → EnvySetup
with_shape sh s = record s {
  segments = sh.segments;
  rows = sh.rows;
  pages = sh.pages;
  shadows = sh.shadows;
  frames = sh.frames;
  entries = sh.entries;
  reserves = sh.reserves;
  sums = sh.sums;
}

-- the shape that the head of an image names goes into a setup
abbrev pub ReadsShape : List ℕ → EnvySetup → EnvySetup → Code → Type 0
ReadsShape bytes before after Done = (sh : Shape) × (rest : List ℕ) × HasHead bytes sh rest × (checked sh ≡ Ok tt) × (after ≡ with_shape sh before)
ReadsShape bytes before after code = NoHead bytes code × (after ≡ before)

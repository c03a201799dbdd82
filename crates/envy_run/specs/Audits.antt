-- The words `audit` and `map`: the verdict on the image that the source begins with, and its segments.
use Rattle.std.specs.Prelude.{◌≡◌, ℕ, ◌*◌, ◌≤◌, ⊤, List, [], ◌∷◌, ◌++◌, length, None, Some, IfSome, codes}
use Rattle.envy_audit.specs.Judging.{Judges}
use Rattle.envy_audit.specs.declared.verdict.Rule.{Rule}
use Rattle.envy_audit.specs.declared.verdict.Rule.TheVariants.{A, B, C, D, E, F, G, H, I, J, K, L, M}
use Rattle.envy_audit.specs.declared.verdict.Verdict.{Verdict}
use Rattle.envy_audit.specs.declared.verdict.Verdict.TheVariants.{Sound, Unformatted, Broken}
use Rattle.envy_base.specs.State.{State}
use Rattle.envy_base.specs.declared.shape.Shape.{Shape}
use Rattle.envy_image.specs.Image.{image_of}
use Rattle.envy_io.specs.Lines.{newline}
use Rattle.envy_io.specs.Streams.{with_front}
use Rattle.envy_map.specs.Fields.{Chart, chart}
use Rattle.envy_image.specs.Segments.{TellsSegments}
use Rattle.envy_serve.specs.Streams.{Streams}
use Rattle.envy_run.specs.Loading.{IsInstalled, IsTooLarge, IsUnharmed, IsWithin, RefusesImage}
use Rattle.envy_run.specs.Meaning.{Meaning}
use Rattle.envy_run.specs.Outcome.{Outcome}
use Rattle.envy_run.specs.Writing.{WritesTrace}
use Rattle.envy_run.specs.declared.image_input.Refusal.{Refusal}

abbrev pub letter_of : Rule → List ℕ
letter_of A = codes "a"
letter_of B = codes "b"
letter_of C = codes "c"
letter_of D = codes "d"
letter_of E = codes "e"
letter_of F = codes "f"
letter_of G = codes "g"
letter_of H = codes "h"
letter_of I = codes "i"
letter_of J = codes "j"
letter_of K = codes "k"
letter_of L = codes "l"
letter_of M = codes "m"

-- what is written of a verdict
abbrev pub verdict_text : Verdict → List ℕ
verdict_text Sound = codes "sound"
verdict_text Unformatted = codes "unformatted"
verdict_text (Broken rule) = codes "unsound " ++ letter_of rule

abbrev pub verdict_line : Verdict → List ℕ
verdict_line verdict = verdict_text verdict ++ newline ∷ []

-- how often power of the board returns
abbrev pub audit_lives : ℕ
audit_lives = 4294967295

-- what `audit` writes of a board with this verdict
abbrev pub IsVerdict : Verdict → Chart → List ℕ → Type 0
IsVerdict verdict c text = text ≡ verdict_line verdict

-- what `map` writes: its segments, or the verdict where it isn't sound
abbrev pub IsMap : Verdict → Chart → List ℕ → Type 0
IsMap Sound c text = TellsSegments c text
IsMap Unformatted c text = text ≡ verdict_line Unformatted
IsMap (Broken rule) c text = text ≡ verdict_line (Broken rule)

-- what was found: a board that holds the image, the verdict on it and what is written of it; why there is no such board, and
-- the bytes that were taken; or a shape of too many rows
pub data Judging : Type 0 where
  Judged : (found : State) (verdict : Verdict) (text : List ℕ) → Judging
  Refused : (refusal : Refusal) (bytes : List ℕ) → Judging
  TooLarge : (sh : Shape) → Judging

-- The bytes taken are the image of the board, and what is to be said of it is written; no line is read.
pub record IsJudged (most : ℕ) (Says : Verdict → Chart → List ℕ → Type 0) (found : State) (verdict : Verdict) (text : List ℕ) (o : Outcome) (io : Streams) : Type 0 where
  pub source : io.from.left ≡ with_front (image_of found) io.feed.left
  pub taken : o.taken ≡ length (image_of found)
  pub lines : o.lines ≡ 0
  pub few : found.shape.segments * found.shape.rows ≤ most
  pub judges : Judges verdict (chart found)
  pub says : Says verdict (chart found) text
  pub writes : WritesTrace text o io.to io.sink

-- that board is handed back as installing left it
pub record IsLeftInstalled (returns : ℕ) (found : State) (o : Outcome) : Type 0 where
  pub installed : IsInstalled found.shape returns found
  pub board : o.board ≡ Some (chart found)
  pub state : o.state ≡ Some found

abbrev pub Tells : ℕ → (Verdict → Chart → List ℕ → Type 0) → Judging → Outcome → Streams → Type 0
Tells most Says (Judged found verdict text) o io = IsJudged most Says found verdict text o io
Tells most Says (Refused refusal bytes) o io = RefusesImage refusal bytes o io × IsWithin most bytes
Tells most Says (TooLarge sh) o io = IsTooLarge most sh o io

abbrev pub IsLeftBy : Judging → Outcome → Type 0
IsLeftBy (Judged found verdict text) o = IsLeftInstalled audit_lives found o
IsLeftBy (Refused refusal bytes) o = IfSome o.board (IsUnharmed audit_lives)
IsLeftBy (TooLarge sh) o = o.board ≡ None

-- the words `audit` and `map`, of images of at most so many rows
abbrev pub judging : ℕ → (Verdict → Chart → List ℕ → Type 0) → Meaning
judging most Says = record {
  Account = Judging;
  Printed = Tells most Says;
  Board = IsLeftBy;
  Licences = λ account o. ⊤;
}

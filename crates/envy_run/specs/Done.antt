-- What the lines of a trace lead to, and when a board is left so.
use Rattle.std.specs.Prelude.{◌≡◌, ℕ, false, List, [], ◌∷◌, Some}
use Rattle.envy_base.specs.Shape.{version_of}
use Rattle.envy_array.specs.Array.{Array}
use Rattle.envy_map.specs.Codes.{the_magic}
use Rattle.envy_map.specs.Fields.{Chart}
use Rattle.envy_soundness.specs.Sound.{IsSound}
use Rattle.envy_soundness.specs.Words.{durable}
use Rattle.envy_serve.specs.Turns.{Leads}
use Rattle.envy_run.specs.Hits.{MayTell}
use Rattle.envy_run.specs.Outcome.{Outcome}
use Rattle.envy_run.specs.Turns.{TraceTurn, Does, FailsIn, before_restart}

-- lines with their replies, the newest first, lead from one array to another
abbrev pub Run : ℕ → Array → List TraceTurn → Array → Type 0
Run entries first turns m = Leads (λ earlier. Does (MayTell entries earlier)) first turns m

-- power failed in the last line and didn't return, and a restart would find that line done or not done
pub record DiesIn (entries : ℕ) (first : Array) (turn : TraceTurn) (earlier : List TraceTurn) (left : Array) : Type 0 where
  pub array : Array
  pub run : Run entries first earlier array
  pub replies : turn.replies ≡ before_restart turn.line
  pub fails : FailsIn array turn.line left

abbrev pub Dies : ℕ → Array → List TraceTurn → Array → Type 0
Dies entries first [] left = ⊥
Dies entries first (turn ∷ earlier) left = DiesIn entries first turn earlier left

-- The board is off for good. It is formatted and sound, and a restart would find these words.
pub record HoldsOff (words : List ℕ) (now : Chart) : Type 0 where
  pub found : durable now ≡ words
  pub magic : now.fields.magic ≡ the_magic
  pub version : now.fields.version ≡ version_of now.shape
  pub sound : IsSound now
  pub off : now.on ≡ false
  pub dead : now.lives ≡ 0

-- the board exists, and this is said of it
abbrev pub OnBoard : (Chart → Type 0) → Outcome → Type 0
OnBoard Is o = (now : Chart) × (o.board ≡ Some now) × Is now

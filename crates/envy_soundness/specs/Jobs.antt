-- What soundness asks of a map whose job or whose positions have changed.
use Rattle.std.specs.Prelude.{◌≡◌, ◌≢◌, ℕ, ◌*◌, ◌/◌, ◌<◌, List, [], slice_index, slice_index_or}
use Rattle.envy_base.specs.State.{ones}
use Rattle.envy_base.specs.declared.shape.Shape.{Shape}
use Rattle.envy_map.specs.Fields.{Fields}
use Rattle.envy_soundness.specs.Sound.{Numbers, Blanks, Homes, Jobs, Copies, Names, IsPlaced, IsSpare}

-- the groups that read the job
pub record FitsJob (sh : Shape) (f : Fields) (flash : List (List ℕ)) : Type 0 where
  pub blanks : Blanks sh f.job f.fills f.positions flash
  pub homes : Homes sh f.job f.positions f.slots f.undos f.places
  pub job : Jobs sh f.job f.positions f.slots f.undos f.places f.fills f.backs f.origins flash

-- the groups that read positions
pub record FitsPositions (sh : Shape) (f : Fields) (flash : List (List ℕ)) : Type 0 where
  pub numbers : Numbers sh f.wears f.fills f.positions f.backs f.origins f.frames
  pub jobs : FitsJob sh f flash

-- no kept row lies in the segment
abbrev pub IsClear : Shape → Fields → ℕ → Type 0
IsClear sh f s = (p q : ℕ) → Names f p q → q / sh.rows ≢ s

-- each kept row lies at a position, and none in the spare
abbrev pub AreHome : Shape → Fields → Type 0
AreHome sh f = (p q : ℕ) → Names f p q → IsPlaced sh f.positions (q / sh.rows)

-- the spare, whichever it is, holds a copy of each kept row of segment v
abbrev pub IsCopiedWhole : Shape → Fields → List (List ℕ) → ℕ → Type 0
IsCopiedWhole sh f flash v = (e : ℕ) → IsSpare sh f.positions e → Copies sh f.slots f.undos f.places f.fills f.backs f.origins flash v e

-- the spare is e, all its rows are ones, and none is claimed
pub record IsBlankSpare (sh : Shape) (f : Fields) (flash : List (List ℕ)) (e : ℕ) : Type 0 where
  pub spare : IsSpare sh f.positions e
  pub fill : slice_index f.fills e ≡ 0
  pub rows : (q : ℕ) → q < sh.segments * sh.rows → q / sh.rows ≡ e → slice_index_or flash q [] ≡ ones

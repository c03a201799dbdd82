-- What is asked of any board: its counts of failures may rise by more than its answers tell, as those of a board that
-- tries a failed operation again, or whose operation was bad when power cut it.
use Rattle.std.specs.Prelude.{◌≡◌, ◌⊎◌, ℕ, ◌≤◌, false, IsTrue, List, slice_index, None, Result, Ok, Err}
use Rattle.envy_base.specs.declared.board.Off.{Off}
use Rattle.envy_base.specs.declared.board.Trouble.{Trouble}
use Rattle.envy_base.specs.declared.board.Trouble.TheVariants.{Off as TroubleOff, Bad}
use Rattle.envy_base.specs.declared.shape.Shape.{Shape}
use Rattle.envy_base.specs.State.{State, IsPage, IsOnes, Only, ands, row_of, with_word, with_row, with_segment}
use Rattle.envy_base.specs.Counting.{Rose}

-- the board with c failures of power and b bad operations counted
abbrev pub with_failures : State → ℕ → ℕ → State
with_failures s c b = record s { cuts = c; bads = b }

-- the board with power off
abbrev pub dark : State → State
dark s = record s { on = false }

-- a `put` of v into word w raises no count but that of power's failures
abbrev pub AnyPuts : State → ℕ → ℕ → Result Unit Off → State → Type 0
AnyPuts old w v (Ok done) new = IsTrue old.on × (c : ℕ) × (old.cuts ≤ c) × (new ≡ with_failures (with_word old w v) c old.bads)
AnyPuts old w v (Err off) new = ((old.on ≡ false) × (new ≡ old))
    ⊎ (IsTrue old.on × (c : ℕ) × Rose old.cuts c × (old.cuts ≤ c)
    × ((new ≡ dark (with_failures old c old.bads)) ⊎ (new ≡ dark (with_failures (with_word old w v) c old.bads))))

-- a `program` of row q with the page x
abbrev pub AnyPrograms : State → ℕ → List ℕ → Result Unit Trouble → State → Type 0
AnyPrograms old q x (Ok done) new = IsTrue old.on × (c b : ℕ) × (old.cuts ≤ c) × (old.bads ≤ b)
    × (new ≡ with_failures (with_row old q (ands (row_of old q) x)) c b)
AnyPrograms old q x (Err TroubleOff) new = ((old.on ≡ false) × (new ≡ old))
    ⊎ (IsTrue old.on × (c b : ℕ) × Rose old.cuts c × (old.cuts ≤ c) × (old.bads ≤ b)
    × (xs : List ℕ) × IsPage xs × (new ≡ dark (with_failures (with_row old q xs) c b)))
AnyPrograms old q x (Err Bad) new = IsTrue old.on × (c b : ℕ) × (old.cuts ≤ c) × Rose old.bads b × (old.bads ≤ b)
    × (xs : List ℕ) × IsPage xs × (new ≡ with_failures (with_row old q xs) c b)

-- an `erase` of segment e
abbrev pub AnyErases : State → ℕ → Result Unit Trouble → State → Type 0
AnyErases old e (Ok done) new = IsTrue old.on × (c b : ℕ) × (old.cuts ≤ c) × (old.bads ≤ b)
    × (rows : List (List ℕ)) × Only old.shape.rows e IsOnes old.flash rows × (new ≡ with_failures (with_segment old e rows) c b)
AnyErases old e (Err TroubleOff) new = ((old.on ≡ false) × (new ≡ old))
    ⊎ (IsTrue old.on × (c b : ℕ) × Rose old.cuts c × (old.cuts ≤ c) × (old.bads ≤ b)
    × (rows : List (List ℕ)) × Only old.shape.rows e IsPage old.flash rows × (new ≡ dark (with_failures (with_segment old e rows) c b)))
AnyErases old e (Err Bad) new = IsTrue old.on × (c b : ℕ) × (old.cuts ≤ c) × Rose old.bads b × (old.bads ≤ b)
    × (rows : List (List ℕ)) × Only old.shape.rows e IsPage old.flash rows × (new ≡ with_failures (with_segment old e rows) c b)

-- a new board of this shape, whose power can return so often; it may have counted failures already
pub record IsAnyMade (sh : Shape) (returns : ℕ) (s : State) : Type 0 where
  pub shape : s.shape ≡ sh
  pub on : IsTrue s.on
  pub lives : s.lives ≡ returns
  pub given : s.given ≡ returns
  pub begun : s.begun ≡ 0
  pub erases : (e : ℕ) → slice_index s.erases e ≡ 0
  pub pulled : s.pulled ≡ 0
  pub plans : s.plans ≡ 0
  pub last_plan : s.last_plan ≡ None

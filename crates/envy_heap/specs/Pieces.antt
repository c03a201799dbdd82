-- Pieces of 64 words, some of them handed out.
use Rattle.std.specs.Prelude.{◌≡◌, ◌≢◌, ℕ, ◌+◌, ◌-◌, ◌*◌, ◌/◌, ◌<◌, ◌≤◌, ◌==◌, nat_lt, Bool, List, [], ◌∷◌, length, slice_index, if◌then◌else◌, Result, Ok, Err, Option, Some, None}
use Rattle.std.specs.List.{sum_by}
use Rattle.envy_base.specs.declared.board.Trouble.{Trouble}
use Rattle.envy_base.specs.declared.board.Trouble.TheVariants.{Off as TroubleOff, Bad}

-- how many pieces there are
abbrev pub pieces : List ℕ → ℕ
pieces ws = (length ws - 64) / 64

-- the addresses of the first word of a piece, and of word i
abbrev pub head : ℕ → ℕ
head p = 64 + 64 * p

abbrev pub at : ℕ → ℕ → ℕ
at p i = head p + i

abbrev pub one : Bool → ℕ
one b = if b then 1 else 0

-- how often p is in the list
abbrev pub times : List ℕ → ℕ → ℕ
times ps p = sum_by (λ q. one (p == q)) ps

-- the pieces from this link on, each by the first word of the one before it
abbrev pub Chain : List ℕ → ℕ → List ℕ → Type 0
Chain ws link [] = link ≡ 0
Chain ws link (p ∷ ps) = (link ≡ p + 1) × Chain ws (slice_index ws (head p)) ps

-- The words are a heap with these pieces free.
pub record IsHeap (ws : List ℕ) (free : List ℕ) : Type 0 where
  pub size : 640 ≤ length ws
  pub used : slice_index ws 2 ≤ pieces ws
  pub chain : Chain ws (slice_index ws 1) free
  pub once : (p : ℕ) → times free p ≤ one (nat_lt p (slice_index ws 2))

-- how often p is handed out: once or not at all
abbrev pub handed : List ℕ → List ℕ → ℕ → ℕ
handed ws free p = one (nat_lt p (slice_index ws 2)) - times free p

-- how many pieces aren't handed out
abbrev pub spare : List ℕ → List ℕ → ℕ
spare ws free = (pieces ws - slice_index ws 2) + length free

-- The words differ at most in words 1 and 2, and in the first word of this piece.
pub record Touches (p : ℕ) (old new : List ℕ) : Type 0 where
  pub long : length new ≡ length old
  pub others : (a : ℕ) → a ≢ 1 → a ≢ 2 → a ≢ head p → slice_index new a ≡ slice_index old a

-- p is handed out more than before, and no other piece changes hands
pub record Takes (p : ℕ) (old new : List ℕ) (free rest : List ℕ) : Type 0 where
  pub heap : IsHeap new rest
  pub below : p < pieces old
  pub was : handed old free p ≡ 0
  pub now : (q : ℕ) → handed new rest q ≡ handed old free q + one (q == p)
  pub spares : spare new rest + 1 ≡ spare old free
  pub touches : Touches p old new

-- all pieces are handed out
abbrev pub IsExhausted : List ℕ → List ℕ → Type 0
IsExhausted ws free = (p : ℕ) → p < pieces ws → handed ws free p ≡ 1

-- what `take` leaves, but for a failure of power
abbrev pub TakesAs : List ℕ → List ℕ → Result (Option ℕ) Trouble → List ℕ → Type 0
TakesAs old free (Ok (Some p)) new = (rest : List ℕ) × Takes p old new free rest
TakesAs old free (Ok None) new = IsExhausted old free × (new ≡ old)
TakesAs old free (Err TroubleOff) new = Unit {0}
TakesAs old free (Err Bad) new = new ≡ old

-- p is free, and no other piece changes hands
pub record Freed (p : ℕ) (old new : List ℕ) (free : List ℕ) : Type 0 where
  pub heap : IsHeap new (p ∷ free)
  pub now : (q : ℕ) → handed new (p ∷ free) q + one (q == p) ≡ handed old free q
  pub spares : spare new (p ∷ free) ≡ spare old free + 1
  pub touches : Touches p old new

-- what `give` leaves, but for a failure of power
abbrev pub Gives : ℕ → List ℕ → List ℕ → Result Unit Trouble → List ℕ → Type 0
Gives p old free (Ok done) new = Freed p old new free
Gives p old free (Err TroubleOff) new = Unit {0}
Gives p old free (Err Bad) new = Touches p old new

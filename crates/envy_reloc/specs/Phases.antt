-- What each phase of a relocation does.
use Rattle.std.specs.Prelude.{◌≡◌, ◌≢◌, ◌⊎◌, ℕ, ◌+◌, ◌-◌, ◌*◌, ◌/◌, ◌^◌, ◌<◌, ◌≤◌, List, [], ◌∷◌, ◌++◌, All, Option, None, Some, slice_index, slice_index_or, sum}
use Rattle.envy_base.specs.Counting.{up, Tally}
use Rattle.envy_base.specs.State.{Only, IsOnes}
use Rattle.envy_base.specs.declared.shape.Shape.{Shape}
use Rattle.envy_base.specs.declared.fields.Job.TheVariants.{Idle, Copy, Switch, Erase}
use Rattle.envy_map.specs.Fields.{Fields, Chart, with_fields}
use Rattle.envy_map.specs.Writes.{with_back, with_fill, with_job, with_origin, with_position, with_wear}
use Rattle.envy_soundness.specs.Naming.{IsNamed, with_named}
use Rattle.envy_soundness.specs.Same.{Same}
use Rattle.envy_soundness.specs.Sound.{IsSpare, IsKept}
use Rattle.envy_reloc.specs.Plan.{Plan}
use Rattle.envy_reloc.specs.Rows.{IsLowestLeft, AreAllCopied, HasRoom, IsLowestRoom}
use Rattle.envy_reloc.specs.Switching.{SwitchesAll}
use Rattle.envy_reloc.specs.declared.row_move.Move.{Move}
use Rattle.envy_reloc.specs.declared.step.Phase.{Phase}
use Rattle.envy_reloc.specs.declared.step.Phase.TheVariants.{Moved, Copied, Switched, Placed, Erased}
use Rattle.envy_base.specs.Shape.{positions_of}
use Rattle.envy_space.specs.Retiring.{LowestFresh}

-- one program or one erase at most has begun
abbrev pub SameOnce : Chart → Chart → Type 0
SameOnce old new = Same 1 0 old new ⊎ Same 0 1 old new

-- the moves that stay begin with row q: those before it aren't kept any more, and those after it are more
pub record IsFirstMove (f : Fields) (moves : List ℕ) (q : ℕ) (more : List ℕ) : Type 0 where
  pub dropped : List ℕ
  pub is : moves ≡ dropped ++ q ∷ more
  pub dead : All (λ r. IsKept f r → ⊥) dropped
  pub kept : IsKept f q

-- no move stays: none is kept, or the neighbour has no room
abbrev pub HasNoMove : Shape → Fields → ℕ → Plan → Type 0
HasNoMove sh f v plan =
    All (λ r. IsKept f r → ⊥) plan.moves
    ⊎ ((plan.aside ≡ None) ⊎ ((first last : ℕ) × (plan.aside ≡ Some (first, last)) × ((j : ℕ) → first ≤ j → j ≤ last → HasRoom sh f.fills f.positions v j → ⊥)))

-- page p names row r, which was claimed for it in segment s
abbrev pub moved_to : Shape → ℕ → ℕ → ℕ → Option ℕ → Fields → Fields
moved_to sh s p r u f = with_named p r u (with_fill s (slice_index f.fills s + 1) (with_back r p f))

-- the row goes to the first free row of segment s
pub record MovesRow (old : Chart) (s : ℕ) (next : Move) (new : Chart) : Type 0 where
  pub named : IsNamed old.fields next.kept.page next.row next.kept.undo
  pub fields : new.fields ≡ moved_to old.shape s next.kept.page (s * old.shape.rows + slice_index old.fields.fills s) next.kept.undo old.fields
  pub copy : slice_index_or new.flash (s * old.shape.rows + slice_index old.fields.fills s) [] ≡ slice_index_or old.flash next.row []
  pub others : (r : ℕ) → r ≢ s * old.shape.rows + slice_index old.fields.fills s → slice_index_or new.flash r [] ≡ slice_index_or old.flash r []

-- a row of segment s was claimed for page p and its program was bad, so it holds anything, and the spare is
-- to be erased
pub record SpoilsTarget (old : Chart) (s p : ℕ) (new : Chart) : Type 0 where
  pub fields : new.fields ≡ with_job (Some Erase) (with_fill s (slice_index old.fields.fills s + 1) (with_back (s * old.shape.rows + slice_index old.fields.fills s) p old.fields))
  pub others : (r : ℕ) → r ≢ s * old.shape.rows + slice_index old.fields.fills s → slice_index_or new.flash r [] ≡ slice_index_or old.flash r []

-- the first move that stays goes to the lowest position of the neighbour that has room
pub record MovesOne (old : Chart) (plan : Plan) (new : Chart) (then_plan : Plan) : Type 0 where
  pub v : ℕ
  pub copying : old.fields.job ≡ Some (Copy v)
  pub next : Move
  pub first_move : IsFirstMove old.fields plan.moves next.row then_plan.moves
  pub segment : next.row / old.shape.rows ≡ v
  pub first : ℕ
  pub last : ℕ
  pub aside : plan.aside ≡ Some (first, last)
  pub lowest : IsLowestRoom old.shape old.fields.fills old.fields.positions v first last next.position
  pub moved : MovesRow old (slice_index old.fields.positions next.position) next new
  pub plan_is : then_plan ≡ record plan { moves = then_plan.moves; moved = up plan.moved }

-- row q is copied to the spare e, whose first free row is i
abbrev pub copied_to : Shape → ℕ → ℕ → ℕ → Fields → Fields
copied_to sh e i q f = with_fill e (i + 1) (with_back (e * sh.rows + i) (slice_index f.backs q) (with_origin i q f))

pub record CopiesLeft (old : Chart) (e q : ℕ) (new : Chart) : Type 0 where
  pub fields : new.fields ≡ copied_to old.shape e (slice_index old.fields.fills e) q old.fields
  pub copy : slice_index_or new.flash (e * old.shape.rows + slice_index old.fields.fills e) [] ≡ slice_index_or old.flash q []
  pub others : (r : ℕ) → r ≢ e * old.shape.rows + slice_index old.fields.fills e → slice_index_or new.flash r [] ≡ slice_index_or old.flash r []

-- the copy's program was bad: its row was claimed, holds anything, and the spare is to be erased
pub record SpoilsRow (old : Chart) (e q : ℕ) (new : Chart) : Type 0 where
  pub fields : new.fields ≡ with_job (Some Erase) (copied_to old.shape e (slice_index old.fields.fills e) q old.fields)
  pub others : (r : ℕ) → r ≢ e * old.shape.rows + slice_index old.fields.fills e → slice_index_or new.flash r [] ≡ slice_index_or old.flash r []

-- the lowest row of the segment that is kept and has no copy is copied to the spare
pub record CopiesOne (old : Chart) (plan : Plan) (new : Chart) (then_plan : Plan) : Type 0 where
  pub v : ℕ
  pub copying : old.fields.job ≡ Some (Copy v)
  pub no_move : HasNoMove old.shape old.fields v plan
  pub e : ℕ
  pub spare : IsSpare old.shape old.fields.positions e
  pub q : ℕ
  pub lowest : IsLowestLeft old.shape old.fields v (slice_index old.fields.fills e) q
  pub copied : CopiesLeft old e q new
  pub plan_is : then_plan ≡ record plan { moves = []; mark = q + 1; copied = up plan.copied }

-- every kept row of the segment has its copy, so each reference to one becomes one to the copy
pub record SwitchesSegment (old : Chart) (plan : Plan) (new : Chart) (then_plan : Plan) : Type 0 where
  pub v : ℕ
  pub copying : old.fields.job ≡ Some (Copy v)
  pub no_move : HasNoMove old.shape old.fields v plan
  pub e : ℕ
  pub spare : IsSpare old.shape old.fields.positions e
  pub copied : AreAllCopied old.shape old.fields v (slice_index old.fields.fills e)
  pub switches : SwitchesAll old.shape v e old.fields new.fields
  pub flash : new.flash ≡ old.flash
  pub plan_is : then_plan ≡ record plan { moves = [] }

-- the spare stands at the position of the segment that was switched, and is to be erased
pub record PlacesSpare (old : Chart) (plan : Plan) (new : Chart) (then_plan : Plan) : Type 0 where
  pub v : ℕ
  pub switching : old.fields.job ≡ Some (Switch v)
  pub k : ℕ
  pub position : k < positions_of old.shape
  pub here : slice_index old.fields.positions k ≡ v
  pub e : ℕ
  pub spare : IsSpare old.shape old.fields.positions e
  pub is : new ≡ with_fields old (with_job (Some Erase) (with_position k e old.fields))
  pub plan_is : then_plan ≡ plan

-- the spare e, worn once more, is erased and empty, and nothing runs
pub record Empties (old : Chart) (e : ℕ) (new : Chart) : Type 0 where
  pub fields : new.fields ≡ with_job (Some Idle) (with_fill e 0 (with_wear e (up (slice_index old.fields.wears e)) old.fields))
  pub erased_rows : Only old.shape.rows e IsOnes old.flash new.flash

-- The erase of the spare e was bad: worn once more and with no free row, it is retired to the lowest fresh position in
-- reserve. The segment that stood there is the spare, and nothing runs.
pub record Retires (old : Chart) (e : ℕ) (new : Chart) : Type 0 where
  pub k : ℕ
  pub fresh : LowestFresh old.shape old.fields.fills old.fields.positions (Some k)
  pub fields : new.fields ≡ with_job (Some Idle) (with_position k e (with_fill e old.shape.rows (with_wear e (up (slice_index old.fields.wears e)) old.fields)))
  pub others : (r : ℕ) → r / old.shape.rows ≢ e → slice_index_or new.flash r [] ≡ slice_index_or old.flash r []
  pub bad : new.bads ≡ up old.bads

-- the spare is erased, or retired where it can't be
pub record ErasesSpare (old : Chart) (plan : Plan) (new : Chart) (then_plan : Plan) : Type 0 where
  pub erasing : old.fields.job ≡ Some Erase
  pub e : ℕ
  pub spare : IsSpare old.shape old.fields.positions e
  pub ends : Empties old e new ⊎ Retires old e new
  pub plan_is : then_plan ≡ record plan { erased = up plan.erased; since = up plan.since }

-- what a step does, by the phase that it answers
abbrev pub Does : Chart → Plan → Phase → Chart → Plan → Type 0
Does old plan Moved new then_plan = MovesOne old plan new then_plan
Does old plan Copied new then_plan = CopiesOne old plan new then_plan
Does old plan Switched new then_plan = SwitchesSegment old plan new then_plan
Does old plan Placed new then_plan = PlacesSpare old plan new then_plan
Does old plan Erased new then_plan = ErasesSpare old plan new then_plan

-- what a phase counts
abbrev pub counted_by : Phase → Plan → Plan
counted_by Moved plan = record plan { moved = up plan.moved }
counted_by Copied plan = record plan { copied = up plan.copied }
counted_by Switched plan = plan
counted_by Placed plan = plan
counted_by Erased plan = record plan { erased = up plan.erased; since = up plan.since }

-- The program of a move was bad: its row is claimed and dead, the spare is to be erased, and no move is left.
pub record SpoilsMove (old : Chart) (plan : Plan) (new : Chart) (then_plan : Plan) : Type 0 where
  pub v : ℕ
  pub copying : old.fields.job ≡ Some (Copy v)
  pub next : Move
  pub more : List ℕ
  pub first_move : IsFirstMove old.fields plan.moves next.row more
  pub named : IsNamed old.fields next.kept.page next.row next.kept.undo
  pub first : ℕ
  pub last : ℕ
  pub aside : plan.aside ≡ Some (first, last)
  pub lowest : IsLowestRoom old.shape old.fields.fills old.fields.positions v first last next.position
  pub spoilt : SpoilsTarget old (slice_index old.fields.positions next.position) next.kept.page new
  pub plan_is : then_plan ≡ record plan { moves = []; moved = up plan.moved }

-- the program of a copy was bad: the spare is to be erased, and no move is left
pub record SpoilsCopy (old : Chart) (plan : Plan) (new : Chart) (then_plan : Plan) : Type 0 where
  pub v : ℕ
  pub copying : old.fields.job ≡ Some (Copy v)
  pub no_move : HasNoMove old.shape old.fields v plan
  pub e : ℕ
  pub spare : IsSpare old.shape old.fields.positions e
  pub q : ℕ
  pub lowest : IsLowestLeft old.shape old.fields v (slice_index old.fields.fills e) q
  pub spoilt : SpoilsRow old e q new
  pub plan_is : then_plan ≡ record plan { moves = []; copied = up plan.copied }

-- the erase was bad, and no position in reserve is fresh: the spare is worn once more, its rows hold anything, and it is
-- still to be erased
pub record SpoilsErase (old : Chart) (plan : Plan) (new : Chart) (then_plan : Plan) : Type 0 where
  pub erasing : old.fields.job ≡ Some Erase
  pub e : ℕ
  pub spare : IsSpare old.shape old.fields.positions e
  pub none : LowestFresh old.shape old.fields.fills old.fields.positions None
  pub fields : new.fields ≡ with_wear e (up (slice_index old.fields.wears e)) old.fields
  pub others : (r : ℕ) → r / old.shape.rows ≢ e → slice_index_or new.flash r [] ≡ slice_index_or old.flash r []
  pub plan_is : then_plan ≡ record plan { erased = up plan.erased; since = up plan.since }

-- what a step does whose program or erase was bad
abbrev pub Spoils : Chart → Plan → Chart → Plan → Type 0
Spoils old plan new then_plan = SpoilsMove old plan new then_plan ⊎ (SpoilsCopy old plan new then_plan ⊎ SpoilsErase old plan new then_plan)

-- copies and moves have counted the programs begun, and the erases begun were counted
pub record CountsBegun (old : Chart) (plan : Plan) (new : Chart) (then_plan : Plan) : Type 0 where
  pub copied : plan.copied ≤ then_plan.copied
  pub moved : plan.moved ≤ then_plan.moved
  pub programs : new.begun < 2 ^ 64 - 1 → then_plan.copied < 2 ^ 64 - 1 → then_plan.moved < 2 ^ 64 - 1 → new.begun + plan.copied + plan.moved ≡ old.begun + then_plan.copied + then_plan.moved
  pub erases : Tally (sum old.erases) plan.erased (sum new.erases) then_plan.erased
  pub since : Tally (sum old.erases) plan.since (sum new.erases) then_plan.since

-- a program is counted as a copy only where no move stays, and as a move only where one does
pub record CountsApart (old : Chart) (plan then_plan : Plan) : Type 0 where
  pub copies : then_plan.copied ≢ plan.copied → (v : ℕ) × (old.fields.job ≡ Some (Copy v)) × HasNoMove old.shape old.fields v plan
  pub moves : then_plan.moved ≢ plan.moved → (v : ℕ) × (old.fields.job ≡ Some (Copy v)) × (HasNoMove old.shape old.fields v plan → ⊥)

-- the first move that stays and the position that it goes to, or none where no move stays
abbrev pub NextMove : Shape → Fields → ℕ → Plan → Option Move → Plan → Type 0
NextMove sh f v plan (Some next) then_plan =
    IsFirstMove f plan.moves next.row then_plan.moves × (next.row / sh.rows ≡ v) × (next.kept.page < sh.pages) × (slice_index f.backs next.row ≡ next.kept.page) × IsNamed f next.kept.page next.row next.kept.undo
    × (first : ℕ) × (last : ℕ) × (plan.aside ≡ Some (first, last)) × IsLowestRoom sh f.fills f.positions v first last next.position
NextMove sh f v plan None then_plan = HasNoMove sh f v plan × (then_plan.moves ≡ [])

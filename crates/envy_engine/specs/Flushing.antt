-- What a flush does.
use Rattle.std.specs.Prelude.{◌≡◌, ◌≢◌, ◌⊎◌, ℕ, ◌+◌, ◌-◌, ◌*◌, ◌/◌, ◌%◌, ◌<◌, List, [], length, drop, Option, None, Some, slice_get, slice_index, slice_index_or, slice_set, Any, MatchOption}
use Rattle.std.specs.List.{filter}
use Rattle.envy_base.specs.Counting.{up}
use Rattle.envy_base.specs.State.{ones}
use Rattle.envy_base.specs.declared.fields.Job.TheVariants.{Idle}
use Rattle.envy_base.specs.declared.fields.Place.{Place}
use Rattle.envy_base.specs.declared.fields.Place.TheVariants.{Absent, Row, Frame}
use Rattle.envy_base.specs.declared.shape.Shape.{Shape}
use Rattle.envy_frames.specs.declared.held.Held.{Held}
use Rattle.envy_frames.specs.Order.{is_other}
use Rattle.envy_map.specs.Fields.{Fields, Chart, place}
use Rattle.envy_map.specs.Writes.{with_place}
use Rattle.envy_policy.specs.declared.choice.Choice.{Choice}
use Rattle.envy_policy.specs.declared.choice.Choice.TheVariants.{Free, Clean}
use Rattle.envy_policy.specs.History.{History, claimed, cleaned, partition_of}
use Rattle.envy_policy.specs.Lifetime.{IsBeside}
use Rattle.envy_policy.specs.Notes.{Notes}
use Rattle.envy_soundness.specs.Sound.{Names, IsPlaced, IsSpare}
use Rattle.envy_reloc.specs.Cleaning.{UsesSame}
use Rattle.envy_reloc.specs.Plan.{IsFreeOf}
use Rattle.envy_space.specs.Pool.{Pool, PoolAgrees, Claims as ClaimsIn}
use Rattle.envy_victims.specs.Choosing.{ChoiceFor, counts_in}
use Rattle.envy_engine.specs.Cleaning.{CleansAll, StopsClean}
use Rattle.envy_engine.specs.Leaving.{CountsBad}
use Rattle.envy_engine.specs.Steps.{Finishes, StopsStep}
use Rattle.envy_engine.specs.declared.parts.Parts.{Parts}
use Rattle.envy_base.specs.Shape.{positions_of}

-- row q was claimed for page p, no page names it, and it stays where it is until a page does
pub record Granted (sh : Shape) (f : Fields) (p q : ℕ) : Type 0 where
  pub range : q < sh.segments * sh.rows
  pub filled : q % sh.rows < slice_index f.fills (q / sh.rows)
  pub claimed : slice_index f.backs q ≡ p
  pub unnamed : (r : ℕ) → Names f r q → ⊥
  pub placed : IsPlaced sh f.positions (q / sh.rows)
  pub free : IsFreeOf f.job (q / sh.rows)

-- and it is erased
pub record IsFresh (c : Chart) (p q : ℕ) : Type 0 where
  pub granted : Granted c.shape c.fields p q
  pub erased : slice_index_or c.flash q [] ≡ ones

-- but for row q flash is as before, and so are the map and the erases
pub record ProgramsOnly (q : ℕ) (old new : Chart) : Type 0 where
  pub fields : new.fields ≡ old.fields
  pub others : (r : ℕ) → r ≢ q → slice_index_or new.flash r [] ≡ slice_index_or old.flash r []
  pub erases : new.erases ≡ old.erases

-- row q lies at position k, and is the last one claimed there
pub record IsLastAt (c : Chart) (k q : ℕ) : Type 0 where
  pub segment : q / c.shape.rows ≡ slice_index c.fields.positions k
  pub last : q % c.shape.rows + 1 ≡ slice_index c.fields.fills (slice_index c.fields.positions k)

-- position k has the spare of before, and each other position in use what it had
pub record HasSpare (old : Chart) (k : ℕ) (new : Chart) : Type 0 where
  pub spare : ℕ
  pub is_spare : IsSpare old.shape old.fields.positions spare
  pub positions : UsesSame old.shape new.fields.positions (slice_set old.fields.positions k spare)

-- Row q is claimed at position k for a page, which heats, turns and lives note, and nothing else is done.
abbrev pub Claims : ℕ → ℕ → ℕ → Chart → Parts → Chart → Parts → Type 0
Claims k page q old was new now =
    IsLastAt new k q
    × (new.fields.fills ≡ slice_set old.fields.fills (slice_index old.fields.positions k) (slice_index old.fields.fills (slice_index old.fields.positions k) + 1))
    × (new.fields.positions ≡ old.fields.positions) × (new.erases ≡ old.erases) × (now.chooser ≡ claimed was.chooser k page)

-- row q was claimed at position k for a page, which its fill and its back word say, and is fresh
pub record TakesFresh (k page q : ℕ) (old : Chart) (was : Parts) (new : Chart) (now : Parts) : Type 0 where
  pub changes : ClaimsIn old (slice_index was.space.positions k) page q new
  pub claims : Claims k page q old was new now
  pub fresh : IsFresh new page q

-- position k is cleaned, and then row q is claimed there
pub record ClaimsCleaned (k : ℕ) (aside : Option ℕ) (page q : ℕ) (old : Chart) (was : Parts) (new : Chart) (now : Parts) : Type 0 where
  pub mid : Chart
  pub between : Parts
  pub cleans : CleansAll k aside old was mid between
  pub claims : Claims k page q mid between new now

-- What a choice does, where nothing ran: `Free` claims row q at its position; `Clean` cleans its position, which
-- has the spare then, and claims row q there. Heats, turns and lives note it.
abbrev pub Follows : Choice → ℕ → ℕ → Chart → Parts → Chart → Parts → Type 0
Follows (Free k) page q old was new now = Claims k page q old was new now
Follows (Clean k aside) page q old was new now =
    IsLastAt new k q × HasSpare old k new × (now.reloc.erased ≡ up was.reloc.erased) × (now.chooser ≡ claimed (cleaned was.chooser k) k page)
    × ClaimsCleaned k aside page q old was new now

-- row q was claimed for a page with this home by the choice, where nothing ran
abbrev pub Chooses : ℕ → ℕ → ℕ → Chart → Parts → Chart → Parts → Type 0
Chooses home page q old was new now =
    old.fields.job ≡ Some Idle → was.stages ≡ [] → (choice : Choice) × ChoiceFor was.chooser was.space home page choice × Follows choice page q old was new now

-- the job and the stages are those of before, or nothing is left
abbrev pub Ends : Chart → Parts → Chart → Parts → Type 0
Ends old was new now =
    ((new.fields.job ≡ old.fields.job) ⊎ (new.fields.job ≡ Some Idle)) × ((now.stages ≡ was.stages) ⊎ (now.stages ≡ []))

-- position k was cleaned, and then row q was claimed there for a page, and is fresh
pub record CleansFor (k : ℕ) (aside : Option ℕ) (page q : ℕ) (old : Chart) (was : Parts) (new : Chart) (now : Parts) : Type 0 where
  pub fresh : IsFresh new page q
  pub follows : Follows (Clean k aside) page q old was new now
  pub ends : Ends old was new now

-- no job runs, and no stage of a swap is left
abbrev pub IsAtRest : Chart → Parts → Type 0
IsAtRest c x = (c.fields.job ≡ Some Idle) × (x.stages ≡ [])

-- a job runs, or a stage of a swap is left
abbrev pub IsBusy : Chart → Parts → Type 0
IsBusy c x = (c.fields.job ≢ Some Idle) ⊎ (0 < length x.stages)

-- position k lies in the partition of this home, and has a free row that the job leaves free
pub record IsAvailable (h : History) (home : ℕ) (c : Chart) (k : ℕ) : Type 0 where
  pub position : k < positions_of c.shape
  pub near : partition_of h k ≡ partition_of h home
  pub room : slice_index c.fields.fills (slice_index c.fields.positions k) < c.shape.rows
  pub free : IsFreeOf c.fields.job (slice_index c.fields.positions k)

abbrev pub IsNoneNear : History → ℕ → Chart → Type 0
IsNoneNear h home c = (k : ℕ) → IsAvailable h home c k → ⊥

pub record IsLowestNear (h : History) (home : ℕ) (c : Chart) (k : ℕ) : Type 0 where
  pub is : IsAvailable h home c k
  pub lowest : (j : ℕ) → j < k → IsAvailable h home c j → ⊥

-- the position whose rows the job takes away, or none
abbrev pub IsEmptied : Chart → Option ℕ → Type 0
IsEmptied c emptied = MatchOption emptied
    ((k : ℕ) → k < positions_of c.shape → IsFreeOf c.fields.job (slice_index c.fields.positions k))
    (λ k. (k < positions_of c.shape) × (IsFreeOf c.fields.job (slice_index c.fields.positions k) → ⊥))

-- where lives are noted, this is the position for the page beside the job
abbrev pub GoesBeside : Notes → Pool → ℕ → Chart → Option ℕ → Type 0
GoesBeside n pool page c found = (emptied : Option ℕ) × IsEmptied c emptied × IsBeside n (counts_in pool) emptied page found

-- beside a job there is no position for the page with this home, or k is it: the lowest of the home's partition,
-- or where lives are noted the one by them
abbrev pub IsNoneAvailable : Parts → ℕ → ℕ → Chart → Type 0
IsNoneAvailable x home page c = MatchOption x.chooser.lives (IsNoneNear x.chooser home c) (λ n. GoesBeside n x.space page c None)

abbrev pub IsLowestAvailable : Parts → ℕ → ℕ → Chart → ℕ → Type 0
IsLowestAvailable x home page c k = MatchOption x.chooser.lives (IsLowestNear x.chooser home c k) (λ n. GoesBeside n x.space page c (Some k))

-- Beside a job or a stage that is left row q was claimed at that position. Nothing else was done.
pub record ClaimsBeside (home page q : ℕ) (old : Chart) (was : Parts) (new : Chart) (now : Parts) : Type 0 where
  pub position : ℕ
  pub lowest : IsLowestAvailable was home page old position
  pub claims : Claims position page q old was new now
  pub job : new.fields.job ≡ old.fields.job
  pub stages : now.stages ≡ was.stages
  pub reloc : now.reloc ≡ was.reloc

-- there is no such position, so the job and the stages were finished, which heats, turns and lives don't note
pub record FinishesFirst (home page : ℕ) (old : Chart) (was : Parts) (new : Chart) (now : Parts) : Type 0 where
  pub none : IsNoneAvailable was home page old
  pub finishes : Finishes old was new now
  pub chooser : now.chooser ≡ was.chooser
  pub pool : PoolAgrees new.shape new.fields now.space

-- and then row q was claimed by the choice
pub record ClaimsAfter (home page q : ℕ) (old : Chart) (was : Parts) (new : Chart) (now : Parts) : Type 0 where
  pub mid : Chart
  pub between : Parts
  pub first : FinishesFirst home page old was mid between
  pub choice : Choice
  pub chosen : ChoiceFor between.chooser between.space home page choice
  pub follows : Follows choice page q mid between new now

-- a row was claimed for a page, by the choice where nothing ran
pub record GetsRow (home page q : ℕ) (old : Chart) (was : Parts) (new : Chart) (now : Parts) : Type 0 where
  pub chooses : Chooses home page q old was new now
  pub busy : IsBusy old was → ClaimsBeside home page q old was new now ⊎ ClaimsAfter home page q old was new now
  pub ends : Ends old was new now

-- and that row is fresh
pub record GetsFresh (home page q : ℕ) (old : Chart) (was : Parts) (new : Chart) (now : Parts) : Type 0 where
  pub fresh : IsFresh new page q
  pub gets : GetsRow home page q old was new now

-- page p went from frame k, which is free again, to row q
pub record MovesOut (p k q : ℕ) (old : Chart) (was : Parts) (new : Chart) (now : Parts) : Type 0 where
  pub fields : new.fields ≡ with_place p (Some (Row q)) old.fields
  pub erases : new.erases ≡ old.erases
  pub held : now.frames.held ≡ filter (is_other k) was.frames.held

-- the program of its row was bad: the page is held as before
pub record StopsMove (old : Chart) (was : Parts) (new : Chart) (now : Parts) : Type 0 where
  pub fields : new.fields ≡ old.fields
  pub erases : new.erases ≡ old.erases
  pub frames : now.frames ≡ was.frames
  pub bads : new.bads ≡ up old.bads

-- the oldest held page was programmed into a row that was claimed for it and stands there, and its frame is free
pub record FlushesOldest (old : Chart) (was : Parts) (new : Chart) (now : Parts) : Type 0 where
  pub oldest : Held
  pub first : slice_get was.frames.held 0 ≡ Some oldest
  pub row : ℕ
  pub gets : GetsRow oldest.home oldest.page row old was new now
  pub here : place new.fields oldest.page ≡ Some (Row row)
  pub held : now.frames.held ≡ drop 1 was.frames.held
  pub flushes : now.flushes ≡ up was.flushes

-- where no frame is free the oldest held page is flushed, else nothing is done
abbrev pub MakesRoom : Chart → Parts → Chart → Parts → Type 0
MakesRoom old was new now =
    ((length was.frames.held < was.frames.count) × (new ≡ old) × (now ≡ was))
    ⊎ ((length was.frames.held ≡ was.frames.count) × FlushesOldest old was new now)

-- What a try that a bad operation ended has noted, where nothing ran: the position of a row that was claimed and
-- the page, and a cleaning that began.
abbrev pub NotesBad : Choice → ℕ → Parts → Parts → Type 0
NotesBad (Free k) page was now = now.chooser ≡ claimed was.chooser k page
NotesBad (Clean k aside) page was now = (now.chooser ≡ cleaned was.chooser k) ⊎ (now.chooser ≡ claimed (cleaned was.chooser k) k page)

abbrev pub ChoosesBad : ℕ → ℕ → Chart → Parts → Parts → Type 0
ChoosesBad home page old was now =
    old.fields.job ≡ Some Idle → was.stages ≡ [] → (choice : Choice) × ChoiceFor was.chooser was.space home page choice × NotesBad choice page was now

-- the page that a flash operation is made for, and its home: a page in a frame itself, else the oldest held page
abbrev pub IsProgrammed : ℕ → Option Place → List Held → ℕ → ℕ → Type 0
IsProgrammed p (Some (Frame k)) held home page = Any (λ h. (h.frame ≡ k) × (h.home ≡ home)) held × (page ≡ p)
IsProgrammed p (Some (Row q)) held home page = (h : Held) × (slice_get held 0 ≡ Some h) × (h.home ≡ home) × (h.page ≡ page)
IsProgrammed p (Some Absent) held home page = (h : Held) × (slice_get held 0 ≡ Some h) × (h.home ≡ home) × (h.page ≡ page)
IsProgrammed p None held home page = ⊥

-- nothing ran, or the job and the stages were finished
abbrev pub Settles : ℕ → ℕ → Chart → Parts → Chart → Parts → Type 0
Settles home page old was new now =
    ((old.fields.job ≡ Some Idle) × (was.stages ≡ []) × (new ≡ old) × (now ≡ was))
    ⊎ (IsBusy old was × FinishesFirst home page old was new now)

-- the choice was a cleaning, and a step of it was bad
pub record StopsChosen (home page : ℕ) (old : Chart) (was : Parts) (new : Chart) (now : Parts) : Type 0 where
  pub mid : Chart
  pub between : Parts
  pub settles : Settles home page old was mid between
  pub position : ℕ
  pub aside : Option ℕ
  pub chosen : ChoiceFor between.chooser between.space home page (Clean position aside)
  pub stops : StopsClean position aside mid between new now

-- no row was claimed: a step of the job that ran, of a stage that was left or of the cleaning was bad
abbrev pub StopsRow : ℕ → ℕ → Chart → Parts → Chart → Parts → Type 0
StopsRow home page old was new now = (IsBusy old was × IsNoneAvailable was home page old × StopsStep old was new now) ⊎ StopsChosen home page old was new now

-- and what was claimed and cleaned meanwhile is noted, and the bad operation is counted
pub record StopsGetting (home page : ℕ) (old : Chart) (was : Parts) (new : Chart) (now : Parts) : Type 0 where
  pub noted : ChoosesBad home page old was now
  pub halted : StopsRow home page old was new now
  pub bads : CountsBad old new

-- a row was claimed, and its program was bad, which counts as a flush
pub record StopsProgram (home page : ℕ) (old : Chart) (was : Parts) (new : Chart) (now : Parts) : Type 0 where
  pub row : ℕ
  pub gets : GetsRow home page row old was new now
  pub flushes : now.flushes ≡ up was.flushes

-- a bad operation ended a flush, or a shadow's program, of a page with this home
pub record StopsFor (home page : ℕ) (old : Chart) (was : Parts) (new : Chart) (now : Parts) : Type 0 where
  pub noted : ChoosesBad home page old was now
  pub halted : StopsRow home page old was new now ⊎ StopsProgram home page old was new now

-- a bad operation ended a flush of the oldest held page: the frames are held as before
pub record StopsOldest (old : Chart) (was : Parts) (new : Chart) (now : Parts) : Type 0 where
  pub frames : now.frames ≡ was.frames
  pub oldest : Held
  pub first : slice_get was.frames.held 0 ≡ Some oldest
  pub stops : StopsFor oldest.home oldest.page old was new now
  pub bads : CountsBad old new

-- A bad operation ended a store or put to page p: frames are held as before, and heats, turns and lives have noted
-- what was claimed and cleaned for the page that was to be programmed. The look at page p came first.
pub record Stops (p : ℕ) (old : Chart) (was : Parts) (new : Chart) (now : Parts) : Type 0 where
  pub frames : now.frames ≡ was.frames
  pub home : ℕ
  pub page : ℕ
  pub programmed : IsProgrammed p (place old.fields p) was.frames.held home page
  pub noted : ChoosesBad home page old was now
  pub looked : Parts
  pub after_look : looked ≡ record was { cache = looked.cache }
  pub halted : StopsRow home page old looked new now ⊎ StopsProgram home page old looked new now

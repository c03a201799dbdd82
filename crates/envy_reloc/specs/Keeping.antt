-- What the workers of a relocation need, and what each leaves however it ends.
use Rattle.std.specs.Prelude.{◌≡◌, ◌≢◌, ℕ, ◌+◌, ◌*◌, ◌/◌, ◌<◌, List, [], Some, IsTrue, slice_index, slice_index_or}
use Rattle.envy_base.specs.Counting.{up, Tally}
use Rattle.envy_base.specs.declared.fields.Job.TheVariants.{Idle, Copy, Erase}
use Rattle.envy_map.specs.Fields.{Chart, with_fields}
use Rattle.envy_map.specs.Writes.{with_back, with_fill, with_job}
use Rattle.envy_soundness.specs.Frames.{FramesStay}
use Rattle.envy_soundness.specs.Naming.{IsNamed, AreParted}
use Rattle.envy_soundness.specs.Same.{Same}
use Rattle.envy_soundness.specs.Sound.{IsSound, IsPlaced, IsSpare, IsKept, Names}
use Rattle.envy_space.specs.Pool.{Pool, PoolAgrees}
use Rattle.envy_table.specs.Agreement.{AreCurrent}
use Rattle.envy_table.specs.Entries.{Entry, Translations}
use Rattle.envy_table.specs.Hits.{Rests}
use Rattle.envy_reloc.specs.Cleaning.{Cleans}
use Rattle.envy_reloc.specs.Effort.{programs_of, erases_of, Leaves, Spent}
use Rattle.envy_reloc.specs.Phases.{copied_to, CopiesLeft, Does, MovesRow, Spoils, SpoilsRow, SpoilsTarget, counted_by}
use Rattle.envy_reloc.specs.Plan.{Plan, AreCopies, IsPlanOf}
use Rattle.envy_reloc.specs.Rows.{HasRoom, IsLeft}
use Rattle.envy_reloc.specs.declared.row_copy.Left.{Left}
use Rattle.envy_reloc.specs.declared.row_move.Move.{Move}
use Rattle.envy_reloc.specs.declared.step.Phase.{Phase}
use Rattle.envy_base.specs.Shape.{positions_of}

-- the pool, the cache and the owners are the map's
pub record PartsAgree (c : Chart) (x : Pool) (entries : List Entry) : Type 0 where
  pub pool : PoolAgrees c.shape c.fields x
  pub cache : AreCurrent c.shape.pages c.fields.places entries
  pub parted : AreParted c.fields.slots c.fields.undos c.fields.places

-- they are it again wherever power is on, of one shape, and no access was counted
pub record PartsFollow (new : Chart) (x y : Pool) (u v : Translations) : Type 0 where
  pub pool : IsTrue new.on → PoolAgrees new.shape new.fields y
  pub cache : IsTrue new.on → AreCurrent new.shape.pages new.fields.places v.entries
  pub parted : IsTrue new.on → AreParted new.fields.slots new.fields.undos new.fields.places
  pub shape : y.shape ≡ x.shape
  pub rests : Rests u v

-- there is power, and the map is sound, with the pool, the plan and the owners as it says
pub record IsReady (c : Chart) (x : Pool) (w : Plan) : Type 0 where
  pub on : IsTrue c.on
  pub sound : IsSound c
  pub pool : PoolAgrees c.shape c.fields x
  pub plan : IsPlanOf c.shape c.fields c.flash w
  pub parted : AreParted c.fields.slots c.fields.undos c.fields.places

-- they are as it says again wherever power is on
pub record PlanFollows (new : Chart) (x y : Pool) (w : Plan) : Type 0 where
  pub pool : IsTrue new.on → PoolAgrees new.shape new.fields y
  pub plan : IsTrue new.on → IsPlanOf new.shape new.fields new.flash w
  pub parted : IsTrue new.on → AreParted new.fields.slots new.fields.undos new.fields.places
  pub shape : y.shape ≡ x.shape

-- and so is the cache; no access was counted, and pages stay in their frames
pub record AllFollow (old new : Chart) (x y : Pool) (w : Plan) (u v : Translations) : Type 0 where
  pub pool : IsTrue new.on → PoolAgrees new.shape new.fields y
  pub plan : IsTrue new.on → IsPlanOf new.shape new.fields new.flash w
  pub parted : IsTrue new.on → AreParted new.fields.slots new.fields.undos new.fields.places
  pub cache : IsTrue new.on → AreCurrent new.shape.pages new.fields.places v.entries
  pub frames : IsTrue new.on → FramesStay old.fields.places new.fields.places
  pub shape : y.shape ≡ x.shape
  pub rests : Rests u v

-- a relocation may begin
pub record MayBegin (c : Chart) (pool : Pool) : Type 0 where
  pub sound : IsSound c
  pub agrees : PoolAgrees c.shape c.fields pool
  pub idle : c.fields.job ≡ Some Idle

-- the copy of segment v, which stood at position k, has begun with these moves, and this is left of it
pub record Begins (old : Chart) (pool : Pool) (k n : ℕ) (plan : Plan) (new : Chart) (then_plan : Plan) : Type 0 where
  pub fields : new ≡ with_fields old (with_job (Some (Copy (slice_index pool.positions k))) old.fields)
  pub leaves : Leaves new then_plan n 1 (n + 3)
  pub cleans : (d : ℕ) → d / old.shape.rows ≡ slice_index pool.positions k → ((p : ℕ) → Names old.fields p d → ⊥) → Cleans old.shape old.fields.positions k plan.erased new.fields then_plan.erased

-- a step may be done of the job that runs
pub record MayStep (c : Chart) (x : Pool) (w : Plan) (entries : List Entry) : Type 0 where
  pub sound : IsSound c
  pub pool : PoolAgrees c.shape c.fields x
  pub cache : AreCurrent c.shape.pages c.fields.places entries
  pub plan : IsPlanOf c.shape c.fields c.flash w
  pub parted : AreParted c.fields.slots c.fields.undos c.fields.places
  pub busy : c.fields.job ≢ Some Idle

-- what a step did, what it counted, and what is left after it
pub record Steps (old : Chart) (plan : Plan) (phase : Phase) (new : Chart) (then_plan : Plan) : Type 0 where
  pub does : Does old plan phase new then_plan
  pub works : Same (programs_of phase) (erases_of phase) old new
  pub counted : then_plan ≡ record (counted_by phase plan) { moves = then_plan.moves; mark = then_plan.mark }
  pub left : (n e s : ℕ) → Leaves old plan n e s → Spent old new then_plan n e s
  pub cleans : (positions : List ℕ) (k n : ℕ) → Cleans old.shape positions k n old.fields plan.erased → Cleans old.shape positions k n new.fields then_plan.erased

-- a program or an erase was bad: the spare is to be erased, and unless it was already, no move is left
pub record Fails (old : Chart) (plan : Plan) (new : Chart) (then_plan : Plan) : Type 0 where
  pub spoils : Spoils old plan new then_plan
  pub job : new.fields.job ≡ Some Erase
  pub dropped : old.fields.job ≢ Some Erase → then_plan.moves ≡ []
  pub bad : new.bads ≡ up old.bads

-- a kept row of the segment that is copied is to go to a position that has room
pub record IsMove (c : Chart) (pool : Pool) (next : Move) : Type 0 where
  pub v : ℕ
  pub copying : c.fields.job ≡ Some (Copy v)
  pub room : HasRoom pool.shape pool.fills pool.positions v next.position
  pub position : next.position < positions_of pool.shape
  pub page : next.kept.page < c.shape.pages
  pub back : slice_index c.fields.backs next.row ≡ next.kept.page
  pub named : IsNamed c.fields next.kept.page next.row next.kept.undo

-- it went there, and was counted
pub record MovesNext (old : Chart) (s : ℕ) (next : Move) (plan : Plan) (new : Chart) (then_plan : Plan) : Type 0 where
  pub moved : MovesRow old s next new
  pub becomes : then_plan ≡ record plan { moved = up plan.moved }

-- its program was bad, and the relocation is given up
pub record FailsMove (old : Chart) (s p : ℕ) (plan : Plan) (new : Chart) (then_plan : Plan) : Type 0 where
  pub spoilt : SpoilsTarget old s p new
  pub becomes : then_plan ≡ record plan { moves = []; moved = up plan.moved }
  pub bad : new.bads ≡ up old.bads

-- a move alone was counted
pub record CountsMove (old : Chart) (plan : Plan) (new : Chart) (then_plan : Plan) : Type 0 where
  pub moved : Tally old.begun plan.moved new.begun then_plan.moved
  pub copied : then_plan.copied ≡ plan.copied
  pub erased : then_plan.erased ≡ plan.erased
  pub since : then_plan.since ≡ plan.since

-- the row was copied to the spare e, and the copy counted
pub record CopiesNext (old : Chart) (e q : ℕ) (plan : Plan) (new : Chart) (then_plan : Plan) : Type 0 where
  pub copied : CopiesLeft old e q new
  pub becomes : then_plan ≡ record plan { mark = q + 1; copied = up plan.copied }

-- the copy's program was bad, and the relocation is given up
pub record FailsCopy (old : Chart) (e q : ℕ) (plan : Plan) (new : Chart) (then_plan : Plan) : Type 0 where
  pub spoilt : SpoilsRow old e q new
  pub becomes : then_plan ≡ record plan { moves = []; copied = up plan.copied }
  pub bad : new.bads ≡ up old.bads

-- a copy alone was counted
pub record CountsCopy (old : Chart) (plan : Plan) (new : Chart) (then_plan : Plan) : Type 0 where
  pub copied : Tally old.begun plan.copied new.begun then_plan.copied
  pub moved : then_plan.moved ≡ plan.moved
  pub erased : then_plan.erased ≡ plan.erased
  pub since : then_plan.since ≡ plan.since

-- the pool's numbers are the map's again wherever power is on
pub record PoolFollows (new : Chart) (x y : Pool) : Type 0 where
  pub pool : IsTrue new.on → PoolAgrees new.shape new.fields y
  pub shape : y.shape ≡ x.shape

-- segment s has a free row, and isn't the one that is copied
pub record IsTarget (c : Chart) (pool : Pool) (s : ℕ) : Type 0 where
  pub placed : IsPlaced c.shape c.fields.positions s
  pub v : ℕ
  pub copying : c.fields.job ≡ Some (Copy v)
  pub other : v ≢ s
  pub room : slice_index pool.fills s < pool.shape.rows

-- row q is kept, and is to be claimed again for page p
pub record IsKeptIn (c : Chart) (q p : ℕ) : Type 0 where
  pub row : q < c.shape.segments * c.shape.rows
  pub page : p < c.shape.pages
  pub kept : IsKept c.fields q

-- the first free row of segment s was claimed for page p, no other has changed, and one more move is counted
pub record ClaimsTarget (old : Chart) (s p n : ℕ) (new : Chart) (m : ℕ) : Type 0 where
  pub fields : new.fields ≡ with_fill s (slice_index old.fields.fills s + 1) (with_back (s * old.shape.rows + slice_index old.fields.fills s) p old.fields)
  pub others : (r : ℕ) → r ≢ s * old.shape.rows + slice_index old.fields.fills s → slice_index_or new.flash r [] ≡ slice_index_or old.flash r []
  pub counted : m ≡ up n

-- that row is the target, and holds what row q did
pub record CopiesTo (old : Chart) (s q : ℕ) (new : Chart) (target : ℕ) : Type 0 where
  pub is : target ≡ s * old.shape.rows + slice_index old.fields.fills s
  pub copy : slice_index_or new.flash (s * old.shape.rows + slice_index old.fields.fills s) [] ≡ slice_index_or old.flash q []

-- that row's program was bad
pub record WastesRow (old : Chart) (s p : ℕ) (new : Chart) : Type 0 where
  pub fields : new.fields ≡ with_fill s (slice_index old.fields.fills s + 1) (with_back (s * old.shape.rows + slice_index old.fields.fills s) p old.fields)
  pub others : (r : ℕ) → r ≢ s * old.shape.rows + slice_index old.fields.fills s → slice_index_or new.flash r [] ≡ slice_index_or old.flash r []
  pub bad : new.bads ≡ up old.bads

-- a kept row of the segment that is copied has no copy yet in the spare e
pub record MayCopy (c : Chart) (e : ℕ) (l : Left) : Type 0 where
  pub v : ℕ
  pub copying : c.fields.job ≡ Some (Copy v)
  pub segment : l.row / c.shape.rows ≡ v
  pub copies : AreCopies c.shape c.fields.fills c.fields.backs c.fields.origins c.flash v e
  pub spare : IsSpare c.shape c.fields.positions e
  pub left : IsLeft c.fields (slice_index c.fields.fills e) l.row
  pub page : slice_index c.fields.backs l.row ≡ l.page

-- the first free row of the spare e was claimed for the copy of row q, no other has changed, and one more copy
-- is counted
pub record ClaimsCopy (old : Chart) (e q n : ℕ) (new : Chart) (m : ℕ) : Type 0 where
  pub fields : new.fields ≡ copied_to old.shape e (slice_index old.fields.fills e) q old.fields
  pub others : (r : ℕ) → r ≢ e * old.shape.rows + slice_index old.fields.fills e → slice_index_or new.flash r [] ≡ slice_index_or old.flash r []
  pub counted : m ≡ up n

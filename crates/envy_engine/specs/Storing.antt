-- What a store or a put of one word does below the memory.
use Rattle.std.specs.Prelude.{◌≡◌, ◌≢◌, ◌⊎◌, ◌++◌, ◌∷◌, [], ℕ, ◌/◌, IsTrue, Some, Result, Ok, Err, slice_index, slice_set, ◌*◌, ◌-◌, ◌<◌, List}
use Rattle.envy_base.specs.declared.board.Trouble.{Trouble}
use Rattle.envy_base.specs.declared.board.Trouble.TheVariants.{Off as TroubleOff, Bad}
use Rattle.envy_base.specs.declared.fields.Job.TheVariants.{Switch}
use Rattle.envy_base.specs.declared.fields.Place.{Place}
use Rattle.envy_base.specs.declared.fields.Place.TheVariants.{Absent, Row, Frame}
use Rattle.envy_base.specs.declared.shape.Shape.{Shape}
use Rattle.envy_map.specs.Fields.{Fields, Chart, with_fields, place}
use Rattle.envy_map.specs.Writes.{with_frame}
use Rattle.envy_frames.specs.Agreement.{AreHeld, IsElsewhere, default_home}
use Rattle.envy_frames.specs.Order.{IsUnheld}
use Rattle.envy_soundness.specs.May.{HasChanged, IsUnnamed}
use Rattle.envy_soundness.specs.Same.{Counted, Framed, Wears, Same, Stored, Interrupted, Shadowed, Dropped}
use Rattle.envy_soundness.specs.Sound.{IsSound, IsSpare}
use Rattle.envy_space.specs.Pool.{Pool, PoolAgrees, noted_dead}
use Rattle.envy_table.specs.Agreement.{AreCurrent}
use Rattle.envy_engine.specs.Agreement.{Fits}
use Rattle.envy_engine.specs.Flushing.{MakesRoom}
use Rattle.envy_soundness.specs.Naming.{AreParted}
use Rattle.envy_reloc.specs.Plan.{IsPlanOf}
use Rattle.envy_engine.specs.declared.parts.Parts.{Parts}
use Rattle.envy_base.specs.declared.page.TheConstants.{PAGE_WORDS}
use Rattle.envy_base.specs.Shape.{positions_of}

-- a word that a restart keeps
abbrev pub Wrote : ℕ → ℕ → Chart → ℕ → ℕ → Result Unit Trouble → Chart → Type 0
Wrote k j old a w (Ok done) new = Stored k j old new a w
Wrote k j old a w (Err TroubleOff) new = Interrupted k j old new a w
Wrote k j old a w (Err Bad) new = Same k j old new × IsTrue new.on

-- a word that a restart takes back
abbrev pub Shaded : ℕ → ℕ → Chart → ℕ → ℕ → Result Unit Trouble → Chart → Type 0
Shaded k j old a w (Ok done) new = Shadowed k j old new a w
Shaded k j old a w (Err TroubleOff) new = Dropped k j old new
Shaded k j old a w (Err Bad) new = Same k j old new × IsTrue new.on

-- the home of a page that leaves this place
abbrev pub IsHome : Shape → Fields → ℕ → Place → ℕ → Type 0
IsHome sh f p Absent k = k ≡ default_home sh p
IsHome sh f p (Row q) k =
    (slice_index f.positions k ≡ q / sh.rows)
    ⊎ ((v : ℕ) × (f.job ≡ Some (Switch v)) × IsSpare sh f.positions (q / sh.rows) × (slice_index f.positions k ≡ v))
IsHome sh f p (Frame j) k = ⊥

-- the row that a page leaves is counted
abbrev pub IsNotable : Pool → Place → Type 0
IsNotable pool Absent = Unit {0}
IsNotable pool (Frame k) = Unit {0}
IsNotable pool (Row q) = (q < pool.shape.segments * pool.shape.rows) × (0 < slice_index pool.kept (q / pool.shape.rows))

abbrev pub left_pool : Place → Pool → Pool
left_pool Absent pool = pool
left_pool (Frame k) pool = pool
left_pool (Row q) pool = noted_dead q pool

-- The page, whose place this is, is about to stand in the frame, in which it is held already: the parts agree
-- with the board but for that. No active undo of the page names the row that it leaves.
pub record Near (c : Chart) (x : Parts) (p k : ℕ) (from : Place) : Type 0 where
  pub on : IsTrue c.on
  pub sound : IsSound c
  pub fits : Fits c.shape x
  pub page : p < c.shape.pages
  pub frame : k < c.shape.frames
  pub here : place c.fields p ≡ Some from
  pub elsewhere : IsElsewhere (Some from)
  pub unnamed : IsUnnamed c.fields k
  pub pool : PoolAgrees c.shape c.fields x.space
  pub held : AreHeld c.shape (slice_set c.fields.places p (Some (Frame k))) x.frames.held
  pub current : AreCurrent c.shape.pages c.fields.places x.cache.entries
  pub job : IsPlanOf c.shape c.fields c.flash x.reloc
  pub two : AreParted c.fields.slots c.fields.undos c.fields.places

-- frame k, which no page stands in, may take page p, whose place this is
pub record Lands (c : Chart) (p k : ℕ) (from : Place) : Type 0 where
  pub frame : k < c.shape.frames
  pub here : place c.fields p ≡ Some from
  pub elsewhere : IsElsewhere (Some from)
  pub unnamed : IsUnnamed c.fields k

-- frame k, which wasn't held, is held for page p with the home of the place that it leaves, and has the page's words,
-- word i of them changed
pub record FillsFrame (p : ℕ) (from : Place) (i w : ℕ) (old : Chart) (was : Parts) (new : Chart) (now : Parts) (k : ℕ) : Type 0 where
  pub words : List ℕ
  pub fields : new ≡ with_fields old (with_frame k words PAGE_WORDS old.fields)
  pub range : k < old.shape.frames
  pub unheld : IsUnheld was.frames.held k
  pub unnamed : IsUnnamed new.fields k
  pub copy : HasChanged new.fields new.flash p (Frame k) i w
  pub home : ℕ
  pub within : home < positions_of old.shape
  pub homed : IsHome old.shape old.fields p from home
  pub held : now.frames.held ≡ was.frames.held ++ (record { frame = k; page = p; home = home }) ∷ []

-- what a store leaves at each exit: the owners, a sound board and the counts
pub record Leaves (k j : ℕ) (old new : Chart) : Type 0 where
  pub framed : Framed old new
  pub sound : IsSound new
  pub counted : Counted k j old new
  pub worn : Wears old new

-- nothing that a policy or a swap looks at changed
pub record Rows (old new : Chart) : Type 0 where
  pub job : new.fields.job ≡ old.fields.job
  pub fills : new.fields.fills ≡ old.fields.fills
  pub positions : new.fields.positions ≡ old.fields.positions
  pub wears : new.fields.wears ≡ old.fields.wears
  pub erases : new.erases ≡ old.erases

-- page p, which stood elsewhere, came into a frame that wasn't held and is the newest, with the home of the
-- place that it left
pub record Brings (p : ℕ) (old : Chart) (was : Parts) (new : Chart) (now : Parts) : Type 0 where
  pub from : Place
  pub here : place old.fields p ≡ Some from
  pub frame : ℕ
  pub home : ℕ
  pub unheld : IsUnheld was.frames.held frame
  pub homed : IsHome old.shape old.fields p from home
  pub held : now.frames.held ≡ was.frames.held ++ (record { frame = frame; page = p; home = home }) ∷ []
  pub there : place new.fields p ≡ Some (Frame frame)
  pub others : (r : ℕ) → r ≢ p → place new.fields r ≡ place old.fields r
  pub rows : Rows old new
  pub parts : now ≡ record was { frames = now.frames; space = now.space; cache = now.cache }

-- a page in a frame stays there, and nothing but words changed
pub record StaysFramed (p : ℕ) (old : Chart) (was : Parts) (new : Chart) (now : Parts) : Type 0 where
  pub frame : ℕ
  pub here : place old.fields p ≡ Some (Frame frame)
  pub places : new.fields.places ≡ old.fields.places
  pub rows : Rows old new
  pub parts : now ≡ record was { cache = now.cache }

-- where a page is elsewhere, there is room made for it, and it comes into a frame
pub record Fetches (p : ℕ) (old : Chart) (was : Parts) (new : Chart) (now : Parts) : Type 0 where
  pub elsewhere : IsElsewhere (place old.fields p)
  pub looked : Parts
  pub after_look : looked ≡ record was { cache = looked.cache }
  pub mid : Chart
  pub between : Parts
  pub room : MakesRoom old looked mid between
  pub brings : Brings p mid between new now

-- what an accepted store does to frames, rows, heats and turns
abbrev pub StoresBy : ℕ → Chart → Parts → Chart → Parts → Type 0
StoresBy p old was new now = StaysFramed p old was new now ⊎ Fetches p old was new now

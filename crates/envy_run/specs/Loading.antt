-- Images that a source begins with: what was taken of one, and why there may be no board that holds it.
use Rattle.std.specs.Prelude.{◌≡◌, ◌≢◌, ◌⊎◌, ℕ, ◌*◌, ◌<◌, ◌≤◌, Bool, false, IsTrue, List, [], ◌++◌, length, Option, None, Some, IfSome, Result, Ok, Err, slice_index}
use Rattle.std.specs.Option.{option_map}
use Rattle.envy_base.specs.Shape.{IsShape, checked}
use Rattle.envy_base.specs.State.{State, IsBoard}
use Rattle.envy_base.specs.declared.shape.Shape.{Shape}
use Rattle.envy_base.specs.declared.shape.ShapeFault.{ShapeFault}
use Rattle.envy_audit.specs.Judging.{Judges}
use Rattle.envy_audit.specs.declared.verdict.Verdict.{Verdict}
use Rattle.envy_image.specs.Image.{mark_of, head_of, image_of, numbers_size}
use Rattle.envy_image.specs.Reading.{IsMisshapen}
use Rattle.envy_image.specs.Installing.{HasReadHead, body_size}
use Rattle.envy_io.specs.Streams.{Feed, Rises, IsDry, with_front}
use Rattle.envy_io.specs.Taking.{Taking}
use Rattle.envy_map.specs.Fields.{Chart, chart}
use Rattle.envy_serve.specs.Ends.{most_bytes}
use Rattle.envy_serve.specs.Streams.{Streams}
use Rattle.envy_run.specs.Outcome.{Outcome, EndsBy}
use Rattle.envy_run.specs.declared.endings.Ending.{Ending}
use Rattle.envy_run.specs.declared.endings.Ending.TheVariants.{ImageRefused, NotInstalled, OutOfMemory, ReadFault}
use Rattle.envy_run.specs.declared.endings.ImageFault.TheVariants.{Early as ImageEarly, Misshapen as ImageMisshapen, Unmarked as ImageUnmarked}
use Rattle.envy_run.specs.declared.image_input.Refusal.{Refusal}
use Rattle.envy_run.specs.declared.image_input.Refusal.TheVariants.{Failed, Memory, Early, Unmarked, Misshapen, Upset}

-- these bytes were taken from the source, which is asked for no more before they are used
pub record HasTaken (bytes : List ℕ) (from : Feed) (now : Taking) (feed : Feed) : Type 0 where
  pub left : from.left ≡ with_front bytes feed.left
  pub taken : now.taken ≡ length bytes
  pub cap : now.cap ≡ most_bytes
  pub within : now.taken ≤ now.cap
  pub held : now.held ≡ []
  pub faults : from.faults ≤ feed.faults
  pub below : IsTrue now.ended → now.taken < now.cap
  pub dry : IsTrue now.ended → IsDry feed.left

-- nothing was taken yet
abbrev pub untouched : Taking
untouched = record { cap = most_bytes; taken = 0; held = []; ended = false }

-- bytes that stop before the end of a head, or of an image behind a head of this shape
abbrev pub StopsInHead : List ℕ → Type 0
StopsInHead bytes =
    (length bytes < 8) ⊎ ((extended : Bool) × (rest : List ℕ) × (bytes ≡ mark_of extended ++ rest) × (length rest < numbers_size extended))

abbrev pub StopsBehindHead : Shape → List ℕ → Type 0
StopsBehindHead sh bytes = (rest : List ℕ) × (bytes ≡ head_of sh ++ rest) × (length rest < body_size sh)

-- the bytes reach beyond the head of such a shape, and not beyond its image
abbrev pub ReachesBehindHead : Shape → List ℕ → Type 0
ReachesBehindHead sh bytes = (rest : List ℕ) × (bytes ≡ head_of sh ++ rest) × (length rest ≤ body_size sh)

-- power is on and never failed, and no flash operation did
pub record IsFlawless (c : Chart) : Type 0 where
  pub on : IsTrue c.on
  pub cuts : c.cuts ≡ 0
  pub bads : c.bads ≡ 0

-- a board of this shape on which nothing failed and nothing began
pub record IsNew (sh : Shape) (c : Chart) : Type 0 where
  pub shape : c.shape ≡ sh
  pub flawless : IsFlawless c
  pub begun : c.begun ≡ 0
  pub erases : (e : ℕ) → slice_index c.erases e ≡ 0

-- power is off and no flash operation failed, or one failed and power never did
abbrev pub HasFailed : Chart → Type 0
HasFailed c = ((c.on ≡ false) × (0 < c.cuts) × (c.bads ≡ 0)) ⊎ (IsTrue c.on × (c.cuts ≡ 0) × (0 < c.bads))

-- The bytes stop in the head, and no board was made; or a board of its shape was made, on which nothing failed, and they
-- stop in what is behind it.
abbrev pub StopsWithin : List ℕ → Option Chart → Type 0
StopsWithin bytes None = StopsInHead bytes
StopsWithin bytes (Some now) = IsShape now.shape × StopsBehindHead now.shape bytes × IsFlawless now

-- Why there is no board that holds an image, by the bytes taken, the board where one was made, and the source. A board
-- that was made has the shape of the head.
abbrev pub Cause : Refusal → List ℕ → Option Chart → Feed → Feed → Type 0
Cause Failed bytes board from feed = Rises from.faults feed.faults × StopsWithin bytes board
Cause Memory bytes board from feed = (sh : Shape) × (checked sh ≡ Ok tt) × (bytes ≡ head_of sh) × IfSome board (IsNew sh)
Cause Early bytes board from feed = IsDry feed.left × StopsWithin bytes board
Cause Unmarked bytes board from feed = (board ≡ None) × (length bytes ≡ 8) × ((extended : Bool) → bytes ≢ mark_of extended)
Cause Misshapen bytes board from feed = (board ≡ None) × (fault : ShapeFault) × IsMisshapen bytes fault
Cause Upset bytes board from feed = (now : Chart) × (board ≡ Some now) × ReachesBehindHead now.shape bytes × HasFailed now

-- no failure was planned on the board, power wasn't cut by hand, and nobody asked for its return
pub record IsUnharmed (returns : ℕ) (c : Chart) : Type 0 where
  pub given : c.given ≡ returns
  pub lives : c.lives ≡ returns
  pub pulled : c.pulled ≡ 0
  pub plans : c.plans ≡ 0
  pub last_plan : c.last_plan ≡ None

-- the head is read, and its shape checks; no memory is needed for it
abbrev pub TakesHead : Feed → Result Shape Refusal → Taking → Feed → Type 0
TakesHead from (Ok sh) now feed = HasTaken (head_of sh) from now feed × (checked sh ≡ Ok tt) × HasReadHead sh now feed
TakesHead from (Err refusal) now feed = (bytes : List ℕ) × HasTaken bytes from now feed × Cause refusal bytes None from feed × (refusal ≢ Memory)

-- An image was installed on a new board of this shape: each row was programmed once, and each segment erased once.
pub record IsInstalled (sh : Shape) (returns : ℕ) (s : State) : Type 0 where
  pub whole : IsBoard s
  pub on : IsTrue s.on
  pub shape : s.shape ≡ sh
  pub given : s.given ≡ returns
  pub lives : s.lives ≡ returns
  pub pulled : s.pulled ≡ 0
  pub plans : s.plans ≡ 0
  pub last_plan : s.last_plan ≡ None
  pub cuts : s.cuts ≡ 0
  pub bads : s.bads ≡ 0
  pub begun : s.begun ≡ sh.segments * sh.rows
  pub erases : (e : ℕ) → e < sh.segments → slice_index s.erases e ≡ 1

-- the bytes taken are the image of the board, and it was judged
pub record Loaded (sh : Shape) (returns : ℕ) (from : Feed) (found : State) (verdict : Verdict) (now : Taking) (feed : Feed) : Type 0 where
  pub taken : HasTaken (image_of found) from now feed
  pub installed : IsInstalled sh returns found
  pub judges : Judges verdict (chart found)

-- or there is no such board; one that was made has this shape, which is that of the head
pub record Unloaded (sh : Shape) (returns : ℕ) (from : Feed) (board : Option State) (refusal : Refusal) (now : Taking) (feed : Feed) : Type 0 where
  pub shape : IfSome board (λ s. s.shape ≡ sh)
  pub bytes : List ℕ
  pub head : (rest : List ℕ) × (bytes ≡ head_of sh ++ rest)
  pub taken : HasTaken bytes from now feed
  pub cause : Cause refusal bytes (option_map chart board) from feed
  pub unharmed : IfSome (option_map chart board) (IsUnharmed returns)

-- the ending for each reason
abbrev pub ending_for : Refusal → Ending
ending_for Failed = ReadFault
ending_for Memory = OutOfMemory
ending_for Early = ImageRefused ImageEarly
ending_for Unmarked = ImageRefused ImageUnmarked
ending_for Misshapen = ImageRefused ImageMisshapen
ending_for Upset = NotInstalled

-- the bytes begin with the head of no board that has more rows than this
abbrev pub IsWithin : ℕ → List ℕ → Type 0
IsWithin most bytes = (sh : Shape) (rest : List ℕ) → bytes ≡ head_of sh ++ rest → checked sh ≡ Ok tt → sh.segments * sh.rows ≤ most

-- these bytes were taken, no line was read, and nothing was written
pub record TookOnly (bytes : List ℕ) (o : Outcome) (io : Streams) : Type 0 where
  pub lines : o.lines ≡ 0
  pub taken : o.taken ≡ length bytes
  pub source : io.from.left ≡ with_front bytes io.feed.left
  pub sink : io.sink ≡ io.to

-- no image was taken up, for this reason; these bytes were taken
pub record RefusesImage (refusal : Refusal) (bytes : List ℕ) (o : Outcome) (io : Streams) : Type 0 where
  pub ending : EndsBy (ending_for refusal) o
  pub took : TookOnly bytes o io
  pub cause : Cause refusal bytes o.board io.from io.feed

-- A head was read of a board that has more rows than the words allow. It is told as a bad shape, and no byte behind it is
-- taken.
pub record IsTooLarge (most : ℕ) (sh : Shape) (o : Outcome) (io : Streams) : Type 0 where
  pub ending : EndsBy (ImageRefused ImageMisshapen) o
  pub shape : checked sh ≡ Ok tt
  pub rows : most < sh.segments * sh.rows
  pub took : TookOnly (head_of sh) o io

-- What holds at the end of a kept memory's trace, and which array each crash of the machine leaves.
use Rattle.std.specs.Prelude.{◌≡◌, ◌⊎◌, ℕ, ◌≤◌, List, [], ◌∷◌}
use Rattle.envy_base.specs.State.{SyncNote}
use Rattle.envy_array.specs.Array.{Array, undone}
use Rattle.envy_base.specs.declared.shape.Shape.{Shape}
use Rattle.envy_begun.specs.Opens.{OpensAs}
use Rattle.envy_disk.specs.Disk.{with_sync}
use Rattle.envy_journal.specs.Head.{StandsFor}
use Rattle.envy_journal.specs.Reading.{operations}
use Rattle.envy_synced.specs.Disk.{IsSynced, Reopens}
use Rattle.envy_map.specs.Fields.{Chart, failed}
use Rattle.envy_memory.specs.Picture.{Picture}
use Rattle.envy_trace.specs.declared.reply.Reply.TheVariants.{Lost}
use Rattle.envy_trace.specs.declared.keep_reply.KeepReply.TheVariants.{Trace as TraceReply}
use Rattle.envy_serve.specs.declared.server.End.{End}
use Rattle.envy_serve.specs.declared.server.End.TheVariants.{Done as EndDone, Dead as EndDead}
use Rattle.envy_serve.specs.Ends.{Serves}
use Rattle.envy_serve.specs.Streams.{Streams}
use Rattle.envy_run.specs.Outcome.{status_of, why_of}
use Rattle.envy_keep.specs.Playing.{HasBoard, HasLostBoard, IsOnDisk, Plays}
use Rattle.envy_keep.specs.Turns.{KeepRun, KeepTurn, LosesKeep, keep_grammar, synced_turns}

-- Each file that a crash has left since some sync opens as these words, or as some later ones.
pub record Survives (sh : Shape) (left_since : ℕ → List ℕ → Type 0) (now : ℕ) (words : List ℕ) (Later : List ℕ → Type 0) : Type 0 where
  -- the moment of that sync
  pub moment : ℕ
  pub before : moment ≤ now
  pub opens : (file : List ℕ) → left_since moment file → ∥ OpensAs sh words file ⊎ ((other : List ℕ) × Later other × OpensAs sh other file) ∥₁

abbrev pub NoneLater : List ℕ → Type 0
NoneLater words = ⊥

-- each file that a crash has left since this moment is such a one, or reopens as some later board
abbrev pub LeavesSince : (ℕ → List ℕ → Type 0) → ℕ → (List ℕ → Type 0) → (Chart → Type 0) → Type 0
LeavesSince left_since moment Such Later = (file : List ℕ) → left_since moment file → ∥ Such file ⊎ ((other : Chart) × Later other × Reopens other file) ∥₁

abbrev pub NoBoardLater : Chart → Type 0
NoBoardLater board = ⊥

-- The turns lead to an array, and the crashes since the last line that was answered `synced` leave the array of that line,
-- or what is later. They leave the board that the memory had behind that line, by the operations that were on the disk then,
-- or what is later.
pub record SurvivesSynced (first : Array) (memory : Picture) (sh : Shape) (turns : List KeepTurn) (left_since : ℕ → List ℕ → Type 0) (now : ℕ) (Later : List ℕ → Type 0) (LaterBoard : Chart → Type 0) : Type 0 where
  pub array : Array
  pub run : KeepRun sh.entries first (synced_turns turns) array
  pub survives : Survives sh left_since now (undone array) Later
  pub board : Chart
  pub on_disk : IsOnDisk memory (synced_turns turns) board
  pub reopens : LeavesSince left_since survives.moment (Reopens board) LaterBoard
  pub synced : IsSynced board
  pub reads : LeavesSince left_since survives.moment (StandsFor board.shape (operations board.notes.last.bytes)) LaterBoard

-- the same of all turns: behind the last of them a sync succeeded
pub record SurvivesWhole (first : Array) (memory : Picture) (sh : Shape) (turns : List KeepTurn) (left_since : ℕ → List ℕ → Type 0) (now : ℕ) : Type 0 where
  pub array : Array
  pub run : KeepRun sh.entries first turns array
  pub survives : Survives sh left_since now (undone array) NoneLater
  pub last : Picture
  pub plays : Plays memory turns last
  pub reopens : LeavesSince left_since survives.moment (Reopens last.chart) NoBoardLater

-- the turns lead to an array
abbrev pub HasKept : Array → Shape → List KeepTurn → Type 0
HasKept first sh turns = (array : Array) × KeepRun sh.entries first turns array

-- and the words of that, where a restart finds it
abbrev pub IsWhole : Array → Shape → List KeepTurn → List ℕ → Type 0
IsWhole first sh turns words = (array : Array) × KeepRun sh.entries first turns array × (words ≡ undone array)

-- power failed in the last line, which was answered `lost`
abbrev pub HasLost : Array → Shape → List KeepTurn → Type 0
HasLost first sh [] = ⊥
HasLost first sh (turn ∷ earlier) = HasKept first sh earlier × (turn.replies ≡ TraceReply Lost ∷ [])

-- the words of the array that the lost line left, done or not done
abbrev pub IsLostLine : Array → Shape → List KeepTurn → List ℕ → Type 0
IsLostLine first sh [] words = ⊥
IsLostLine first sh (turn ∷ earlier) words = (array left : Array) × KeepRun sh.entries first earlier array × LosesKeep array turn.line left × (words ≡ left.words)

-- What each crash left, by the end and the status. Where all lines were done a sync comes before status 0; where that
-- fails, the status is 6.
abbrev pub EndsKept : End → ℕ → Array → Picture → Shape → List KeepTurn → (ℕ → List ℕ → Type 0) → ℕ → Type 0
EndsKept EndDone status first memory sh turns left_since now =
    ((status ≡ 0) × SurvivesWhole first memory sh turns left_since now)
    ⊎ ((status ≡ 6) × SurvivesSynced first memory sh turns left_since now (IsWhole first sh turns) (HasBoard memory turns))
EndsKept EndDead status first memory sh turns left_since now =
    (status ≡ 6) × SurvivesSynced first memory sh turns left_since now (IsLostLine first sh turns) (HasLostBoard memory turns)
EndsKept end status first memory sh turns left_since now =
    (status ≡ status_of end) × SurvivesSynced first memory sh turns left_since now NoneLater NoBoardLater

-- a trace was served over a kept memory, as this picture shows it, that stood for an array of these sizes
pub record KeepsServed (first : Array) (memory : Picture) (sh : Shape) (status why lines taken : ℕ) (left_since : ℕ → List ℕ → Type 0) (now : ℕ) (io : Streams) : Type 0 where
  pub turns : List KeepTurn
  pub end : End
  pub serves : Serves end lines taken keep_grammar 0 (HasKept first sh) (HasLost first sh) [] turns io
  pub why_is : why ≡ why_of end
  pub ends : EndsKept end status first memory sh turns left_since now

-- the status at an end, and one sync more where all lines were done
abbrev pub Concludes : End → ℕ → Picture → Picture → Type 0
Concludes EndDone status old new =
    ((status ≡ 0) × IsSynced new.chart × (sync : SyncNote) × (new ≡ record old { chart = with_sync old.chart sync }))
    ⊎ ((status ≡ 6) × (new ≡ record old { chart = failed old.chart }))
Concludes end status old new = (status ≡ status_of end) × (new ≡ old)

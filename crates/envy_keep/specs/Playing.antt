-- What a kept memory does below the array, from line to line.
use Rattle.std.specs.Prelude.{◌≡◌, ◌⊎◌, ℕ, IsTrue, List, [], ◌∷◌}
use Rattle.envy_base.specs.State.{SyncNote}
use Rattle.envy_disk.specs.Disk.{with_sync}
use Rattle.envy_map.specs.Fields.{Chart, failed}
use Rattle.envy_memory.specs.Picture.{IsMemory, Picture}
use Rattle.envy_trace.specs.declared.line.Line.TheVariants.{Empty}
use Rattle.envy_trace.specs.declared.reply.Reply.{Reply}
use Rattle.envy_trace.specs.declared.keep_line.KeepLine.{KeepLine}
use Rattle.envy_trace.specs.declared.keep_line.KeepLine.TheVariants.{Trace, Sync}
use Rattle.envy_trace.specs.declared.keep_reply.KeepReply.{KeepReply}
use Rattle.envy_trace.specs.declared.keep_reply.KeepReply.TheVariants.{Trace as TraceReply, Synced}
use Rattle.envy_serve.specs.Turns.{Leads}
use Rattle.envy_synced.specs.Disk.{IsLast}
use Rattle.envy_run.specs.Below.{FollowsRules, WorksOf}
use Rattle.envy_keep.specs.Turns.{KeepTurn}

-- the picture is one of a memory with power on: its board is sound, and the pool and the other parts agree with it
abbrev pub ShowsMemory : Picture → Type 0
ShowsMemory p = IsTrue p.chart.on × IsMemory p.chart p.parts p.owned p.limit p.mark

-- the board tells of one sync more, and nothing else changed
abbrev pub IsTold : Picture → Picture → Type 0
IsTold old new = (sync : SyncNote) × (new ≡ record old { chart = with_sync old.chart sync })

-- One line with its replies, from one picture of the memory to the next. A line of the array does what that call of the
-- memory says: a flush is by the policy's choice, a background step by the first rule that applies, by limit and mark. An
-- empty line changes nothing, and a sync nothing but what the board tells of the disk. Behind each the picture is one of a
-- memory, so the pool by which the policy chooses is that of its board.
abbrev pub PlaysLine : Picture → KeepLine → List KeepReply → Picture → Type 0
PlaysLine old (Trace line) replies new =
    ((line ≡ Empty) × (replies ≡ []) × (new ≡ old))
    ⊎ ((reply : Reply) × (replies ≡ TraceReply reply ∷ []) × WorksOf line old.chart new.chart × FollowsRules line reply old new × ShowsMemory new)
PlaysLine old Sync replies new = (replies ≡ Synced ∷ []) × IsTold old new × ShowsMemory new

-- lines with their replies, the newest first, lead from one picture of the memory to another
abbrev pub Plays : Picture → List KeepTurn → Picture → Type 0
Plays first turns last = Leads (λ earlier. PlaysLine) first turns last

-- they lead to a picture with this board
abbrev pub HasBoard : Picture → List KeepTurn → Chart → Type 0
HasBoard first turns board = (last : Picture) × Plays first turns last × (board ≡ last.chart)

-- The board that the last sync brought to the disk is that of the memory behind these turns, of which the newest was
-- answered `synced`. Where there are none, it is what was on the disk when the memory began, by the notes of its board.
abbrev pub IsOnDisk : Picture → List KeepTurn → Chart → Type 0
IsOnDisk first [] board = IsLast board first.chart
IsOnDisk first (turn ∷ earlier) board = HasBoard first (turn ∷ earlier) board

-- what a line in which power failed does below the array
abbrev pub LosesBelow : KeepLine → Chart → Chart → Type 0
LosesBelow (Trace line) old new = WorksOf line old new
LosesBelow Sync old new = new ≡ failed old

-- the board as the last line left it, in which power failed
abbrev pub HasLostBoard : Picture → List KeepTurn → Chart → Type 0
HasLostBoard first [] board = ⊥
HasLostBoard first (turn ∷ earlier) board = (before : Picture) × Plays first earlier before × LosesBelow turn.line before.chart board

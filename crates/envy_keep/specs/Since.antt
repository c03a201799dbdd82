-- What a kept memory did since a trace began, and which array a crash of the machine leaves of it.
use Rattle.std.specs.Prelude.{◌≡◌, ◌<◌, false, true, IsTrue, ℕ, List, [], ◌∷◌, length, nat_lt, refl, Err}
use Rattle.std.proofs.lemmas.Bool.{lt-ltb}
use Rattle.envy_base.specs.Shape.{version_of}
use Rattle.envy_array.specs.Array.{Array, undone}
use Rattle.envy_synced.specs.Disk.{IsLast, IsSynced}
use Rattle.envy_soundness.specs.Sound.{IsSound}
use Rattle.envy_meaning.specs.Stands.{Stands}
use Rattle.envy_soundness.specs.Words.{durable}
use Rattle.envy_map.specs.Codes.{the_magic}
use Rattle.envy_map.specs.Fields.{Chart}
use Rattle.envy_memory.specs.Picture.{Picture}
use Rattle.envy_trace.specs.declared.fault.LineFault.TheVariants.{Long}
use Rattle.envy_trace.specs.declared.reply.Reply.TheVariants.{Lost}
use Rattle.envy_trace.specs.declared.keep_reply.KeepReply.TheVariants.{Trace as TraceReply}
use Rattle.envy_trace.specs.Keep.{keep_line_of}
use Rattle.envy_run.specs.Tells.{Telling}
use Rattle.envy_run.specs.Tracing.{Start as RunStart}
use Rattle.envy_keep.specs.Playing.{IsOnDisk, LosesBelow, Plays}
use Rattle.envy_keep.specs.Turns.{KeepTurn, KeepRun, LosesKeep, synced_turns, trace_turns}

-- what a service over a kept memory begins with
abbrev pub Start : Type 0
Start = RunStart

-- The board as it was behind the last sync that succeeded, by the notes of the board now. It stood for the array of the
-- last line that was answered `synced`, or of the first line, and a restart would have found the words of that. It was the
-- board of the memory behind that line.
pub record IsSaved (start : Start) (now : Chart) (turns : List KeepTurn) : Type 0 where
  pub was : Chart
  pub synced : IsSynced was
  pub last : IsLast was now
  pub magic : was.fields.magic ≡ the_magic
  pub version : was.fields.version ≡ version_of was.shape
  pub sound : IsSound was
  pub array : Array
  pub run : KeepRun now.shape.entries start.array (synced_turns turns) array
  pub words : durable was ≡ undone array
  pub on_disk : IsOnDisk start.memory (synced_turns turns) was

-- the turns lead from the first array to one for which the board stands, and the memory did below it what its rules say
pub record KeptSince (start : Start) (p : Picture) (turns : List KeepTurn) : Type 0 where
  pub array : Array
  pub run : KeepRun p.chart.shape.entries start.array turns array
  pub stands : Stands p.chart array
  pub telling : Telling start.memory (trace_turns turns) p
  pub plays : Plays start.memory turns p
  pub shape : p.chart.shape ≡ start.memory.chart.shape
  pub saved : IsSaved start p.chart turns

-- Power failed in the last line, which was answered `lost`. The board is formatted and sound, and a restart would find that
-- line done or not done.
pub record LostIn (start : Start) (p : Picture) (turn : KeepTurn) (earlier : List KeepTurn) : Type 0 where
  pub array : Array
  pub run : KeepRun p.chart.shape.entries start.array earlier array
  pub replies : turn.replies ≡ TraceReply Lost ∷ []
  pub found : (left : Array) × LosesKeep array turn.line left × (durable p.chart ≡ left.words)
  pub magic : p.chart.fields.magic ≡ the_magic
  pub version : p.chart.fields.version ≡ version_of p.chart.shape
  pub sound : IsSound p.chart
  pub off : p.chart.on ≡ false
  pub before : Picture
  pub plays : Plays start.memory earlier before
  pub below : LosesBelow turn.line before.chart p.chart
  pub shape : p.chart.shape ≡ start.memory.chart.shape
  pub saved : IsSaved start p.chart earlier

abbrev pub LostSince : Start → Picture → List KeepTurn → Type 0
LostSince start p [] = ⊥
LostSince start p (turn ∷ earlier) = LostIn start p turn earlier

-- the laws of the service

pub on_since : (start : Start) (p : Picture) (turns : List KeepTurn) → KeptSince start p turns → IsTrue p.chart.on
on_since start p turns t = Stands.on (KeptSince.stands t)

pub long_keep : (piece : List ℕ) → 120 < length piece → keep_line_of piece ≡ Err Long
unfolding keep_line_of
long_keep piece far = let test : nat_lt 120 (length piece) ≡ true = lt-ltb 120 (length piece) far in rw test refl

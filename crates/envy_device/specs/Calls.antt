-- The calls that were made on a file and on a second one beside it, with their answers; what both hold after them, and
-- what a crash may leave of the file. The newest call stands first.
use Rattle.std.specs.Prelude.{◌≡◌, ◌⊎◌, ℕ, suc, ◌+◌, ◌≤◌, ◌==◌, Bool, true, false, if◌then◌else◌, List, [], ◌∷◌, ◌++◌, length, take, drop, Result, Ok, Err, refl}
use Rattle.std.specs.Coded.{Coded, code_by, coded×, coded_list, coded_ℕ}
use Rattle.envy_device.specs.Device.{Torn, Mixed, Cut as CutShort}
use Rattle.envy_device.specs.declared.device.ReplaceError.{ReplaceError}
use Rattle.envy_device.specs.declared.device.ReplaceError.TheVariants.{Second, Failed}

pub data Call : Type 0 where
  -- It was synced, and then read whole. That what was read is on the disk is believed: after a write that failed the system
  -- may give what it holds. So a file of the host is written anew after it, and C has the system drop what it holds before.
  Found : (bytes : List ℕ) → Call
  Wrote : (at : ℕ) (bytes : List ℕ) → Call
  WriteFailed : (at : ℕ) (bytes : List ℕ) → Call
  CutTo : (size : ℕ) → Call
  CutFailed : (size : ℕ) → Call
  Synced : Call
  SyncFailed : Call
  -- of the second file: begun with no bytes, written behind its end, and put in the file's place
  Began : Call
  BeginFailed : Call
  Appended : (bytes : List ℕ) → Call
  AppendFailed : (size : ℕ) → Call
  Replaced : Call
  -- it wasn't put there, and the file is as it was; or it may have been put there
  SecondNotReplaced : Call
  ReplaceFailed : Call

-- the bytes of the second file that held these, after a call
abbrev pub second_by : Call → List ℕ → List ℕ
second_by Began second = []
second_by (Appended bytes) second = second ++ bytes
second_by other second = second

-- the bytes of a file that held these, beside a second one, after a call
abbrev pub seen_by : Call → List ℕ → List ℕ → List ℕ
seen_by (Found bytes) second seen = bytes
seen_by (Wrote at bytes) second seen = take at seen ++ bytes ++ drop (at + length bytes) seen
seen_by (CutTo size) second seen = take size seen
seen_by Replaced second seen = second
seen_by other second seen = seen

-- the bytes of the second file after these calls
abbrev pub second_after : List Call → List ℕ
second_after [] = []
second_after (call ∷ past) = second_by call (second_after past)

-- the bytes of a file after these calls
abbrev pub seen_after : List Call → List ℕ
seen_after [] = []
seen_after (call ∷ past) = seen_by call (second_after past) (seen_after past)

-- What a crash may leave of a write of these bytes: in a file that is written byte by byte each byte of the range is the old
-- one or the one that was written, and else it is any.
abbrev pub Tears : Bool → ℕ → List ℕ → List ℕ → List ℕ → Type 0
Tears true at bytes d e = Mixed at bytes d e
Tears false at bytes d e = Torn at (length bytes) d e

-- A call that failed on the file. One that failed on the second file alone left the file as it was.
abbrev pub is_failure : Call → Bool
is_failure (WriteFailed at bytes) = true
is_failure (CutFailed size) = true
is_failure SyncFailed = true
is_failure ReplaceFailed = true
is_failure other = false

-- one of these calls failed
abbrev pub have_failed : List Call → Bool
have_failed [] = false
have_failed (call ∷ past) = if is_failure call then true else have_failed past

-- a call that failed on the second file alone
abbrev pub is_hindrance : Call → Bool
is_hindrance BeginFailed = true
is_hindrance (AppendFailed size) = true
is_hindrance SecondNotReplaced = true
is_hindrance other = false

-- how many of these calls did
abbrev pub hindrances : List Call → ℕ
hindrances [] = 0
hindrances (call ∷ past) = if is_hindrance call then suc (hindrances past) else hindrances past

-- A sync that succeeded leaves what the file holds. Behind a call that failed it leaves what there was: the system may have
-- let go of what it couldn't write, and tells so once.
abbrev pub SyncLeaves : Bool → List ℕ → List ℕ → List ℕ → Type 0
SyncLeaves false seen d e = (e ≡ seen) × (d ≡ e)
SyncLeaves true seen d e = d ≡ e

-- A second file that was put in the file's place was brought to the disk first. Behind a call that failed, or where that
-- failed, either may be there.
abbrev pub ReplaceLeaves : Bool → List ℕ → List ℕ → List ℕ → Type 0
ReplaceLeaves false second d e = e ≡ second
ReplaceLeaves true second d e = (d ≡ e) ⊎ (e ≡ second)

-- What a crash may leave after a call, where the files held these bytes, a call before it had failed or none, and a crash
-- before the call might have left d.
abbrev pub Leaves : Bool → Call → Bool → List ℕ → List ℕ → List ℕ → List ℕ → Type 0
Leaves bytewise (Found bytes) failed second seen d e = e ≡ bytes
Leaves bytewise (Wrote at bytes) failed second seen d e = Tears bytewise at bytes d e
Leaves bytewise (WriteFailed at bytes) failed second seen d e = Tears bytewise at bytes d e
Leaves bytewise (CutTo size) failed second seen d e = CutShort size d e
Leaves bytewise (CutFailed size) failed second seen d e = CutShort size d e
Leaves bytewise Synced failed second seen d e = SyncLeaves failed seen d e
Leaves bytewise Replaced failed second seen d e = ReplaceLeaves failed second d e
Leaves bytewise ReplaceFailed failed second seen d e = (d ≡ e) ⊎ (e ≡ second)
Leaves bytewise other failed second seen d e = d ≡ e

-- what a crash may leave after these calls on a file that is written byte by byte, or isn't
abbrev pub MayLeave : Bool → List Call → List ℕ → Type 0
MayLeave bytewise [] c = c ≡ []
MayLeave bytewise (call ∷ past) c = (d : List ℕ) × MayLeave bytewise past d × Leaves bytewise call (have_failed past) (second_after past) (seen_after past) d c

-- what a crash after so many of the calls, or later, might have left
abbrev pub LeftSince : Bool → List Call → ℕ → List ℕ → Type 0
LeftSince bytewise [] t c = MayLeave bytewise [] c
LeftSince bytewise (call ∷ past) t c = MayLeave bytewise (call ∷ past) c ⊎ ((t ≤ length past) × LeftSince bytewise past t c)

-- the file was on the disk when the call had ended
abbrev pub is_sync : Call → Bool
is_sync (Found bytes) = true
is_sync Synced = true
is_sync Replaced = true
is_sync other = false

-- how often the file was synced, or a sync of it was tried
abbrev pub is_tried : Call → Bool
is_tried Synced = true
is_tried SyncFailed = true
is_tried other = false

abbrev pub syncs_in : List Call → ℕ
syncs_in [] = 0
syncs_in (call ∷ past) = if is_tried call then suc (syncs_in past) else syncs_in past

-- how many calls there were when the last sync had succeeded
abbrev pub synced_at : List Call → ℕ
synced_at [] = 0
synced_at (call ∷ past) = if is_sync call then suc (length past) else synced_at past

-- a call as numbers and bytes, by which the logic tells calls apart
abbrev pub parts : Call → ℕ × (ℕ × (ℕ × List ℕ))
parts (Found bytes) = (0, (0, (0, bytes)))
parts (Wrote at bytes) = (1, (at, (0, bytes)))
parts (WriteFailed at bytes) = (2, (at, (0, bytes)))
parts (CutTo size) = (3, (0, (size, [])))
parts (CutFailed size) = (4, (0, (size, [])))
parts Synced = (5, (0, (0, [])))
parts SyncFailed = (6, (0, (0, [])))
parts Began = (7, (0, (0, [])))
parts BeginFailed = (8, (0, (0, [])))
parts (Appended bytes) = (9, (0, (0, bytes)))
parts (AppendFailed size) = (10, (0, (size, [])))
parts Replaced = (11, (0, (0, [])))
parts SecondNotReplaced = (12, (0, (0, [])))
parts ReplaceFailed = (13, (0, (0, [])))

abbrev pub whole : ℕ → ℕ → ℕ → List ℕ → Call
whole kind at size bytes =
    if kind == 0 then Found bytes
    else (if kind == 1 then Wrote at bytes
    else (if kind == 2 then WriteFailed at bytes
    else (if kind == 3 then CutTo size
    else (if kind == 4 then CutFailed size
    else (if kind == 5 then Synced
    else (if kind == 6 then SyncFailed
    else (if kind == 7 then Began
    else (if kind == 8 then BeginFailed
    else (if kind == 9 then Appended bytes
    else (if kind == 10 then AppendFailed size
    else (if kind == 11 then Replaced
    else (if kind == 12 then SecondNotReplaced
    else ReplaceFailed))))))))))))

abbrev pub made_of : ℕ × (ℕ × (ℕ × List ℕ)) → Call
made_of p = whole p.0 p.1.0 p.1.1.0 p.1.1.1

pub made_of_parts : (call : Call) → made_of (parts call) ≡ call
made_of_parts (Found bytes) = refl
made_of_parts (Wrote at bytes) = refl
made_of_parts (WriteFailed at bytes) = refl
made_of_parts (CutTo size) = refl
made_of_parts (CutFailed size) = refl
made_of_parts Synced = refl
made_of_parts SyncFailed = refl
made_of_parts Began = refl
made_of_parts BeginFailed = refl
made_of_parts (Appended bytes) = refl
made_of_parts (AppendFailed size) = refl
made_of_parts Replaced = refl
made_of_parts SecondNotReplaced = refl
made_of_parts ReplaceFailed = refl

abbrev pub coded_call : Coded Call
coded_call = code_by (ℕ × (ℕ × (ℕ × List ℕ))) (coded× coded_ℕ (coded× coded_ℕ (coded× coded_ℕ (coded_list coded_ℕ)))) parts made_of made_of_parts

-- a call was made, and is the newest: it was done, or it failed
abbrev pub Notes : {E : Type 0} → Call → Call → Result Unit E → List Call → List Call → Type 0
Notes did failed (Ok done) old new = new ≡ did ∷ old
Notes did failed (Err error) old new = new ≡ failed ∷ old

-- the second file was to be put in the file's place: that is the newest call
abbrev pub NotesReplace : Result Unit ReplaceError → List Call → List Call → Type 0
NotesReplace (Ok done) old new = new ≡ Replaced ∷ old
NotesReplace (Err Second) old new = new ≡ SecondNotReplaced ∷ old
NotesReplace (Err Failed) old new = new ≡ ReplaceFailed ∷ old

-- What a file that keeps all its calls holds, and what a crash may leave of it.
use Rattle.std.specs.Prelude.{◌≡◌, ◌⊎◌, ℕ, ◌+◌, ◌≤◌, Bool, true, false, List, [], ◌∷◌, ◌++◌, length, take, drop}
use Rattle.envy_torn.specs.declared.call.Call.{Call}
use Rattle.envy_torn.specs.declared.call.Call.TheVariants.{Write, Cut as CutCall, Sync, Replace, BadWrite, BadCut, BadReplace}
use Rattle.envy_device.specs.Device.{Torn, Mixed, Cut}

-- old with these bytes at this offset
abbrev pub written : List ℕ → ℕ → List ℕ → List ℕ
written old at bytes = take at old ++ bytes ++ drop (at + length bytes) old

-- the bytes of a file after a call
abbrev pub seen_by : Call → List ℕ → List ℕ
seen_by (Write at bytes) seen = written seen at bytes.items
seen_by (CutCall len) seen = take len seen
seen_by Sync seen = seen
seen_by (Replace bytes) seen = bytes.items
seen_by (BadWrite at bytes) seen = seen
seen_by (BadCut len) seen = seen
seen_by (BadReplace bytes) seen = seen

-- the bytes after these calls, the first of them first
abbrev pub seen_after : List Call → List ℕ → List ℕ
seen_after [] seen = seen
seen_after (call ∷ calls) seen = seen_after calls (seen_by call seen)

-- how many of the calls are syncs
abbrev pub sync_in : Call → ℕ
sync_in Sync = 1
sync_in other = 0

abbrev pub syncs_in : List Call → ℕ
syncs_in [] = 0
syncs_in (call ∷ calls) = sync_in call + syncs_in calls

-- what a crash may leave of a write of these bytes: in a file that is written byte by byte each byte of the range is the old
-- one or the one that was written, and else it is any
abbrev pub Tears : Bool → ℕ → List ℕ → List ℕ → List ℕ → Type 0
Tears true at bytes d e = Mixed at bytes d e
Tears false at bytes d e = Torn at (length bytes) d e

-- what a crash may leave after a call, where it might have left d before it and the file held these bytes
abbrev pub Leaves : Bool → Call → List ℕ → List ℕ → List ℕ → Type 0
Leaves bytewise (Write at bytes) seen d e = Tears bytewise at bytes.items d e
Leaves bytewise (CutCall len) seen d e = Cut len d e
Leaves bytewise Sync seen d e = (e ≡ seen) × (d ≡ e)
Leaves bytewise (Replace bytes) seen d e = e ≡ bytes.items
Leaves bytewise (BadWrite at bytes) seen d e = Tears bytewise at bytes.items d e
Leaves bytewise (BadCut len) seen d e = Cut len d e
Leaves bytewise (BadReplace bytes) seen d e = d ≡ e ⊎ e ≡ bytes.items

-- what a crash may leave after these calls, where it might have left what has this property before them
abbrev pub Outcome : Bool → List Call → List ℕ → (List ℕ → Type 0) → List ℕ → Type 0
Outcome bytewise [] seen may c = may c
Outcome bytewise (call ∷ calls) seen may c = Outcome bytewise calls (seen_by call seen) (λ e. (d : List ℕ) × may d × Leaves bytewise call seen d e) c

-- what a crash may leave of a file that held these bytes at first, all of them on the disk
abbrev pub OutcomeOf : Bool → List ℕ → List Call → List ℕ → Type 0
OutcomeOf bytewise first calls c = Outcome bytewise calls first (λ e. e ≡ first) c

-- what a crash after so many of the calls, or later, might have left
abbrev pub LeftBy : Bool → List ℕ → List Call → ℕ → List ℕ → Type 0
LeftBy bytewise first calls t c = (k : ℕ) × (t ≤ k) × (k ≤ length calls) × OutcomeOf bytewise first (take k calls) c

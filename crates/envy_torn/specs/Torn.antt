-- A file in memory that a crash tears.
use Rattle.std.specs.Prelude.{◌≡◌, ◌⊎◌, ℕ, ◌≤◌, Bool, true, List, [], ◌∷◌, ◌++◌, length, Result, Ok, Err}
use Rattle.std.specs.Global.{Vec}
use Rattle.std.proofs.Common.{subst, sym, arith}
use Rattle.std.proofs.lemmas.List.{take_all}
use Rattle.envy_device.specs.declared.device.DeviceFailed.{DeviceFailed}
use Rattle.envy_device.specs.Calls.{hindrances}
use Rattle.envy_torn.specs.declared.call.Call.{Call}
use Rattle.envy_torn.specs.declared.call.Call.TheVariants.{BadWrite}
use Rattle.envy_torn.specs.declared.torn.TornFile.{TornFile}
use Rattle.envy_torn.specs.Calls.{OutcomeOf, LeftBy, syncs_in}

abbrev pub file_bytes : TornFile → List ℕ
file_bytes file = file.bytes.items

abbrev pub file_second : TornFile → List ℕ
file_second file = file.second.items

abbrev pub file_calls : TornFile → List Call
file_calls file = file.calls.items

abbrev pub file_synced : TornFile → ℕ
file_synced file = file.synced

abbrev pub file_syncs : TornFile → ℕ
file_syncs file = syncs_in file.calls.items

abbrev pub file_failed : TornFile → Bool
file_failed file = file.failed

abbrev pub file_hindered : TornFile → ℕ
file_hindered file = hindrances file.hindrances.calls

abbrev pub file_bytewise : TornFile → Bool
file_bytewise file = file.bytewise

abbrev pub file_outcome : TornFile → List ℕ → Type 0
file_outcome file c = OutcomeOf file.bytewise file.first.items file.calls.items c

abbrev pub file_left : TornFile → ℕ → List ℕ → Type 0
file_left file t c = LeftBy file.bytewise file.first.items file.calls.items t c

-- nothing was done to the file
pub record Kept (old new : TornFile) : Type 0 where
  pub calls : new.calls.items ≡ old.calls.items
  pub first : new.first.items ≡ old.first.items
  pub synced : new.synced ≡ old.synced
  pub bytewise : new.bytewise ≡ old.bytewise
  pub hindrances : new.hindrances ≡ old.hindrances

-- this call was made
pub record Noted (call : Call) (old new : TornFile) : Type 0 where
  pub calls : new.calls.items ≡ old.calls.items ++ call ∷ []
  pub first : new.first.items ≡ old.first.items
  pub synced : new.synced ≡ old.synced
  pub bytewise : new.bytewise ≡ old.bytewise
  pub hindrances : new.hindrances ≡ old.hindrances

-- a call was made, or memory ran out and nothing was done
abbrev pub Finished : Call → TornFile → Result Unit DeviceFailed → TornFile → Type 0
Finished call old (Ok done) new = Noted call old new × (new.failed ≡ old.failed)
Finished call old (Err failed) new = Kept old new × (new.failed ≡ true)

-- a write of these bytes failed: it is noted, or memory ran out and nothing was done
abbrev pub Unwritten : ℕ → List ℕ → TornFile → TornFile → Type 0
Unwritten at bytes old new = ((copy : Vec ℕ) × (copy.items ≡ bytes) × Noted (BadWrite at copy) old new) ⊎ Kept old new

pub counts_now_lem : (file : TornFile) (t : ℕ) (c : List ℕ) → t ≤ length file.calls.items → file_outcome file c → file_left file t c
counts_now_lem file t c le now = (
  length file.calls.items,
  le,
  omega arith,
  subst (λ (l : List Call). OutcomeOf file.bytewise file.first.items l c) (sym (take_all (length file.calls.items) file.calls.items (omega arith))) now,
)

pub only_now_lem : (file : TornFile) (c : List ℕ) → file_left file (length file.calls.items) c → file_outcome file c
only_now_lem file c left =
    subst (λ (l : List Call). OutcomeOf file.bytewise file.first.items l c) (take_all left.0 file.calls.items left.1) left.3

pub synced_before_lem : (file : TornFile) → file.synced ≤ length file.calls.items
synced_before_lem file = file.synced_before

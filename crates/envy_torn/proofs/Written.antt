-- What the calls of a file in memory mean for a crash.
use Rattle.std.proofs.Common.{◌≡◌, ◌⊎◌, ⊎_elim, inl, inr, ℕ, ◌+◌, ◌≤◌, List, [], ◌∷◌, ◌++◌, length, Bool, true, false, Result, Ok, Err, OnOk, OnErr, refl, sym, ◌∙◌, ap, subst, arith, length-append}
use Rattle.std.proofs.lemmas.Bool.{false≢true}
use Rattle.std.proofs.lemmas.List.{take_all}
use Rattle.envy_device.specs.Device.{Torn, Mixed, Cut, Follows, Elapses, Serves}
use Rattle.envy_device.specs.declared.device.DeviceFailed.{DeviceFailed}
use Rattle.envy_torn.specs.declared.call.Call.{Call}
use Rattle.envy_torn.specs.declared.call.Call.TheVariants.{Sync, BadWrite}
use Rattle.envy_torn.specs.declared.torn.TornFile.{TornFile}
use Rattle.envy_torn.specs.Calls.{seen_by, seen_after, sync_in, syncs_in, Tears, Leaves, OutcomeOf, LeftBy}
use Rattle.envy_torn.specs.Torn.{file_bytes, file_outcome, file_left, file_syncs, Kept, Noted, Finished, Unwritten}
use Rattle.envy_torn.proofs.Outcomes.{seen_more, outcome_more, time_same, time_more}

-- a step that does nothing
pub torn_none : (at n : ℕ) (d : List ℕ) → Torn at n d d
torn_none at n d = record { before = refl; after = refl; no_shorter = omega arith; no_longer = omega arith }

-- a write that reaches nothing
pub cut_none : (n : ℕ) (d : List ℕ) → Cut n d d
cut_none n d = record { no_shorter = omega arith; front = take_all (length d) d (omega arith) }

pub mixed_none : (at : ℕ) (bytes d : List ℕ) → Mixed at bytes d d
mixed_none at bytes d = record { torn = torn_none at (length bytes) d; each = λ i lt within. inr refl }

-- what a crash leaves of a write, by what the file is trusted for
pub tears_torn : (w : Bool) (at : ℕ) (bytes d e : List ℕ) → Tears w at bytes d e → Torn at (length bytes) d e
tears_torn true at bytes d e tears = tears.torn
tears_torn false at bytes d e tears = tears

pub tears_mixed : (w : Bool) (at : ℕ) (bytes d e : List ℕ) → w ≡ true → Tears w at bytes d e → Mixed at bytes d e
tears_mixed true at bytes d e is tears = tears
tears_mixed false at bytes d e is tears = absurd (false≢true is)

-- a call that is noted behind what kept the file is noted of it
pub noted_after : (call : Call) (old mid new : TornFile) → Kept old mid → Noted call mid new → Noted call old new
noted_after call old mid new kept noted = record {
  calls = noted.calls ∙ ap (λ (l : List Call). l ++ call ∷ []) kept.calls;
  first = noted.first ∙ kept.first;
  synced = noted.synced ∙ kept.synced;
  bytewise = noted.bytewise ∙ kept.bytewise;
  hindrances = noted.hindrances ∙ kept.hindrances;
}

pub kept_after : (old mid new : TornFile) → Kept old mid → Kept mid new → Kept old new
kept_after old mid new a b = record { calls = b.calls ∙ a.calls; first = b.first ∙ a.first; synced = b.synced ∙ a.synced; bytewise = b.bytewise ∙ a.bytewise; hindrances = b.hindrances ∙ a.hindrances }

pub bytes_kept : (old new : TornFile) → Kept old new → file_bytes new ≡ file_bytes old
bytes_kept old new kept =
    new.seen ∙ ap (λ (l : List Call). seen_after l new.first.items) kept.calls ∙ ap (λ (f : List ℕ). seen_after old.calls.items f) kept.first ∙ sym old.seen

pub outcome_kept : (old new : TornFile) → Kept old new → (c : List ℕ) → file_outcome new c → file_outcome old c
outcome_kept old new kept c left =
    subst (λ (w : Bool). OutcomeOf w old.first.items old.calls.items c) kept.bytewise
    (subst (λ (f : List ℕ). OutcomeOf new.bytewise f old.calls.items c) kept.first (subst (λ (l : List Call). OutcomeOf new.bytewise new.first.items l c) kept.calls left))

Times : Bool → List ℕ → List Call → Bool → List ℕ → List Call → Type 0
Times w first calls w' first' calls' = Elapses (length calls) (length calls') (LeftBy w first calls) (LeftBy w' first' calls') (OutcomeOf w' first' calls')

-- what keeps a file takes no time
pub time_kept : (old new : TornFile) → Kept old new → Elapses (length old.calls.items) (length new.calls.items) (file_left old) (file_left new) (file_outcome new)
unfolding Times
time_kept old new kept =
    let first = old.first.items in
    let calls = old.calls.items in
    let was = old.bytewise in
    subst (λ (w : Bool). Times was first calls w new.first.items new.calls.items) (sym kept.bytewise)
    (subst (λ (f : List ℕ). Times was first calls was f new.calls.items) (sym kept.first)
    (subst (λ (l : List Call). Times was first calls was first l) (sym kept.calls) (time_same was first calls)))

-- one call more
module _ (call : Call) (old : TornFile) (calls : List Call) (first : List ℕ) (w : Bool) (more : calls ≡ old.calls.items ++ call ∷ []) (same : first ≡ old.first.items) (still : w ≡ old.bytewise) where
  pub seen_once_more : seen_after calls first ≡ seen_by call (file_bytes old)
  seen_once_more =
      ap (λ (l : List Call). seen_after l first) more
      ∙ ap (λ (f : List ℕ). seen_after (old.calls.items ++ call ∷ []) f) same
      ∙ seen_more old.calls.items call old.first.items
      ∙ ap (λ (b : List ℕ). seen_by call b) (sym old.seen)

  -- what a crash leaves with one call more it leaves of what it left before
  pub left_more : (c : List ℕ) → OutcomeOf w first calls c → (d : List ℕ) × file_outcome old d × Leaves old.bytewise call (file_bytes old) d c
  left_more c left =
      let before = old.first.items in
      let here : OutcomeOf old.bytewise before (old.calls.items ++ call ∷ []) c =
      subst (λ (x : Bool). OutcomeOf x before (old.calls.items ++ call ∷ []) c) still
      (subst (λ (f : List ℕ). OutcomeOf w f (old.calls.items ++ call ∷ []) c) same (subst (λ (l : List Call). OutcomeOf w first l c) more left)) in
      let from = outcome_more old.bytewise old.calls.items call before (λ e. e ≡ before) c here in
      (from.0, from.1, subst (λ (b : List ℕ). Leaves old.bytewise call b from.0 c) (sym old.seen) from.2)

  pub time_goes : Elapses (length old.calls.items) (length calls) (file_left old) (LeftBy w first calls) (OutcomeOf w first calls)
  unfolding Times
  time_goes =
      let before = old.first.items in
      let was = old.calls.items in
      let x = old.bytewise in
      subst (λ (y : Bool). Times x before was y first calls) (sym still)
      (subst (λ (f : List ℕ). Times x before was x f calls) (sym same) (subst (λ (l : List Call). Times x before was x before l) (sym more) (time_more x before was call)))

module _ (call : Call) (old new : TornFile) (noted : Noted call old new) where
  pub bytes_noted : file_bytes new ≡ seen_by call (file_bytes old)
  bytes_noted = new.seen ∙ seen_once_more call old new.calls.items new.first.items new.bytewise noted.calls noted.first noted.bytewise

  -- the same of the file
  pub outcome_noted : (c : List ℕ) → file_outcome new c → (d : List ℕ) × file_outcome old d × Leaves old.bytewise call (file_bytes old) d c
  outcome_noted = left_more call old new.calls.items new.first.items new.bytewise noted.calls noted.first noted.bytewise

  -- a noted call takes time
  pub time_noted : Elapses (length old.calls.items) (length new.calls.items) (file_left old) (file_left new) (file_outcome new)
  time_noted = time_goes call old new.calls.items new.first.items new.bytewise noted.calls noted.first noted.bytewise

-- where a call is finished, whatever its result
pub time_finished : (call : Call) (old mid new : TornFile) (result : Result Unit DeviceFailed) → Kept old mid → Finished call mid result new → Elapses (length old.calls.items) (length new.calls.items) (file_left old) (file_left new) (file_outcome new)
time_finished call old mid new (Ok done) kept is = time_noted call old new (noted_after call old mid new kept is.0)
time_finished call old mid new (Err failed) kept is = time_kept old new (kept_after old mid new kept is.0)

-- a call that is no sync leaves the last sync
pub synced_finished : (call : Call) (old mid new : TornFile) (result : Result Unit DeviceFailed) → Kept old mid → Finished call mid result new → new.synced ≡ old.synced
synced_finished call old mid new (Ok done) kept (noted, same) = noted.synced ∙ kept.synced
synced_finished call old mid new (Err failed) kept (none, now) = none.synced ∙ kept.synced

-- what a crash leaves of a call is a step from what it left before
pub crash_finished : (call : Call) (old mid new : TornFile) (result : Result Unit DeviceFailed) (step : List ℕ → List ℕ → Type 0) → Kept old mid → Finished call mid result new
    → ((d c : List ℕ) → Leaves old.bytewise call (file_bytes old) d c → step d c) → ((c : List ℕ) → file_outcome old c → step c c) → Follows step (file_outcome old) (file_outcome new)
crash_finished call old mid new (Ok done) step kept is leaves none c left =
    let from = outcome_noted call old new (noted_after call old mid new kept is.0) c left in
    (from.0, from.1, leaves from.0 c from.2)
crash_finished call old mid new (Err failed) step kept is leaves none c left =
    let was = outcome_kept old new (kept_after old mid new kept is.0) c left in
    (c, was, none c was)

-- where it failed
pub time_failed : (call : Call) (old mid new : TornFile) → Kept old mid → Noted call mid new ⊎ Kept mid new → Elapses (length old.calls.items) (length new.calls.items) (file_left old) (file_left new) (file_outcome new)
time_failed call old mid new kept (inl noted) = time_noted call old new (noted_after call old mid new kept noted)
time_failed call old mid new kept (inr none) = time_kept old new (kept_after old mid new kept none)

-- a call that fails leaves the last sync, too
pub synced_failed : (call : Call) (old mid new : TornFile) → Kept old mid → Noted call mid new ⊎ Kept mid new → new.synced ≡ old.synced
synced_failed call old mid new kept (inl noted) = noted.synced ∙ kept.synced
synced_failed call old mid new kept (inr none) = none.synced ∙ kept.synced

-- one that changes nothing changes nothing where it fails
pub bytes_failed : (call : Call) (old mid new : TornFile) → ((seen : List ℕ) → seen_by call seen ≡ seen) → Kept old mid → Noted call mid new ⊎ Kept mid new → file_bytes new ≡ file_bytes old
bytes_failed call old mid new same kept (inl noted) = bytes_noted call old new (noted_after call old mid new kept noted) ∙ same (file_bytes old)
bytes_failed call old mid new same kept (inr none) = bytes_kept old new (kept_after old mid new kept none)

-- and a crash leaves a step from before
pub crash_failed : (call : Call) (old mid new : TornFile) (step : List ℕ → List ℕ → Type 0) → Kept old mid → Noted call mid new ⊎ Kept mid new
    → ((d c : List ℕ) → Leaves old.bytewise call (file_bytes old) d c → step d c) → ((c : List ℕ) → file_outcome old c → step c c) → Follows step (file_outcome old) (file_outcome new)
crash_failed call old mid new step kept (inl noted) leaves none c left =
    let from = outcome_noted call old new (noted_after call old mid new kept noted) c left in
    (from.0, from.1, leaves from.0 c from.2)
crash_failed call old mid new step kept (inr same) leaves none c left =
    let was = outcome_kept old new (kept_after old mid new kept same) c left in
    (c, was, none c was)

-- the clauses that ask for the result
pub bytes_finished : (call : Call) (old mid new : TornFile) (result : Result Unit DeviceFailed) (bytes : List ℕ) → Kept old mid → Finished call mid result new → seen_by call (file_bytes old) ≡ bytes → OnOk result (file_bytes new ≡ bytes)
bytes_finished call old mid new (Ok done) bytes kept is same = bytes_noted call old new (noted_after call old mid new kept is.0) ∙ same
bytes_finished call old mid new (Err failed) bytes kept is same = tt

pub same_finished : (call : Call) (old mid new : TornFile) (result : Result Unit DeviceFailed) (step : List ℕ → List ℕ → Type 0) → Kept old mid → Finished call mid result new → step (file_bytes old) (file_bytes old) → OnErr result (step (file_bytes old) (file_bytes new))
same_finished call old mid new (Ok done) step kept is none = tt
same_finished call old mid new (Err failed) step kept is none =
    subst (λ (b : List ℕ). step (file_bytes old) b) (sym (bytes_kept old new (kept_after old mid new kept is.0))) none

-- a file fails from its first failure on
pub serves_finished : (call : Call) (old mid new : TornFile) (result : Result Unit DeviceFailed) → Finished call mid result new → mid.failed ≡ old.failed → mid.failed ≡ false → Serves old.failed new.failed result
serves_finished call old mid new (Ok done) is same none = record { stays = λ was. absurd (false≢true (sym none ∙ same ∙ was)); ok = is.1 ∙ none; err = tt }
serves_finished call old mid new (Err failed) is same none = record { stays = λ was. is.1; ok = tt; err = is.1 }

-- a sync
module _ (old mid : TornFile) (kept : Kept old mid) (calls : List Call) (added : calls ≡ mid.calls.items ++ Sync ∷ []) where
  grown : calls ≡ old.calls.items ++ Sync ∷ []
  grown = added ∙ ap (λ (l : List Call). l ++ Sync ∷ []) kept.calls

  pub sync_seen : mid.bytes.items ≡ seen_after calls mid.first.items
  sync_seen = bytes_kept old mid kept ∙ sym (seen_once_more Sync old calls mid.first.items mid.bytewise grown kept.first kept.bytewise)

  -- behind a sync a crash leaves what is seen,
  pub sync_only : (c : List ℕ) → OutcomeOf mid.bytewise mid.first.items calls c → c ≡ file_bytes old
  sync_only c left = let from = left_more Sync old calls mid.first.items mid.bytewise grown kept.first kept.bytewise c left in from.2.0

  -- which it might have left before
  pub sync_crash : (c : List ℕ) → OutcomeOf mid.bytewise mid.first.items calls c → file_outcome old c
  sync_crash c left = let from = left_more Sync old calls mid.first.items mid.bytewise grown kept.first kept.bytewise c left in subst (λ (e : List ℕ). file_outcome old e) from.2.1 from.1

  pub sync_time : Elapses (length old.calls.items) (length calls) (file_left old) (LeftBy mid.bytewise mid.first.items calls) (OutcomeOf mid.bytewise mid.first.items calls)
  sync_time = time_goes Sync old calls mid.first.items mid.bytewise grown kept.first kept.bytewise

-- a call that was added, and where memory ran out
module _ (old : TornFile) (call : Call) (calls : List Call) (still : (seen : List ℕ) → seen_by call seen ≡ seen) where
  pub seen_added : (added : Bool) → (added ≡ true → calls ≡ old.calls.items ++ call ∷ []) → (added ≡ false → calls ≡ old.calls.items) → old.bytes.items ≡ seen_after calls old.first.items
  seen_added true more same =
      old.seen ∙ sym (still (seen_after old.calls.items old.first.items)) ∙ sym (seen_more old.calls.items call old.first.items) ∙ ap (λ (l : List Call). seen_after l old.first.items) (sym (more refl))
  seen_added false more same = old.seen ∙ ap (λ (l : List Call). seen_after l old.first.items) (sym (same refl))

  pub synced_added : (added : Bool) → (added ≡ true → calls ≡ old.calls.items ++ call ∷ []) → (added ≡ false → calls ≡ old.calls.items) → old.synced ≤ length calls
  synced_added true more same = omega (arith, old.synced_before, ap length (more refl), length-append old.calls.items (call ∷ []))
  synced_added false more same = omega (arith, old.synced_before, ap length (same refl))

-- what is seen is what the calls make of the first bytes
pub seen_grown : (old : TornFile) (call : Call) (calls : List Call) (next : List ℕ) → calls ≡ old.calls.items ++ call ∷ [] → next ≡ seen_by call old.bytes.items → next ≡ seen_after calls old.first.items
seen_grown old call calls next more is =
    is ∙ ap (λ (b : List ℕ). seen_by call b) old.seen ∙ sym (seen_more old.calls.items call old.first.items) ∙ ap (λ (l : List Call). seen_after l old.first.items) (sym more)

-- a replacement that failed: the old file or the second one
pub crash_unreplaced : (call : Call) (second : List ℕ) (old mid new : TornFile) → ((seen d e : List ℕ) → Leaves old.bytewise call seen d e → d ≡ e ⊎ e ≡ second) → Kept old mid → Noted call mid new ⊎ Kept mid new
    → (c : List ℕ) → file_outcome new c → file_outcome old c ⊎ c ≡ second
crash_unreplaced call second old mid new leaves kept (inl noted) c left =
    let from = outcome_noted call old new (noted_after call old mid new kept noted) c left in
    ⊎_elim (λ same. inl (subst (λ (e : List ℕ). file_outcome old e) same from.1)) (λ now. inr now) (leaves (file_bytes old) from.0 c from.2)
crash_unreplaced call second old mid new leaves kept (inr none) c left = inl (outcome_kept old new (kept_after old mid new kept none) c left)

-- a call leaves what the file is trusted for
pub bytewise_finished : (call : Call) (old mid new : TornFile) (result : Result Unit DeviceFailed) → Kept old mid → Finished call mid result new → new.bytewise ≡ old.bytewise
bytewise_finished call old mid new (Ok done) kept (noted, same) = noted.bytewise ∙ kept.bytewise
bytewise_finished call old mid new (Err failed) kept (none, now) = none.bytewise ∙ kept.bytewise

pub bytewise_failed : (call : Call) (old mid new : TornFile) → Kept old mid → Noted call mid new ⊎ Kept mid new → new.bytewise ≡ old.bytewise
bytewise_failed call old mid new kept (inl noted) = noted.bytewise ∙ kept.bytewise
bytewise_failed call old mid new kept (inr none) = none.bytewise ∙ kept.bytewise

-- how many syncs there are with a call more
pub syncs_more : (calls : List Call) (call : Call) → syncs_in (calls ++ call ∷ []) ≡ syncs_in calls + sync_in call
syncs_more [] call = omega arith
syncs_more (first ∷ calls) call = let more = syncs_more calls call in omega (arith, more)

pub syncs_kept : (old new : TornFile) → Kept old new → file_syncs new ≡ file_syncs old
syncs_kept old new kept = ap syncs_in kept.calls

pub syncs_noted : (call : Call) (old new : TornFile) → sync_in call ≡ 0 → Noted call old new → file_syncs new ≡ file_syncs old
syncs_noted call old new none noted = let more = ap syncs_in noted.calls ∙ syncs_more old.calls.items call in omega (arith, more, none)

pub syncs_finished : (call : Call) (old mid new : TornFile) (result : Result Unit DeviceFailed) → sync_in call ≡ 0 → Kept old mid → Finished call mid result new → file_syncs new ≡ file_syncs old
syncs_finished call old mid new (Ok done) none kept (noted, same) = syncs_noted call mid new none noted ∙ syncs_kept old mid kept
syncs_finished call old mid new (Err failed) none kept (is, now) = syncs_kept mid new is ∙ syncs_kept old mid kept

pub syncs_failed : (call : Call) (old mid new : TornFile) → sync_in call ≡ 0 → Kept old mid → Noted call mid new ⊎ Kept mid new → file_syncs new ≡ file_syncs old
syncs_failed call old mid new none kept (inl noted) = syncs_noted call mid new none noted ∙ syncs_kept old mid kept
syncs_failed call old mid new none kept (inr is) = syncs_kept mid new is ∙ syncs_kept old mid kept

-- a write that failed is a call that did, or nothing
module _ (at : ℕ) (bytes : List ℕ) (old mid new : TornFile) (kept : Kept old mid) where
  pub seen_unwritten : Unwritten at bytes mid new → file_bytes new ≡ file_bytes old
  seen_unwritten (inl (copy, same, noted)) = bytes_failed (BadWrite at copy) old mid new (λ s. refl) kept (inl noted)
  seen_unwritten (inr none) = bytes_kept old new (kept_after old mid new kept none)

  pub torn_unwritten : Unwritten at bytes mid new → Torn at (length bytes) (file_bytes old) (file_bytes new)
  torn_unwritten done = subst (λ (b : List ℕ). Torn at (length bytes) (file_bytes old) b) (sym (seen_unwritten done)) (torn_none at (length bytes) (file_bytes old))

  pub crash_unwritten : (step : List ℕ → List ℕ → Type 0) → ((d c : List ℕ) → Tears old.bytewise at bytes d c → step d c) → ((c : List ℕ) → file_outcome old c → step c c)
      → Unwritten at bytes mid new → Follows step (file_outcome old) (file_outcome new)
  crash_unwritten step tears none (inl (copy, same, noted)) =
      crash_failed (BadWrite at copy) old mid new step kept (inl noted) (λ d c left. tears d c (subst (λ (b : List ℕ). Tears old.bytewise at b d c) same left)) none
  crash_unwritten step tears none (inr still) = λ c left. let was = outcome_kept old new (kept_after old mid new kept still) c left in (c, was, none c was)

  pub time_unwritten : Unwritten at bytes mid new → Elapses (length old.calls.items) (length new.calls.items) (file_left old) (file_left new) (file_outcome new)
  time_unwritten (inl (copy, same, noted)) = time_failed (BadWrite at copy) old mid new kept (inl noted)
  time_unwritten (inr none) = time_kept old new (kept_after old mid new kept none)

  pub synced_unwritten : Unwritten at bytes mid new → new.synced ≡ old.synced
  synced_unwritten (inl (copy, same, noted)) = noted.synced ∙ kept.synced
  synced_unwritten (inr none) = none.synced ∙ kept.synced

  pub bytewise_unwritten : Unwritten at bytes mid new → new.bytewise ≡ old.bytewise
  bytewise_unwritten (inl (copy, same, noted)) = noted.bytewise ∙ kept.bytewise
  bytewise_unwritten (inr none) = none.bytewise ∙ kept.bytewise

  pub syncs_unwritten : Unwritten at bytes mid new → file_syncs new ≡ file_syncs old
  syncs_unwritten (inl (copy, same, noted)) = syncs_failed (BadWrite at copy) old mid new refl kept (inl noted)
  syncs_unwritten (inr none) = syncs_kept mid new none ∙ syncs_kept old mid kept

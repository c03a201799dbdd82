-- Why a call of a log failed.
use Rattle.std.proofs.Common.{◌≡◌, ℕ, ◌^◌, ◌≤◌, Bool, false, IsTrue, List, length, Result, Ok, Err, refl, arith}
use Rattle.std.proofs.lemmas.Bool.{false≢true}
use Rattle.envy_journal.specs.declared.fault.SyncError.{SyncError}
use Rattle.envy_journal.specs.declared.fault.SyncError.TheVariants.{Failed, Full, Ended}
use Rattle.envy_journal.specs.declared.log.Log.{Log}
use Rattle.envy_journal.specs.Log.{HasCause, HasEnded, size_of}

module _ {D : Type 0} (seen : D → List ℕ) (has_failed : D → Bool) (dead : Bool) (log : Log D) where
  -- a failed device has its cause,
  pub by_device : (error : SyncError) → error ≡ Failed → IsTrue (has_failed log.device) → HasCause seen has_failed dead log (Err error)
  by_device error is fails = record { failed = λ e. fails; full = λ e. cc; ended = λ e. cc }

  -- an ended journal its own,
  pub by_end : IsTrue dead → HasCause seen has_failed dead log (Err Ended)
  by_end was = record { failed = λ e. cc; full = λ e. cc; ended = λ e. was }

  -- and a file at the end of its range
  pub by_range : 2 ^ 60 ≤ size_of log → log.end ≤ length (seen log.device) → HasCause seen has_failed dead log (Err Full)
  by_range long within = record { failed = λ e. cc; full = λ e. (long, within); ended = λ e. cc }

  -- what succeeds needs no cause
  pub no_fault : HasCause seen has_failed dead log (Ok tt)
  no_fault = record { failed = λ e. cc; full = λ e. cc; ended = λ e. cc }

module _ {D : Type 0} (seen : D → List ℕ) (has_failed : D → Bool) (log : Log D) where
  -- a log that was alive
  pub cause_on : (dead : Bool) (result : Result Unit SyncError) → HasCause seen has_failed false log result → HasCause seen has_failed dead log result
  cause_on dead result is = record { failed = is.failed; full = is.full; ended = λ e. absurd (false≢true (is.ended e)) }

  -- an error of a journal that hadn't ended ends it
  pub ended_by : (error : SyncError) → HasCause seen has_failed false log (Err error) → HasEnded seen has_failed log
  ended_by Failed is = λ small. is.failed refl
  ended_by Full is = λ small. let why = is.full refl in absurd (omega (arith, why.0, why.1))
  ended_by Ended is = λ small. absurd (false≢true (is.ended refl))

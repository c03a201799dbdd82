-- How long the log is once all is written.
use Rattle.std.proofs.Common.{◌≡◌, ℕ, ◌+◌, ◌≤◌, List, ◌++◌, length, ap, arith, length-append}
use Rattle.envy_journal.specs.declared.log.Log.{Log}
use Rattle.envy_journal.specs.Log.{IsSound, kept_bytes, held_bytes, size_of}
use Rattle.envy_journal.specs.declared.operation.Operation.{Operation}
use Rattle.envy_journal.specs.Joining.{Gains}
use Rattle.envy_journal.specs.Reading.{bytes_of}
use Rattle.envy_journal.proofs.Spilled.{held_long, kept_length}

module _ {D : Type 0} (seen : D → List ℕ) (may_leave : D → List ℕ → Type 0) (left_since : D → ℕ → List ℕ → Type 0) (last : D → ℕ) where
  -- by what is kept and what is held
  pub whole_size : (log : Log D) → IsSound seen may_leave left_since last log → size_of log ≡ length (kept_bytes seen log) + 1 + length (held_bytes seen log)
  whole_size log s = omega (arith, kept_length seen may_leave left_since last log s, held_long seen may_leave left_since last log s, s.gate)

  -- so much longer as more is held
  pub size_more : (log new : Log D) → IsSound seen may_leave left_since last log → IsSound seen may_leave left_since last new → kept_bytes seen new ≡ kept_bytes seen log → (more : List ℕ) → held_bytes seen new ≡ held_bytes seen log ++ more
      → size_of new ≡ size_of log + length more
  size_more log new s t same more also =
      omega (arith, whole_size log s, whole_size new t, ap length same, ap length also, length-append (held_bytes seen log) more)

  -- or by at most as much as an operation takes alone
  pub size_gained : (log new : Log D) → IsSound seen may_leave left_since last log → IsSound seen may_leave left_since last new → kept_bytes seen new ≡ kept_bytes seen log → (o : Operation) → Gains o (held_bytes seen log) (held_bytes seen new)
      → size_of new ≤ size_of log + length (bytes_of o)
  size_gained log new s t same o gains = omega (arith, whole_size log s, whole_size new t, ap length same, gains.size)

  -- and as long if as much is kept and held
  pub size_same : (log new : Log D) → IsSound seen may_leave left_since last log → IsSound seen may_leave left_since last new → kept_bytes seen new ≡ kept_bytes seen log → held_bytes seen new ≡ held_bytes seen log → size_of new ≡ size_of log
  size_same log new s t same also = omega (arith, whole_size log s, whole_size new t, ap length same, ap length also)

-- What a source and a sink of bytes mean, and what each of their calls does.
use Rattle.std.specs.Prelude.{◌≡◌, ℕ, ◌+◌, ◌-◌, ◌^◌, ◌<◌, ◌≤◌, min, max, Bool, false, IsTrue, List, [], ◌∷◌, ◌++◌, length, take, Option, Some, None, IfSome, Result, Ok, Err}
use Rattle.envy_io.specs.declared.source.Failed.{Failed}

-- what a source means
pub record Feed : Type 0 where
  -- the bytes that it has still to give, where it tells them
  pub left : Option (List ℕ)
  -- how often it failed
  pub faults : ℕ

-- what a sink means
pub record Drain : Type 0 where
  -- the bytes that it took, where it tells them
  pub written : Option (List ℕ)
  -- how often it failed
  pub faults : ℕ
  -- whether it was flushed and took nothing since
  pub flushed : Bool

-- a count of 64 bits after one more: it stops at the top
unfoldable pub up : ℕ → ℕ
up n = max n (min (n + 1) (2 ^ 64 - 1))

-- the count is higher than it was, unless it stood at the top
pub record Rises (old new : ℕ) : Type 0 where
  pub kept : old ≤ new
  pub more : old < 2 ^ 64 - 1 → old < new

-- these bytes in front of those that are left, where they are told
abbrev pub with_front : List ℕ → Option (List ℕ) → Option (List ℕ)
with_front piece None = None
with_front piece (Some left) = Some (piece ++ left)

-- these bytes behind those that were written, where they are told
abbrev pub with_end : Option (List ℕ) → List ℕ → Option (List ℕ)
with_end None piece = None
with_end (Some written) piece = Some (written ++ piece)

-- nothing is left, where it is told
abbrev pub IsDry : Option (List ℕ) → Type 0
IsDry left = IfSome left (λ bytes. bytes ≡ [])

-- What one `fill` of a slice does; the slice is seen as it is after the call. The answer n says that its
-- first n bytes are the next n that were left. So 0 comes exactly where none is left. No fault is counted with
-- such an answer, so that none can be told as the end.
abbrev pub Fills : Feed → List ℕ → Result ℕ Failed → Feed → Type 0
Fills old slice (Ok n) new =
    (n ≤ length slice) × (old.left ≡ with_front (take n slice) new.left) × (n ≡ 0 → IsDry old.left) × (new.faults ≡ old.faults)
Fills old slice (Err failed) new = (new.left ≡ old.left) × Rises old.faults new.faults

-- What one `write_some` of a piece does. The answer n says that the first n bytes of the piece were taken.
abbrev pub Writes : Drain → List ℕ → Result ℕ Failed → Drain → Type 0
Writes old piece (Ok n) new =
    (0 < n) × (n ≤ length piece) × (new.written ≡ with_end old.written (take n piece)) × (new.flushed ≡ false) × (old.faults ≤ new.faults)
Writes old piece (Err failed) new = (new.written ≡ old.written) × Rises old.faults new.faults

-- what one `flush` does
abbrev pub Flushes : Drain → Result Unit Failed → Drain → Type 0
Flushes old (Ok done) new = (new.written ≡ old.written) × IsTrue new.flushed × (old.faults ≤ new.faults)
Flushes old (Err failed) new = (new.written ≡ old.written) × Rises old.faults new.faults

-- a sink that was not called stays as it was; one that took something isn't flushed
abbrev pub AfterPiece : List ℕ → Drain → Drain → Type 0
AfterPiece [] old new = new ≡ old
AfterPiece (b ∷ bytes) old new = new.flushed ≡ false

-- What writing a piece whole does. After a failure a front of it was written, and never all of it.
abbrev pub WritesAll : Drain → List ℕ → Result Unit Failed → Drain → Type 0
WritesAll old piece (Ok done) new =
    (new.written ≡ with_end old.written piece) × (old.faults ≤ new.faults) × AfterPiece piece old new
WritesAll old piece (Err failed) new =
    (n : ℕ) × (n < length piece) × (new.written ≡ with_end old.written (take n piece)) × Rises old.faults new.faults

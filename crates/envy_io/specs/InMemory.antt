-- What a source and a sink in memory mean: beside their bytes, which calls fail and how many bytes a call moves.
use Rattle.std.specs.Prelude.{◌≡◌, ◌⊎◌, ℕ, ◌-◌, ◌<◌, min, Bool, true, false, List, ◌++◌, length, take, drop, Some, Result, Ok, Err}
use Rattle.std.specs.List.{Contains}
use Rattle.envy_io.specs.declared.source.Failed.{Failed}
use Rattle.envy_io.specs.Streams.{Feed, Drain, up}

-- a source in memory
pub record MemFeed : Type 0 where
  -- the bytes that it has still to give
  pub left : List ℕ
  -- how many bytes a call gives at most
  pub piece : ℕ
  -- the numbers of the calls that fail, where the first call is number 1
  pub fails : List ℕ
  -- the calls so far
  pub calls : ℕ
  -- the failed calls so far
  pub faults : ℕ

-- a sink in memory
pub record MemDrain : Type 0 where
  -- the bytes that it took
  pub written : List ℕ
  -- how many bytes it takes in all
  pub room : ℕ
  -- the numbers of the calls that fail, where the first call, a write or a flush, is number 1
  pub fails : List ℕ
  -- the calls so far
  pub calls : ℕ
  -- the failed calls so far
  pub faults : ℕ
  -- whether it was flushed and took nothing since
  pub flushed : Bool

-- the same as a source, which tells its bytes
abbrev pub feed_of : MemFeed → Feed
feed_of s = record { left = Some s.left; faults = s.faults }

-- the same as a sink, which tells its bytes
abbrev pub drain_of : MemDrain → Drain
drain_of s = record { written = Some s.written; faults = s.faults; flushed = s.flushed }

-- the next call is one of those that fail
abbrev pub IsToFail : List ℕ → ℕ → Type 0
IsToFail fails calls = Contains fails (up calls)

-- One `fill` of a slice. A call that doesn't fail gives as many bytes as are left, as the slice holds or as a
-- call gives, whichever is fewest, and leaves the rest of the slice as it was.
abbrev pub FillsFrom : MemFeed → List ℕ → Result ℕ Failed → MemFeed → List ℕ → Type 0
FillsFrom old slice (Ok n) new filled =
    ¬ IsToFail old.fails old.calls × (n ≡ min (min (length old.left) (length slice)) old.piece) × (filled ≡ take n old.left ++ drop n slice) × (new ≡ record old { left = drop n old.left; calls = up old.calls })
FillsFrom old slice (Err failed) new filled =
    IsToFail old.fails old.calls × (filled ≡ slice) × (new ≡ record old { calls = up old.calls; faults = up old.faults })

-- One `write_some` of a piece. A call that doesn't fail takes as much of it as there is room for; a call that
-- finds no room fails.
abbrev pub WritesInto : MemDrain → List ℕ → Result ℕ Failed → MemDrain → Type 0
WritesInto old piece (Ok n) new =
    ¬ IsToFail old.fails old.calls × (length old.written < old.room) × (n ≡ min (length piece) (old.room - length old.written)) × (new ≡ record old { written = old.written ++ take n piece; calls = up old.calls; flushed = false })
WritesInto old piece (Err failed) new =
    (IsToFail old.fails old.calls ⊎ (length old.written ≡ old.room)) × (new ≡ record old { calls = up old.calls; faults = up old.faults })

-- one `flush`
abbrev pub FlushesMem : MemDrain → Result Unit Failed → MemDrain → Type 0
FlushesMem old (Ok done) new = ¬ IsToFail old.fails old.calls × (new ≡ record old { calls = up old.calls; flushed = true })
FlushesMem old (Err failed) new =
    IsToFail old.fails old.calls × (new ≡ record old { calls = up old.calls; faults = up old.faults })

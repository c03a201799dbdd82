-- What a sink means that holds bytes back from the one below it.
use Rattle.std.specs.Prelude.{◌≡◌, ℕ, ◌<◌, ◌≤◌, Bool, true, false, IsTrue, List, [], length, drop, Result, Ok, Err}
use Rattle.envy_io.specs.declared.source.Failed.{Failed}
use Rattle.envy_io.specs.Streams.{Drain, with_end}

-- a sink that holds bytes back
pub record Holding : Type 0 where
  -- the sink below
  pub inner : Drain
  -- the bytes that were taken and not handed on
  pub held : List ℕ
  -- whether a call of the sink below failed
  pub failed : Bool
  -- how often a call was answered by a failure
  pub faults : ℕ
  -- whether it was flushed and took nothing since
  pub flushed : Bool

-- The same as a sink: it took what the sink below took, and behind it what is held.
abbrev pub drain_of : Holding → Drain
drain_of s = record { written = with_end s.inner.written s.held; faults = s.faults; flushed = s.flushed }

-- one that holds nothing yet
abbrev pub fresh_holding : Drain → Holding
fresh_holding below = record { inner = below; held = []; failed = false; faults = 0; flushed = false }

-- There is room for as many bytes as may be held, and where nothing failed all of them are still to be handed on.
pub record IsHolding (done : ℕ) (failed : Bool) (long room : ℕ) : Type 0 where
  pub front : done ≤ long
  pub few : long ≤ 65536
  pub fits : 65536 ≤ room
  pub going : failed ≡ false → done ≡ 0

-- Of these bytes those behind the first `done` were left to write. What was written and what is left are together as
-- before; after Ok nothing is left.
abbrev pub Conserves : List ℕ → ℕ → Drain → Result Unit Failed → ℕ → Drain → Type 0
Conserves bytes done old (Ok all) now new =
    (now ≡ length bytes) × (new.written ≡ with_end old.written (drop done bytes))
Conserves bytes done old (Err failed) now new =
    (done ≤ now) × (now ≤ length bytes) × (with_end new.written (drop now bytes) ≡ with_end old.written (drop done bytes))

-- What was held is with the sink below, in order, or the sink below failed and some of it is still held.
abbrev pub HandsOn : Holding → Result Unit Failed → Holding → Type 0
HandsOn old (Ok all) new =
    (old.failed ≡ false) × (new.inner.written ≡ with_end old.inner.written old.held) × (new ≡ record old { inner = new.inner; held = [] })
HandsOn old (Err failed) new =
    (with_end new.inner.written new.held ≡ with_end old.inner.written old.held) × (new ≡ record old { inner = new.inner; held = new.held; failed = true })

-- there is room for a byte, and the sink is the same
abbrev pub MakesRoom : Holding → Result Unit Failed → Holding → Type 0
MakesRoom old (Ok room) new =
    (new.failed ≡ false) × (length new.held < 65536) × (drain_of new ≡ drain_of old)
MakesRoom old (Err failed) new = drain_of new ≡ drain_of old

-- what was held is with the sink below, which is flushed
abbrev pub FlushesThrough : Holding → Result Unit Failed → Holding → Type 0
FlushesThrough old (Ok all) new =
    (old.failed ≡ false) × (new.inner.written ≡ with_end old.inner.written old.held) × IsTrue new.inner.flushed × (new ≡ record old { inner = new.inner; held = [] })
FlushesThrough old (Err failed) new =
    (with_end new.inner.written new.held ≡ with_end old.inner.written old.held) × (new ≡ record old { inner = new.inner; held = new.held; failed = true })

-- After an Ok of `flush` the sink below has all that was taken, and is flushed.
abbrev pub FlushesHeld : Holding → Result Unit Failed → Holding → Type 0
FlushesHeld old (Ok all) new = (new.held ≡ []) × (new.inner.written ≡ with_end old.inner.written old.held) × IsTrue new.inner.flushed
FlushesHeld old (Err failed) new = IsTrue new.failed

-- What a source means that asks the one below it for many bytes at once.
use Rattle.std.specs.Prelude.{◌≡◌, ℕ, ◌<◌, ◌≤◌, List, [], length, take, drop, min, Result, Ok, Err}
use Rattle.envy_io.specs.declared.source.Failed.{Failed}
use Rattle.envy_io.specs.Streams.{Feed, Fills, with_front}

-- a source that holds bytes which it was given
pub record Asked : Type 0 where
  -- the source below
  pub inner : Feed
  -- the bytes that it gave and that were not given on
  pub held : List ℕ

-- the same as a source: what is held, and behind it what the source below has left
abbrev pub feed_of : Asked → Feed
feed_of s = record { left = with_front s.held s.inner.left; faults = s.inner.faults }

-- one that holds nothing yet
abbrev pub fresh_asked : Feed → Asked
fresh_asked below = record { inner = below; held = [] }

-- the bytes held stand in the buffer from `start` on up to the one before `end`
pub record IsAsked (start end long : ℕ) : Type 0 where
  pub order : start ≤ end
  pub within : end ≤ long
  pub some : 0 < long

-- The source below was asked. What is held now is what it gave.
abbrev pub Asks : Asked → Result Unit Failed → Asked → Type 0
Asks old (Ok asked) new = (bytes : List ℕ) × Fills old.inner bytes (Ok (length new.held)) new.inner × (new.held ≡ take (length new.held) bytes)
Asks old (Err failed) new = (new.held ≡ []) × Fills old.inner [] (Err failed) new.inner

-- What is held now is the next that was left, and nothing is held only where nothing was left.
abbrev pub MakesSome : Asked → Result Unit Failed → Asked → Type 0
MakesSome old (Ok some) new = (bytes : List ℕ) × Fills (feed_of old) bytes (Ok (length new.held)) new.inner × (new.held ≡ take (length new.held) bytes)
MakesSome old (Err failed) new = (new.held ≡ []) × Fills (feed_of old) [] (Err failed) new.inner

-- a front of what is held goes to the slice's front
pub record Gives (old : Asked) (slice : List ℕ) (n : ℕ) (new : Asked) (filled : List ℕ) : Type 0 where
  pub many : n ≡ min (length old.held) (length slice)
  pub given : take n filled ≡ take n old.held
  pub long : length filled ≡ length slice
  pub rest : new ≡ record old { held = drop n old.held }

-- nothing is held but what was held before, without a front that was given on
abbrev pub ReadsNoFurther : Asked → Asked → Type 0
ReadsNoFurther old new = (n : ℕ) × (new.held ≡ drop n old.held)

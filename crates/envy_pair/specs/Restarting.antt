-- A pair of which no side is Good, and the return of power.
use Rattle.std.specs.Prelude.{◌≡◌, ◌⊎◌, Bool, true, false, [], ◌∷◌, length, replicate, Result, IsOk, IsErr}
use Rattle.envy_io.specs.declared.source.Failed.{Failed}
use Rattle.envy_io.specs.Streams.{Drain}
use Rattle.envy_soundness.specs.Sound.{IsSound}
use Rattle.envy_soundness.specs.Words.{durable}
use Rattle.envy_memory.specs.Calls.{fresh}
use Rattle.envy_mirror.specs.Mirroring.{Mirrors}
use Rattle.envy_mirror.specs.Pair.{Side, Pair, side_at, IsDark}
use Rattle.envy_mirror.specs.Reviving.{with_side}
use Rattle.envy_mirror.specs.declared.standing.Standing.TheVariants.{Good, Gone}
use Rattle.envy_serve.specs.declared.service.LineOutcome.{LineOutcome}
use Rattle.envy_serve.specs.declared.service.LineOutcome.TheVariants.{Done, WriteFault, Dead}
use Rattle.envy_serve.specs.Streams.{Written, FrontWritten}
use Rattle.envy_serve.specs.Turns.{texts}
use Rattle.envy_trace.specs.declared.reply.Reply.TheVariants.{Restarted}
use Rattle.envy_trace.specs.declared.mirror_reply.MirrorReply.TheVariants.{Array as Plain}
use Rattle.envy_pair.specs.Bills.{Toll, Charged}
use Rattle.envy_pair.specs.MirrorRun.{mirror_grammar}

abbrev pub no_toll : Toll
no_toll = record { pulls = 0; plans = 0; fails = 0; bads = 0 }

-- the side that was Good last
abbrev pub last_side : Pair → Side
last_side p = side_at p.last p

-- no side is Good, and the one that was Good last has no power
pub record IsFallen (p : Pair) : Type 0 where
  pub dark : IsDark p
  pub standing : (last_side p).standing ≡ Gone
  pub off : (last_side p).memory.chart.on ≡ false

-- Power was asked for: the side that was Good last has none still, and a restart would find what it would have found.
-- The other side stayed.
pub record IsStillDark (old new : Pair) : Type 0 where
  pub same : new ≡ record (with_side old.last (side_at old.last new) old) { stale = old.stale }
  pub standing : (side_at old.last new).standing ≡ Gone
  pub off : (side_at old.last new).memory.chart.on ≡ false
  pub sound : IsSound (last_side old).memory.chart → IsSound (side_at old.last new).memory.chart
  pub durable : durable (side_at old.last new).memory.chart ≡ durable (last_side old).memory.chart
  pub charged : Charged no_toll (last_side old).memory (side_at old.last new).memory

-- the side that was Good last is Good, with the words of before, and all pages of the other are stale
pub record IsBack (old new : Pair) : Type 0 where
  pub same : new ≡ record (with_side old.last (side_at old.last new) old) { stale = replicate (length old.stale) true }
  pub standing : (side_at old.last new).standing ≡ Good
  pub mirrors : Mirrors new (fresh (last_side old).memory.chart.shape.shadows (durable (last_side old).memory.chart))
  pub charged : Charged no_toll (last_side old).memory (side_at old.last new).memory

-- power doesn't return
pub record IsForGood (old new : Pair) : Type 0 where
  pub still : IsStillDark old new
  pub dead : (side_at old.last new).memory.chart.lives ≡ 0

abbrev pub Restarts : Bool → Pair → Pair → Type 0
Restarts true old new = IsBack old new
Restarts false old new = IsForGood old new

-- After a failure of both sides, whose own reply was written or not: power is asked for, and its return is told.
-- Nothing more is written after a write that failed.
abbrev pub Recovers : Result Unit Failed → LineOutcome → Pair → Pair → Drain → Drain → Type 0
Recovers wrote Done old new sink then_sink = IsOk wrote × IsBack old new × Written (texts mirror_grammar (Plain Restarted ∷ [])) sink then_sink
Recovers wrote WriteFault old new sink then_sink = IsBack old new × ((IsErr wrote × (then_sink ≡ sink)) ⊎ (IsOk wrote × FrontWritten (texts mirror_grammar (Plain Restarted ∷ [])) sink then_sink))
Recovers wrote Dead old new sink then_sink = IsForGood old new × (then_sink ≡ sink)

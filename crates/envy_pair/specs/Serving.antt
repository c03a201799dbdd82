-- What a pair of memories is between lines, and what one line does to it.
use Rattle.std.specs.Prelude.{◌≡◌, ◌⊎◌, ℕ, ◌+◌, ◌<◌, Bool, true, false, IsTrue, IfSome, List, [], ◌∷◌, length, Err, refl, nat_lt}
use Rattle.std.proofs.lemmas.Bool.{lt-ltb}
use Rattle.envy_array.specs.Array.{Array}
use Rattle.envy_io.specs.Streams.{Drain}
use Rattle.envy_soundness.specs.Sound.{IsSound}
use Rattle.envy_soundness.specs.Words.{durable}
use Rattle.envy_memory.specs.Picture.{counts_of}
use Rattle.envy_mirror.specs.Mirroring.{Mirrors}
use Rattle.envy_mirror.specs.Pair.{Side as PairSide, Pair, side_at}
use Rattle.envy_mirror.specs.Reviving.{which}
use Rattle.envy_mirror.specs.declared.standing.Which.{Which}
use Rattle.envy_serve.specs.declared.service.LineOutcome.{LineOutcome}
use Rattle.envy_serve.specs.declared.service.LineOutcome.TheVariants.{Done, WriteFault, Dead}
use Rattle.envy_serve.specs.Streams.{Written, FrontWritten}
use Rattle.envy_serve.specs.Turns.{count_lines, count_replies, count_of, one_if, texts}
use Rattle.envy_trace.specs.Mirror.{mirror_line_of}
use Rattle.envy_trace.specs.declared.fault.LineFault.TheVariants.{Long}
use Rattle.envy_trace.specs.declared.mirror_line.MirrorLine.{MirrorLine}
use Rattle.envy_trace.specs.declared.mirror_reply.MirrorReply.{MirrorReply}
use Rattle.envy_pair.specs.Bills.{Sums, Bill}
use Rattle.envy_pair.specs.MirrorRun.{MirrorTurn, DoesMirror, MirrorRun, FailsIn, mirror_grammar, before_restart, is_power, is_plan, is_lost, is_fault, just_told, told_in}
use Rattle.envy_pair.specs.State.{SideState, MirrorState}

-- what is known of a side besides its memory: how often it went Gone, and whether it was found without lives
pub record Past : Type 0 where
  pub falls : ℕ
  pub dead : Bool

-- what is known of a pair besides its memories
pub record Known : Type 0 where
  pub array : Array
  pub first : Past
  pub second : Past

abbrev pub no_past : Past
no_past = record { falls = 0; dead = false }

abbrev pub side_of : PairSide → Past → SideState
side_of side past = record { standing = side.standing; falls = past.falls; dead = past.dead }

-- the pair without its boards
abbrev pub state_of : Known → Pair → Which → MirrorState
state_of k p chosen = record { array = k.array; first = side_of p.first k.first; second = side_of p.second k.second; stale = p.stale; last = p.last; chosen = chosen }

-- a side that was found without lives has none
abbrev pub IsSpent : Past → PairSide → Type 0
IsSpent past side = IsTrue past.dead → side.memory.chart.lives ≡ 0

-- the pair stands for the array, and this is known of it
pub record Serves (k : Known) (p : Pair) : Type 0 where
  pub mirrors : Mirrors p k.array
  pub first : IsSpent k.first p.first
  pub second : IsSpent k.second p.second

-- the sums of one line, in which the sides went Gone so often
abbrev pub sums_of : MirrorLine → List MirrorReply → ℕ → ℕ → Sums
sums_of line replies first second = record { lines = 1; powers = one_if (is_power line); plans = one_if (is_plan line); losts = count_of is_lost replies; faults = count_of is_fault replies; first_falls = first; second_falls = second }

-- what a line costs, where the sides went Gone so often in it
pub record Costs (line : MirrorLine) (replies : List MirrorReply) (k : Known) (old : Pair) (one two : ℕ) (new : Pair) : Type 0 where
  pub first_falls : ℕ
  pub second_falls : ℕ
  pub bill : Bill (sums_of line replies first_falls second_falls) old new
  pub first : one ≡ k.first.falls + first_falls
  pub second : two ≡ k.second.falls + second_falls

-- the line was done, and the pair stands for what it left
pub record LineDone (k : Known) (line : MirrorLine) (replies : List MirrorReply) (left : Known) (old : Pair) (side : ℕ) (new : Pair) (new_side : ℕ) : Type 0 where
  pub does : DoesMirror (state_of k old (which side)) line replies (state_of left new (which new_side))
  pub serves : Serves left new
  pub within : new_side < 2
  pub costs : Costs line replies k old left.first.falls left.second.falls new
  pub told : IfSome (told_in replies) (λ counts. counts ≡ counts_of (side_at (which new_side) new).memory.parts)

-- the board of the side that was Good last: power is off for good, and a restart would find the words of this array
pub record IsDeadBoard (mid : MirrorState) (p : Pair) : Type 0 where
  pub off : (side_at mid.last p).memory.chart.on ≡ false
  pub dead : (side_at mid.last p).memory.chart.lives ≡ 0
  pub sound : IsSound (side_at mid.last p).memory.chart
  pub words : durable (side_at mid.last p).memory.chart ≡ mid.array.words

-- power doesn't return
pub record LineDead (k : Known) (line : MirrorLine) (old : Pair) (side : ℕ) (new : Pair) : Type 0 where
  pub mid : MirrorState
  pub fails : FailsIn (state_of k old (which side)) line mid
  pub board : IsDeadBoard mid new
  pub spent_first : IsTrue mid.first.dead → new.first.memory.chart.lives ≡ 0
  pub spent_second : IsTrue mid.second.dead → new.second.memory.chart.lives ≡ 0
  pub costs : Costs line (before_restart line) k old mid.first.falls mid.second.falls new

abbrev pub ObeysMirror : Known → MirrorLine → LineOutcome → Pair → ℕ → Pair → ℕ → Drain → Drain → Type 0
ObeysMirror k line Done old side new new_side sink then_sink = (replies : List MirrorReply) × (left : Known) × LineDone k line replies left old side new new_side × Written (texts mirror_grammar replies) sink then_sink
ObeysMirror k line WriteFault old side new new_side sink then_sink = (replies : List MirrorReply) × (left : Known) × LineDone k line replies left old side new new_side × FrontWritten (texts mirror_grammar replies) sink then_sink
ObeysMirror k line Dead old side new new_side sink then_sink = LineDead k line old side new × (Written (texts mirror_grammar (before_restart line)) sink then_sink ⊎ FrontWritten (texts mirror_grammar (before_restart line)) sink then_sink)

-- what a service over a pair begins with
pub record Start : Type 0 where
  pub state : MirrorState
  pub pair : Pair

-- the sums of the turns, in which the sides went Gone so often
abbrev pub sums_since : List MirrorTurn → ℕ → ℕ → Sums
sums_since turns first second = record { lines = length turns; powers = count_lines is_power turns; plans = count_lines is_plan turns; losts = count_replies is_lost turns; faults = count_replies is_fault turns; first_falls = first; second_falls = second }

-- what the pair did since a trace began
pub record MirroredSince (start : Start) (p : Pair) (side : ℕ) (turns : List MirrorTurn) : Type 0 where
  pub known : Known
  pub run : MirrorRun start.state turns (state_of known p (which side))
  pub serves : Serves known p
  pub within : side < 2
  pub bill : Bill (sums_since turns known.first.falls known.second.falls) start.pair p
  pub told : IfSome (just_told turns) (λ counts. counts ≡ counts_of (side_at (which side) p).memory.parts)

-- power failed in the last line and didn't return
pub record FellIn (start : Start) (p : Pair) (turn : MirrorTurn) (earlier : List MirrorTurn) : Type 0 where
  pub before : MirrorState
  pub run : MirrorRun start.state earlier before
  pub replies : turn.replies ≡ before_restart turn.line
  pub mid : MirrorState
  pub fails : FailsIn before turn.line mid
  pub board : IsDeadBoard mid p
  pub spent_first : IsTrue mid.first.dead → p.first.memory.chart.lives ≡ 0
  pub spent_second : IsTrue mid.second.dead → p.second.memory.chart.lives ≡ 0
  pub bill : Bill (sums_since (turn ∷ earlier) mid.first.falls mid.second.falls) start.pair p

abbrev pub FellSince : Start → Pair → List MirrorTurn → Type 0
FellSince start p [] = ⊥
FellSince start p (turn ∷ earlier) = FellIn start p turn earlier

-- the pair stands for an array
pub record IsReady (p : Pair) (side : ℕ) : Type 0 where
  pub array : Array
  pub mirrors : Mirrors p array
  pub within : side < 2

-- the laws of the service

pub ready_since : (start : Start) (p : Pair) (side : ℕ) (turns : List MirrorTurn) → MirroredSince start p side turns → IsReady p side
ready_since start p side turns t = record { array = Known.array (MirroredSince.known t); mirrors = Serves.mirrors (MirroredSince.serves t); within = MirroredSince.within t }

pub long_mirror : (piece : List ℕ) → 120 < length piece → mirror_line_of piece ≡ Err Long
unfolding mirror_line_of
long_mirror piece far = let test : nat_lt 120 (length piece) ≡ true = lt-ltb 120 (length piece) far in rw test refl

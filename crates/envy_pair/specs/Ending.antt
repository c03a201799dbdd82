-- What is said of two boards whose pair has done the turns of a trace, and of two whose power didn't return.
use Rattle.std.specs.Prelude.{◌≡◌, ℕ, ◌+◌, ◌-◌, ◌^◌, ◌<◌, ◌≤◌, Bool, true, false, IsTrue, IfSome, List, [], ◌∷◌}
use Rattle.envy_array.specs.Array.{Array}
use Rattle.envy_array.specs.declared.counts.Counts.{Counts}
use Rattle.envy_soundness.specs.Sound.{IsSound}
use Rattle.envy_meaning.specs.Stands.{Stands}
use Rattle.envy_soundness.specs.Words.{durable}
use Rattle.envy_map.specs.Fields.{Chart}
use Rattle.envy_mirror.specs.declared.standing.Which.{Which}
use Rattle.envy_mirror.specs.declared.standing.Which.TheVariants.{First, Second}
use Rattle.envy_serve.specs.Turns.{count_lines, count_replies}
use Rattle.envy_trace.specs.declared.mirror_reply.MirrorReply.{MirrorReply}
use Rattle.envy_trace.specs.declared.mirror_reply.MirrorReply.TheVariants.{Joined}
use Rattle.envy_pair.specs.MirrorRun.{MirrorTurn, MirrorRun, FailsIn, before_restart, is_power, is_plan, is_lost, is_fault, just_told}
use Rattle.envy_pair.specs.State.{SideState, MirrorState, begun, has_good, is_up}

-- the boards of side 0 and side 1
pub record Boards : Type 0 where
  pub first : Chart
  pub second : Chart

abbrev pub board_at : Which → Boards → Chart
board_at First b = b.first
board_at Second b = b.second

-- a side went Gone no more often than its board's power failed; one that was found without lives has none
pub record IsPaid (side : SideState) (now : Chart) : Type 0 where
  pub falls : side.falls ≤ now.cuts
  pub dead : IsTrue side.dead → now.lives ≡ 0

-- a Good side's board stands for the array, and so does a board whose power never failed
pub record Keeps (m : Array) (side : SideState) (now : Chart) : Type 0 where
  pub good : IsTrue (is_up side) → Stands now m
  pub unfailed : now.cuts ≡ 0 → Stands now m

-- flushes, copies and moves add up to the programs that began, where none of these counts is at the top
abbrev pub AddsUp : Counts → Chart → Type 0
AddsUp counts now = counts.flushes < 2 ^ 64 - 1 → counts.copies < 2 ^ 64 - 1 → counts.moves < 2 ^ 64 - 1 → now.begun < 2 ^ 64 - 1 → counts.flushes + counts.copies + counts.moves ≡ now.begun

abbrev pub says_joined : List MirrorReply → Bool
says_joined [] = false
says_joined (Joined ∷ replies) = true
says_joined (reply ∷ replies) = says_joined replies

abbrev pub just_joined : List MirrorTurn → Bool
just_joined [] = false
just_joined (turn ∷ earlier) = says_joined turn.replies

-- The turns lead from the first array, with both sides Good, to a state in which some side is Good, and each Good side's
-- board stands for its array. After `joined` both boards do.
pub record HasMirrored (first : Array) (count : ℕ) (boards : Boards) (turns : List MirrorTurn) : Type 0 where
  pub state : MirrorState
  pub run : MirrorRun (begun first count) turns state
  pub some : IsTrue (has_good state)
  pub keeps_first : Keeps state.array state.first boards.first
  pub keeps_second : Keeps state.array state.second boards.second
  pub paid_first : IsPaid state.first boards.first
  pub paid_second : IsPaid state.second boards.second
  pub told : IfSome (just_told turns) (λ counts. AddsUp counts (board_at state.chosen boards))
  pub joined : IsTrue (just_joined turns) → Stands boards.first state.array × Stands boards.second state.array

-- Power failed in the last line, no side was Good at its end, and power didn't return. The board of the side that was Good
-- last is sound, and a restart would find the words of that line done or not done.
pub record HasFallenIn (first : Array) (count : ℕ) (boards : Boards) (turn : MirrorTurn) (earlier : List MirrorTurn) : Type 0 where
  pub before : MirrorState
  pub run : MirrorRun (begun first count) earlier before
  pub replies : turn.replies ≡ before_restart turn.line
  pub mid : MirrorState
  pub fails : FailsIn before turn.line mid
  pub off : (board_at mid.last boards).on ≡ false
  pub dead : (board_at mid.last boards).lives ≡ 0
  pub sound : IsSound (board_at mid.last boards)
  pub words : durable (board_at mid.last boards) ≡ mid.array.words
  pub paid_first : IsPaid mid.first boards.first
  pub paid_second : IsPaid mid.second boards.second

abbrev pub HasFallen : Array → ℕ → Boards → List MirrorTurn → Type 0
HasFallen first count boards [] = ⊥
HasFallen first count boards (turn ∷ earlier) = HasFallenIn first count boards turn earlier

-- What two boards that began with no counts say of the turns: power was cut by hand no more often than a line `power` or a
-- failed flash operation tells, each line `cut` or `bad` planned one failure, each `lost` has a failure of power of its own
-- besides those cuts, and each `fault` a flash operation that failed.
pub record PairLicences (turns : List MirrorTurn) (boards : Boards) : Type 0 where
  pub pulled : boards.first.pulled + boards.second.pulled ≤ count_lines is_power turns + (boards.first.bads + boards.second.bads)
  pub plans : boards.first.plans + boards.second.plans ≡ count_lines is_plan turns
  pub losts : count_replies is_lost turns + (boards.first.pulled + boards.second.pulled) ≤ boards.first.cuts + boards.second.cuts
  pub faults : count_replies is_fault turns ≤ boards.first.bads + boards.second.bads

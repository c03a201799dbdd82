-- The word `tpca`: a bank's load driven over a memory of zeros, and the report of its sums.
use Rattle.std.specs.Prelude.{◌≡◌, ◌⊎◌, ℕ, ◌+◌, ◌≤◌, ⊤, List, [], ◌∷◌, ◌++◌, slice_index, Option, None, Some, IfSome, Result, Ok, codes, decimal}
use Rattle.std.specs.Fmt.{signed_decimal}
use Rattle.envy_args.specs.declared.command.Command.{Command}
use Rattle.envy_args.specs.declared.command.Command.TheVariants.{Tpca}
use Rattle.envy_args.specs.declared.command.WordsFault.{WordsFault}
use Rattle.envy_base.specs.State.{State}
use Rattle.envy_array.specs.declared.area.Area.{Area}
use Rattle.envy_io.specs.Lines.{newline}
use Rattle.envy_soundness.specs.Sound.{IsSound}
use Rattle.envy_meaning.specs.Stands.{Stands}
use Rattle.envy_soundness.specs.Words.{durable}
use Rattle.envy_map.specs.Fields.{Chart}
use Rattle.envy_memory.specs.Calls.{fresh}
use Rattle.envy_policy.specs.declared.setup.Setup.{Setup}
use Rattle.envy_trace.specs.Stat.{stat_bytes}
use Rattle.envy_serve.specs.Streams.{Streams}
use Rattle.envy_tpca.specs.declared.sums.Sums.{Sums}
use Rattle.envy_tpca.specs.Driving.{AddsUp, PlansCuts, accesses_of, last_cut, plans_in}
use Rattle.envy_tpca.specs.Load.{Draws, seeded}
use Rattle.envy_tpca.specs.Tpc.{Tpc}
use Rattle.envy_run.specs.Counters.{AddsUp as CountsAddUp, IsLow}
use Rattle.envy_run.specs.Done.{OnBoard}
use Rattle.envy_run.specs.Meaning.{Meaning}
use Rattle.envy_run.specs.Outcome.{Outcome}
use Rattle.envy_run.specs.Unserved.{IsUnread, IsUnready, IsUnserved}
use Rattle.envy_run.specs.Writing.{WritesTrace}

-- a name and a number on a line
abbrev pub named : List ℕ → List ℕ → List ℕ
named name number = name ++ number ++ newline ∷ []

-- the four sums of balances and history, and that of what the load gave
abbrev pub sums_text : Sums → List ℕ
sums_text sums =
    named (codes "branches ") (signed_decimal sums.branches)
    ++ named (codes "tellers ") (signed_decimal sums.tellers)
    ++ named (codes "accounts ") (signed_decimal sums.accounts)
    ++ named (codes "history ") (signed_decimal sums.history)
    ++ named (codes "deltas ") (signed_decimal sums.deltas)

-- the report of eight lines
abbrev pub report : Area → Sums → List ℕ
report area sums =
    named (codes "transfers ") (decimal area.transfers)
    ++ sums_text sums
    ++ named (codes "cuts ") (decimal sums.cuts)
    ++ (stat_bytes sums.counts ++ newline ∷ [])

-- the load of these words, drawn from a number
abbrev pub load_of : ℕ → Area → Draws
load_of start area = record { branches = area.branches; accounts = area.accounts; words = seeded start }

-- no line is read
pub record ReadsNothing (o : Outcome) (io : Streams) : Type 0 where
  pub lines : o.lines ≡ 0
  pub taken : o.taken ≡ 0
  pub source : io.feed ≡ io.from

-- The report tells the sums of all transfers. It is written whole and the sink is flushed, or the sink failed behind a
-- front of it.
pub record TellsSums (start : ℕ) (area : Area) (sums : Sums) (o : Outcome) (io : Streams) : Type 0 where
  pub nothing : ReadsNothing o io
  pub adds_up : AddsUp area (load_of start area) sums
  pub writes : WritesTrace (report area sums) o io.to io.sink

-- all transfers are done, and no slot is open
pub record HasPaid (setup : Setup) (start : ℕ) (area : Area) (now : Chart) : Type 0 where
  pub stands : Stands now (fresh setup.shape.shadows (durable now))
  pub words : Tpc area setup.shape.pages (load_of start area) area.transfers (durable now)

-- The report tells what the board counts: flushes, copies and moves add up to the programs that began. Where power never
-- failed, hits and misses add up to the loads and puts of the transfers, eleven for each. Power returned no more often
-- than it could, formatting included.
pub record CountsSums (returns : ℕ) (area : Area) (every : ℕ) (sums : Sums) (now : Chart) : Type 0 where
  pub counts : CountsAddUp 0 sums.counts now
  pub accesses : now.cuts ≡ 0 → IsLow sums.counts.hits → IsLow sums.counts.misses → sums.counts.hits + sums.counts.misses ≡ accesses_of area
  pub cuts : sums.cuts + now.lives ≤ returns
  pub plans : now.plans ≡ plans_in every area.transfers
  pub last_plan : now.last_plan ≡ last_cut every area.transfers None

-- Boards of a kind whose power fails only as it was planned, or by hand: none of them counts a failure before that.
abbrev pub FailsAsPlanned : {B : Type 0} → (B → State) → Type 0
FailsAsPlanned {B} state = (board : B) → (state board).plans ≡ 0 → (state board).pulled ≡ 0 → (state board).cuts ≡ 0

-- The report tells each return of power: those told and those left are those that there were.
pub record TellsReturns (returns : ℕ) (area : Area) (o : Outcome) (io : Streams) : Type 0 where
  pub now : Chart
  pub board_is : o.board ≡ Some now
  pub sums : Sums
  pub cuts : sums.cuts + now.lives ≡ returns
  pub writes : WritesTrace (report area sums) o io.to io.sink

-- the load wasn't begun: no program began, and no cut was planned
pub record IsUnbegun (now : Chart) : Type 0 where
  pub begun : now.begun ≡ 0
  pub plans : now.plans ≡ 0
  pub last_plan : now.last_plan ≡ None

-- a restart finds the words after as many transfers as word 0 says, each of them counted once
pub record IsCounted (setup : Setup) (start : ℕ) (area : Area) (now : Chart) : Type 0 where
  pub sound : IsSound now
  pub few : slice_index (durable now) 0 ≤ area.transfers
  pub words : Tpc area setup.shape.pages (load_of start area) (slice_index (durable now) 0) (durable now)

-- What the board's counts say, whatever the ending: no cut by hand, and no more plans than transfers to be cut, the last
-- of them a cut before one of these.
pub record IsDriver (setup : Setup) (returns : ℕ) (area : Area) (every : ℕ) (now : Chart) : Type 0 where
  pub shape : now.shape ≡ setup.shape
  pub given : now.given ≡ returns
  pub pulled : now.pulled ≡ 0
  pub plans : now.plans ≤ plans_in every area.transfers
  pub last_plan : PlansCuts area every None now.last_plan

-- The report of these sums is written. Or memory ran out, a flash operation failed, or power didn't return, in formatting
-- or in the load: nothing is written.
abbrev pub MaybeTold : ℕ → Area → Option Sums → Outcome → Streams → Type 0
MaybeTold start area (Some sums) o io = TellsSums start area sums o io
MaybeTold start area None o io = IsUnread o io

abbrev pub MaybePaid : Setup → ℕ → Area → Option Sums → Outcome → Type 0
MaybePaid setup start area (Some sums) o = OnBoard (HasPaid setup start area) o
MaybePaid setup start area None o = IsUnready o × IfSome o.board (λ now. IsUnbegun now ⊎ IsCounted setup start area now)

abbrev pub MaybeCounted : ℕ → Area → ℕ → Option Sums → Outcome → Type 0
MaybeCounted returns area every (Some sums) o = OnBoard (CountsSums returns area every sums) o
MaybeCounted returns area every None o = ⊤

-- the word `tpca`, whose runs have their sums as account
abbrev pub driving : Setup → ℕ → ℕ → Area → ℕ → Meaning
driving setup returns start area every = record {
  Account = Option Sums;
  Printed = MaybeTold start area;
  Board = MaybePaid setup start area;
  Licences = λ sums o. IfSome o.board (IsDriver setup returns area every) × MaybeCounted returns area every sums o;
}

-- a report tells each return of power, where one is written
abbrev pub TellsAll : Result Command WordsFault → Outcome → Streams → Type 0
TellsAll (Ok (Tpca setup returns start area every)) o io = TellsReturns returns area o io ⊎ IsUnserved o io
TellsAll command o io = ⊤

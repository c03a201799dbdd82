-- What the calls of a pair answer to the lines of a trace.
use Rattle.std.specs.Prelude.{◌≡◌, ℕ, ◌/◌, IsTrue, Result, Ok, Err}
use Rattle.envy_array.specs.Array.{Array}
use Rattle.envy_array.specs.Step.{Command}
use Rattle.envy_array.specs.Step.{Load as DoLoad, Look as DoLook, Store as DoStore, Begin as DoBegin, Put as DoPut, Commit as DoCommit, Abort as DoAbort, Tick as DoTick}
use Rattle.envy_memory.specs.Picture.{counts_of}
use Rattle.envy_memory.specs.declared.faults.LoadFault.{LoadFault}
use Rattle.envy_mirror.specs.Asking.{Answers}
use Rattle.envy_mirror.specs.Catching.{CatchesUp}
use Rattle.envy_base.specs.declared.faults.PlannedFault.TheVariants.{Cut as PlanCut, Bad as PlanBad}
use Rattle.envy_mirror.specs.Mirroring.{Mirrors}
use Rattle.envy_mirror.specs.Pair.{Pair, is_good, side_at}
use Rattle.envy_mirror.specs.Reading.{Finds, AsksLowest}
use Rattle.envy_mirror.specs.Replies.{Reply as PairReply, Off, Bad as WasBad, Said, load_reply}
use Rattle.envy_mirror.specs.Reviving.{which, plan_side}
use Rattle.envy_mirror.specs.declared.catch_up.Caught.{Caught}
use Rattle.envy_mirror.specs.declared.catch_up.Caught.TheVariants.{Whole as CaughtWhole, Waiting as CaughtWaiting, Woken as CaughtWoken, Copied as CaughtCopied, Joined as CaughtJoined}
use Rattle.envy_mirror.specs.declared.catch_up.CatchFault.{CatchFault}
use Rattle.envy_mirror.specs.declared.catch_up.CatchFault.TheVariants.{Off as CatchOff, Dead as CatchDead, Slipped as CatchSlipped, Bad as CatchBad}
use Rattle.envy_trace.specs.declared.line.Line.{Line}
use Rattle.envy_trace.specs.declared.line.Line.TheVariants.{Empty, Load, Look, Store, Begin, Put, Commit, Abort, Tick, Power, Cut, Bad, Stat}
use Rattle.envy_trace.specs.declared.mirror_line.MirrorLine.{MirrorLine}
use Rattle.envy_trace.specs.declared.mirror_line.MirrorLine.TheVariants.{Array as OfArray, Side, Catch}
use Rattle.envy_trace.specs.declared.reply.Reply.{Reply}
use Rattle.envy_trace.specs.declared.reply.Reply.TheVariants.{Done, Fault, Lost, Armed, Stat as StatLine}
use Rattle.envy_trace.specs.declared.mirror_reply.MirrorReply.{MirrorReply}
use Rattle.envy_trace.specs.declared.mirror_reply.MirrorReply.TheVariants.{Array as Plain, Whole, Waiting, Woken, Copied, Joined, Dead, Slipped}
use Rattle.envy_serve.specs.Answering.{said}
use Rattle.envy_pair.specs.MirrorRun.{may_fault}
use Rattle.envy_pair.specs.declared.answers.BoardRequest.{BoardRequest}
use Rattle.envy_pair.specs.declared.answers.BoardRequest.TheVariants.{Nothing, Power as OfPower}
use Rattle.envy_base.specs.declared.page.TheConstants.{PAGE_WORDS}

-- the reply that shows what the pair answered
abbrev pub shown : PairReply → Reply
shown Off = Lost
shown WasBad = Fault
shown (Said answer) = said answer

-- a command went to each Good side
pub record Commanded (command : Command) (reply : Reply) (old new : Pair) : Type 0 where
  pub answer : PairReply
  pub shows : reply ≡ shown answer
  pub answers : Answers command answer old new
  pub faults : answer ≡ WasBad → IsTrue (may_fault command)

-- the lowest Good side was asked for a word
pub record Loaded (a : ℕ) (reply : Reply) (old new : Pair) : Type 0 where
  pub result : Result ℕ LoadFault
  pub shows : reply ≡ shown (load_reply result)
  pub finds : Finds (DoLoad a) result old new
  pub lowest : AsksLowest (is_good old.first) (is_good old.second) (a / PAGE_WORDS) result old new

pub record Looked (a : ℕ) (reply : Reply) (old new : Pair) : Type 0 where
  pub result : Result ℕ LoadFault
  pub shows : reply ≡ shown (load_reply result)
  pub finds : Finds (DoLook a) result old old
  pub stays : new ≡ old

-- what is heard of a line of the array, where this side is chosen
abbrev pub HearsLine : ℕ → Line → Reply → Pair → Pair → Type 0
HearsLine side (Load a) reply old new = Loaded a reply old new
HearsLine side (Look a) reply old new = Looked a reply old new
HearsLine side (Store a w) reply old new = Commanded (DoStore a w) reply old new
HearsLine side Begin reply old new = Commanded DoBegin reply old new
HearsLine side (Put t a w) reply old new = Commanded (DoPut t a w) reply old new
HearsLine side (Commit t) reply old new = Commanded (DoCommit t) reply old new
HearsLine side (Abort t) reply old new = Commanded (DoAbort t) reply old new
HearsLine side Tick reply old new = Commanded DoTick reply old new
HearsLine side (Cut k g) reply old new = (reply ≡ Armed) × (new ≡ plan_side (which side) (PlanCut k g) old)
HearsLine side (Bad k g) reply old new = (reply ≡ Armed) × (new ≡ plan_side (which side) (PlanBad k g) old)
HearsLine side Stat reply old new = (reply ≡ StatLine (counts_of (side_at (which side) old).memory.parts)) × (new ≡ old)
HearsLine side line reply old new = ⊥

-- the reply that shows what catching up did
abbrev pub caught : Result Caught CatchFault → MirrorReply
caught (Ok CaughtWhole) = Whole
caught (Ok (CaughtWaiting t)) = Waiting t
caught (Ok CaughtWoken) = Woken
caught (Ok (CaughtCopied p)) = Copied p
caught (Ok CaughtJoined) = Joined
caught (Err CatchOff) = Plain Lost
caught (Err CatchDead) = Dead
caught (Err CatchSlipped) = Slipped
caught (Err CatchBad) = Plain Fault

-- what is heard of a line
abbrev pub Hears : MirrorLine → MirrorReply → Pair → ℕ → Pair → ℕ → Type 0
Hears (OfArray line) reply old side new new_side = (one : Reply) × (reply ≡ Plain one) × HearsLine side line one old new × (new_side ≡ side)
Hears (Side x) reply old side new new_side = (reply ≡ Plain Done) × (new ≡ old) × (new_side ≡ x)
Hears Catch reply old side new new_side = (result : Result Caught CatchFault) × (reply ≡ caught result) × CatchesUp result old new × ((m : Array) → Mirrors old m → Mirrors new m) × (new_side ≡ side)

-- the line that asks for this, which is no call of a pair
abbrev pub line_beside : BoardRequest → Line
line_beside Nothing = Empty
line_beside OfPower = Power

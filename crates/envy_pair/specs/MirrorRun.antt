-- What a mirrored pair answers to the lines of a trace: the answers of one array.
use Rattle.std.specs.Prelude.{◌≡◌, ◌≢◌, ◌⊎◌, ℕ, ◌<◌, Bool, true, false, IsTrue, List, [], ◌∷◌, ◌++◌, length, replicate, slice_set, Option, None, Some}
use Rattle.envy_array.specs.Array.{Array, slot_of, restarted}
use Rattle.envy_array.specs.declared.counts.Counts.{Counts}
use Rattle.envy_array.specs.Step.{Command, Answer, Step, Accepts, Lost}
use Rattle.envy_array.specs.Step.{Load as DoLoad, Look as DoLook, Store as DoStore, Begin as DoBegin, Put as DoPut, Commit as DoCommit, Abort as DoAbort, Tick as DoTick}
use Rattle.envy_io.specs.Lines.{newline}
use Rattle.envy_mirror.specs.Catching.{IsLowestStale, NoneStale}
use Rattle.envy_mirror.specs.Replies.{Said, marked}
use Rattle.envy_mirror.specs.Reviving.{which}
use Rattle.envy_mirror.specs.declared.standing.Standing.TheVariants.{Good, Behind, Gone as IsGone}
use Rattle.envy_serve.specs.Grammar.{Grammar}
use Rattle.envy_serve.specs.Turns.{Turn, Leads}
use Rattle.envy_trace.specs.Mirror.{mirror_line_of, mirror_bytes}
use Rattle.envy_serve.specs.Answering.{said, losable}
use Rattle.envy_trace.specs.declared.line.Line.{Line}
use Rattle.envy_trace.specs.declared.line.Line.TheVariants.{Empty, Load, Look, Store, Begin, Put, Commit, Abort, Tick, Power, Cut, Bad, Stat}
use Rattle.envy_trace.specs.declared.mirror_line.MirrorLine.{MirrorLine}
use Rattle.envy_trace.specs.declared.mirror_line.MirrorLine.TheVariants.{Array as OfArray, Side, Catch}
use Rattle.envy_trace.specs.declared.reply.Reply.{Reply}
use Rattle.envy_trace.specs.declared.reply.Reply.TheVariants.{Done, Fault, Lost as IsLost, Restarted, Armed, Stat as StatLine}
use Rattle.envy_trace.specs.declared.mirror_reply.MirrorReply.{MirrorReply}
use Rattle.envy_trace.specs.declared.mirror_reply.MirrorReply.TheVariants.{Array as Plain, Gone, Whole, Waiting, Woken, Copied, Joined, Dead, Slipped}
use Rattle.envy_pair.specs.State.{SideState, MirrorState, Falls, has_good, is_up, gone, cut_chosen, revived}

-- one of two facts, by a test
abbrev pub If : Bool → Type 0 → Type 0 → Type 0
If true so not_so = so
If false so not_so = not_so

-- how lines and replies are spelled
abbrev pub mirror_grammar : Grammar MirrorLine MirrorReply
mirror_grammar = record { reads = mirror_line_of; text = λ reply. mirror_bytes reply ++ newline ∷ [] }

-- a line of a trace and the replies to it
abbrev pub MirrorTurn : Type 0
MirrorTurn = Turn MirrorLine MirrorReply

-- the commands that need flash
abbrev pub may_fault : Command → Bool
may_fault (DoStore a w) = true
may_fault (DoPut t a w) = true
may_fault DoTick = true
may_fault command = false

-- a load or a look: the array answers, and nothing else changes
abbrev pub Asks : MirrorState → Command → List MirrorReply → MirrorState → Type 0
Asks s command replies t = (answer : Answer) × Step s.array command answer s.array × (replies ≡ Plain (said answer) ∷ []) × (t ≡ s)

-- the array answers; the page of a store or put that it accepts is stale now
pub record IsAnswered (s : MirrorState) (command : Command) (replies : List MirrorReply) (t : MirrorState) : Type 0 where
  pub answer : Answer
  pub step : Step s.array command answer t.array
  pub says : replies ≡ Plain (said answer) ∷ []
  pub stale : t.stale ≡ marked command (Said answer) s.stale

-- flash failed in a store, a put or a tick that the array accepts: the array stays
pub record IsFaulted (s : MirrorState) (command : Command) (replies : List MirrorReply) (t : MirrorState) : Type 0 where
  pub may : IsTrue (may_fault command)
  pub accepted : (n : Array) × Accepts s.array command n
  pub says : replies ≡ Plain Fault ∷ []
  pub array : t.array ≡ s.array
  pub stale : t.stale ≡ s.stale

-- a command that leaves some side Good
pub record IsTold (s : MirrorState) (command : Command) (replies : List MirrorReply) (t : MirrorState) : Type 0 where
  pub falls : Falls s t
  pub some : IsTrue (has_good t)
  pub told : IsAnswered s command replies t ⊎ IsFaulted s command replies t

-- a command that leaves no side Good: it was done or not done, and open transactions are undone
pub record Darkens (s : MirrorState) (command : Command) (mid : MirrorState) : Type 0 where
  pub falls : Falls s mid
  pub none : has_good mid ≡ false
  pub lost : Lost s.array command mid.array
  pub stale : mid.stale ≡ s.stale

-- any other command
abbrev pub Commands : MirrorState → Command → List MirrorReply → MirrorState → Type 0
Commands s command replies t =
    IsTold s command replies t
    ⊎ ((replies ≡ Plain IsLost ∷ Plain Restarted ∷ []) × (mid : MirrorState) × Darkens s command mid × (t ≡ revived mid))

-- the array whose open transactions are undone
abbrev pub undo_all_in : MirrorState → MirrorState
undo_all_in s = record s { array = restarted s.array }

-- power of the chosen side is cut by hand
abbrev pub Powers : MirrorState → List MirrorReply → MirrorState → Type 0
Powers s replies t = If (has_good (cut_chosen s)) ((replies ≡ Gone ∷ []) × (t ≡ cut_chosen s)) ((replies ≡ Plain Restarted ∷ []) × (t ≡ revived (undo_all_in (cut_chosen s))))

-- t is the lowest open slot of the array
pub record IsLowestOpen (m : Array) (t : ℕ) : Type 0 where
  pub within : t < 64
  pub open_one : slot_of m t ≢ None
  pub below : (u : ℕ) → u < t → slot_of m u ≡ None

abbrev pub NoneOpen : Array → Type 0
NoneOpen m = (u : ℕ) → u < 64 → slot_of m u ≡ None

-- a stale page can be copied, since no slot is open
pub record MayCopy (m : Array) (side : SideState) (stale : List Bool) (p : ℕ) : Type 0 where
  pub behind : side.standing ≡ Behind
  pub none_open : NoneOpen m
  pub lowest : IsLowestStale stale p

-- the side and the marks of its stale pages stay
abbrev pub Stays : SideState → List Bool → SideState → List Bool → Type 0
Stays old stale new left = (new ≡ old) × (left ≡ stale)

-- a Gone side that power may come to: it wasn't found without lives
abbrev pub MayWake : SideState → Type 0
MayWake side = (side.standing ≡ IsGone) × (side.dead ≡ false)

-- Power of a side that follows failed: where it was asked for, or where a page was being copied. The side is Gone.
abbrev pub Slips : Array → SideState → List Bool → SideState → List Bool → Type 0
Slips m old stale new left = (MayWake old ⊎ ((p : ℕ) × MayCopy m old stale p)) × (new ≡ gone old) × (left ≡ stale)

-- one step by which a side follows the other, which is Good
abbrev pub Follows : Array → MirrorReply → SideState → List Bool → SideState → List Bool → Type 0
Follows m Dead old stale new left = (old.standing ≡ IsGone) × (new ≡ record old { dead = true }) × (left ≡ stale)
Follows m Woken old stale new left = MayWake old × (new ≡ record old { standing = Behind }) × (left ≡ replicate (length stale) true)
Follows m (Waiting t) old stale new left = (old.standing ≡ Behind) × IsLowestOpen m t × Stays old stale new left
Follows m (Copied p) old stale new left = MayCopy m old stale p × (new ≡ old) × (left ≡ slice_set stale p false)
Follows m (Plain Fault) old stale new left = (p : ℕ) × MayCopy m old stale p × Stays old stale new left
Follows m Slipped old stale new left = Slips m old stale new left
Follows m Joined old stale new left = (old.standing ≡ Behind) × NoneOpen m × NoneStale stale × (new ≡ record old { standing = Good }) × (left ≡ stale)
Follows m reply old stale new left = ⊥

-- whichever side isn't Good follows; where both are Good there is nothing to do
abbrev pub CatchesBy : Bool → Bool → MirrorState → MirrorReply → MirrorState → Type 0
CatchesBy true true s reply t = (reply ≡ Whole) × (t ≡ s)
CatchesBy true false s reply t = Follows s.array reply s.second s.stale t.second t.stale × (t ≡ record s { second = t.second; stale = t.stale })
CatchesBy false true s reply t = Follows s.array reply s.first s.stale t.first t.stale × (t ≡ record s { first = t.first; stale = t.stale })
CatchesBy false false s reply t = ⊥

-- one reply, and the state stays
abbrev pub OnlySays : MirrorState → Reply → List MirrorReply → MirrorState → Type 0
OnlySays s reply replies t = (replies ≡ Plain reply ∷ []) × (t ≡ s)

-- a line of the array with its replies
abbrev pub DoesLine : MirrorState → Line → List MirrorReply → MirrorState → Type 0
DoesLine s Empty replies t = (replies ≡ []) × (t ≡ s)
DoesLine s (Load a) replies t = Asks s (DoLoad a) replies t
DoesLine s (Look a) replies t = Asks s (DoLook a) replies t
DoesLine s (Store a w) replies t = Commands s (DoStore a w) replies t
DoesLine s Begin replies t = Commands s DoBegin replies t
DoesLine s (Put u a w) replies t = Commands s (DoPut u a w) replies t
DoesLine s (Commit u) replies t = Commands s (DoCommit u) replies t
DoesLine s (Abort u) replies t = Commands s (DoAbort u) replies t
DoesLine s Tick replies t = Commands s DoTick replies t
DoesLine s Power replies t = Powers s replies t
DoesLine s (Cut k g) replies t = OnlySays s Armed replies t
DoesLine s (Bad k g) replies t = OnlySays s Armed replies t
DoesLine s Stat replies t = (counts : Counts) × OnlySays s (StatLine counts) replies t

-- one line with its replies, from one state to another
abbrev pub DoesMirror : MirrorState → MirrorLine → List MirrorReply → MirrorState → Type 0
DoesMirror s (OfArray line) replies t = DoesLine s line replies t
DoesMirror s (Side x) replies t = (replies ≡ Plain Done ∷ []) × (t ≡ record s { chosen = which x })
DoesMirror s Catch replies t = (reply : MirrorReply) × (replies ≡ reply ∷ []) × CatchesBy (is_up s.first) (is_up s.second) s reply t

-- lines with their replies, the newest first, lead from one state to another
abbrev pub MirrorRun : MirrorState → List MirrorTurn → MirrorState → Type 0
MirrorRun first turns s = Leads (λ earlier. DoesMirror) first turns s

-- No side is Good at the end of the line, before power returns: the state then, with the array that a restart finds.
abbrev pub FailsIn : MirrorState → MirrorLine → MirrorState → Type 0
FailsIn s (OfArray Power) mid = (has_good (cut_chosen s) ≡ false) × (mid ≡ undo_all_in (cut_chosen s))
FailsIn s (OfArray line) mid = (command : Command) × (losable line ≡ Some command) × Darkens s command mid
FailsIn s line mid = ⊥

-- the replies that stand before power is asked for
abbrev pub before_restart : MirrorLine → List MirrorReply
before_restart (OfArray Power) = []
before_restart line = Plain IsLost ∷ []

abbrev pub is_power : MirrorLine → Bool
is_power (OfArray Power) = true
is_power line = false

-- the line plans a failure
abbrev pub is_plan : MirrorLine → Bool
is_plan (OfArray (Cut k g)) = true
is_plan (OfArray (Bad k g)) = true
is_plan line = false

abbrev pub is_lost : MirrorReply → Bool
is_lost (Plain IsLost) = true
is_lost reply = false

abbrev pub is_fault : MirrorReply → Bool
is_fault (Plain Fault) = true
is_fault reply = false

-- the counters that replies tell
abbrev pub told_in : List MirrorReply → Option Counts
told_in [] = None
told_in (Plain (StatLine counts) ∷ replies) = Some counts
told_in (reply ∷ replies) = told_in replies

-- those that the last line told
abbrev pub just_told : List MirrorTurn → Option Counts
just_told [] = None
just_told (turn ∷ earlier) = told_in turn.replies

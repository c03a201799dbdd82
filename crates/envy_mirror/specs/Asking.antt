-- A call that goes to each Good side.
use Rattle.std.specs.Prelude.{◌≡◌, ◌↔◌, ◌≤◌, Bool, true, false, IsTrue, Option, None, Some, ◌&&◌, MatchOption}
use Rattle.envy_array.specs.Array.{Array}
use Rattle.envy_array.specs.Step.{Command, Tick}
use Rattle.envy_map.specs.Fields.{Chart}
use Rattle.envy_meaning.specs.Stands.{Stands, Steps, IsLost, Fails}
use Rattle.envy_engine.specs.Counts.{Tallies}
use Rattle.envy_memory.specs.Calls.{IsCut, HasFailed, pulled}
use Rattle.envy_memory.specs.Picture.{Picture}
use Rattle.envy_mirror.specs.Mirroring.{Mirrors, Gives}
use Rattle.envy_mirror.specs.Pair.{Side, Pair, is_good, IsDark, lasting}
use Rattle.envy_mirror.specs.Replies.{Reply, Off, Bad, Said, is_said, is_bad, marked}
use Rattle.envy_mirror.specs.declared.standing.Standing.{Standing}
use Rattle.envy_mirror.specs.declared.standing.Standing.TheVariants.{Good, Gone}

-- what one memory did that stood for the array m
abbrev pub Hears : Array → Command → Reply → Chart → Type 0
Hears m command (Said answer) c = Steps m command answer c
Hears m command Bad c = Fails m command c
Hears m command Off c = IsLost m command c

-- No failure was planned, and power was neither cut by hand nor given. Flushes, copies and moves rose as much as the
-- programs that began.
pub record Reckons (old new : Picture) : Type 0 where
  pub shape : new.chart.shape ≡ old.chart.shape
  pub cuts : old.chart.cuts ≤ new.chart.cuts
  pub bads : old.chart.bads ≤ new.chart.bads
  pub pulled : new.chart.pulled ≡ old.chart.pulled
  pub plans : new.chart.plans ≡ old.chart.plans
  pub last_plan : new.chart.last_plan ≡ old.chart.last_plan
  pub lives : new.chart.lives ≡ old.chart.lives
  pub given : new.chart.given ≡ old.chart.given
  pub tallies : Tallies old.chart old.parts new.chart new.parts

-- one memory was asked, and replied
pub record Asks (command : Command) (reply : Reply) (old new : Picture) : Type 0 where
  pub step : (m : Array) → Stands old.chart m → Hears m command reply new.chart
  pub off : (reply ≡ Off) ↔ (new.chart.on ≡ false)
  pub cut : IsCut old.chart new.chart
  pub bad : reply ≡ Bad → HasFailed old.chart new.chart
  pub reckons : Reckons old new

-- power of a memory is cut by hand
abbrev pub cut_by_hand : Picture → Picture
cut_by_hand p = record p { chart = pulled p.chart }

abbrev pub has_said : Option Reply → Bool
has_said None = false
has_said (Some reply) = is_said reply

abbrev pub has_failed : Option Reply → Bool
has_failed None = false
has_failed (Some reply) = is_bad reply

-- what the answers of a kind of call mean, where one came
abbrev pub replied : {T : Type 0} → (T → Reply) → Option T → Option Reply
replied reply None = None
replied reply (Some told) = Some (reply told)

abbrev pub standing_after : Reply → Standing
standing_after Off = Gone
standing_after Bad = Good
standing_after (Said answer) = Good

-- one side was asked where it is Good; one that is off then is Gone
abbrev pub Asked : Command → Option Reply → Side → Side → Type 0
Asked command None old new = (is_good old ≡ false) × (new ≡ old)
Asked command (Some reply) old new = IsTrue (is_good old) × Asks command reply old.memory new.memory × (new.standing ≡ standing_after reply)

abbrev pub spoiled_if : Bool → Side → Side
spoiled_if true mid = record { memory = cut_by_hand mid.memory; standing = Gone }
spoiled_if false mid = mid

-- Whether a side that failed lags behind one that did the command: a tick leaves the array as it was.
abbrev pub is_moving : Command → Bool
is_moving Tick = false
is_moving other = true

-- A side whose flash failed in a store or put, where the other did the command or refused it, is cut, and is Gone.
abbrev pub left_by : Command → Option Reply → Option Reply → Side → Side
left_by command other own mid = spoiled_if (has_failed own && (has_said other && is_moving command)) mid

-- one side in a call, by what the other and it replied
abbrev pub Reaches : Command → Option Reply → Option Reply → Side → Side → Type 0
Reaches command other own old new = (mid : Side) × Asked command own old mid × (new ≡ left_by command other own mid)

-- The answer of the pair: that of the lowest side that did the command or refused it; else `Bad` where a side says so.
abbrev pub heard : Option Reply → Option Reply → Reply
heard None None = Off
heard None (Some two) = two
heard (Some one) None = one
heard (Some (Said answer)) (Some two) = Said answer
heard (Some Bad) (Some Off) = Bad
heard (Some Bad) (Some Bad) = Bad
heard (Some Bad) (Some (Said answer)) = Said answer
heard (Some Off) (Some two) = two

-- the command went to each Good side of two
pub record AsksBoth (command : Command) (reply : Reply) (first second new_first new_second : Side) : Type 0 where
  pub one : Option Reply
  pub two : Option Reply
  pub to_first : Reaches command two one first new_first
  pub to_second : Reaches command one two second new_second
  pub told : reply ≡ heard one two

-- a command on a pair
pub record Answers (command : Command) (reply : Reply) (old new : Pair) : Type 0 where
  pub both : AsksBoth command reply old.first old.second new.first new.second
  pub stale : new.stale ≡ marked command reply old.stale
  pub last : new.last ≡ lasting old new
  pub step : (m : Array) → Mirrors old m → Gives m command reply new
  pub off : (reply ≡ Off) ↔ IsDark new

-- one side in a call, by what it told: what a call tells is said of each memory that was asked
abbrev pub Tells : {T : Type 0} → (T → Reply) → (T → Picture → Picture → Type 0) → Command → Option T → Option T → Side → Side → Type 0
Tells reply Does command other own old new = (mid : Side) × Asked command (replied reply own) old mid × MatchOption own (Unit {0}) (λ told. Does told old.memory mid.memory) × (new ≡ left_by command (replied reply other) (replied reply own) mid)

-- The command went to each Good side of two. What the pair tells is what the lowest side told that did the command or
-- refused it.
pub record TellsBoth {T : Type 0} (reply : T → Reply) (Does : T → Picture → Picture → Type 0) (command : Command) (result : T) (first second new_first new_second : Side) : Type 0 where
  pub one : Option T
  pub two : Option T
  pub to_first : Tells reply Does command two one first new_first
  pub to_second : Tells reply Does command one two second new_second
  pub told : reply result ≡ heard (replied reply one) (replied reply two)
  pub lowest : IsTrue (has_said (replied reply one)) → one ≡ Some result
  pub next : has_said (replied reply one) ≡ false → IsTrue (is_said (reply result)) → two ≡ Some result

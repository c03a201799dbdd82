-- The word `resume`: an image is installed on a new board, and the trace behind it is answered as under `run`.
use Rattle.std.specs.Prelude.{◌≡◌, ◌⊎◌, ℕ, ◌+◌, ◌*◌, ◌≤◌, List, [], ◌++◌, length, Option, None, IfSome, unwrap_or, IsErr, Ok, ⊤}
use Rattle.envy_audit.specs.Judging.{Judges}
use Rattle.envy_audit.specs.declared.verdict.Verdict.TheVariants.{Sound}
use Rattle.envy_array.specs.Array.{Array}
use Rattle.envy_base.specs.Shape.{checked as shape_checked}
use Rattle.envy_base.specs.State.{State, IsBoard}
use Rattle.envy_base.specs.declared.shape.Shape.{Shape}
use Rattle.envy_image.specs.Image.{head_of, image_of}
use Rattle.envy_io.specs.Streams.{with_front}
use Rattle.envy_meaning.specs.Stands.{Stands}
use Rattle.envy_soundness.specs.Words.{durable}
use Rattle.envy_map.specs.Fields.{Chart, chart}
use Rattle.envy_memory.specs.Calls.{fresh}
use Rattle.envy_policy.specs.Setup.{checked}
use Rattle.envy_policy.specs.declared.setup.Policy.{Policy}
use Rattle.envy_policy.specs.declared.setup.Setup.{Setup}
use Rattle.envy_serve.specs.Streams.{Streams}
use Rattle.envy_serve.specs.Turns.{count_lines, count_replies}
use Rattle.envy_trace.specs.declared.line.Line.{Line}
use Rattle.envy_trace.specs.declared.reply.Reply.{Reply}
use Rattle.envy_run.specs.Attached.{HoldsStill}
use Rattle.envy_run.specs.Counters.{AddsUp, just_told}
use Rattle.envy_run.specs.Audits.{IsLeftInstalled}
use Rattle.envy_run.specs.Done.{Run, Dies, HoldsOff, OnBoard}
use Rattle.envy_run.specs.Loading.{IsTooLarge, IsUnharmed, IsWithin, RefusesImage, TookOnly}
use Rattle.envy_run.specs.Meaning.{Meaning}
use Rattle.envy_run.specs.Outcome.{Outcome, EndsBy}
use Rattle.envy_run.specs.Spending.{IsThrifty}
use Rattle.envy_run.specs.Task.{MaybeHeld, MaybeServed, Session, Task, turns_of}
use Rattle.envy_run.specs.Licence.{plans_in, newest}
use Rattle.envy_run.specs.Turns.{TraceTurn, trace_grammar, is_power, is_plan, plan_of, is_lost, is_fault}
use Rattle.envy_run.specs.Unserved.{IsOutOfMemory, IsDark}
use Rattle.envy_run.specs.declared.endings.Ending.TheVariants.{ImageRefused, OutOfMemory, PowerLost}
use Rattle.envy_run.specs.declared.endings.ImageFault.TheVariants.{Unruly, Unsound}
use Rattle.envy_run.specs.declared.image_input.Refusal.{Refusal}

-- the setup that the words make of an image's shape; a mark that isn't given is its number of frames
abbrev pub setup_found : Policy → ℕ → Option ℕ → Shape → Setup
setup_found policy limit mark sh = record { shape = sh; policy = policy; limit = limit; mark = unwrap_or mark sh.frames }

-- What a board says of the turns, as under `run`. Its counts are those since it was made, so a failure of power before
-- the first line leaves room for one `lost` more. So many programs began before the first line, and so often each segment
-- was erased.
pub record LicencesBehind (programs times : ℕ) (setup : Setup) (returns : ℕ) (turns : List TraceTurn) (now : Chart) : Type 0 where
  pub shape : now.shape ≡ setup.shape
  pub given : now.given ≡ returns
  pub pulled : now.pulled ≡ count_lines is_power turns
  pub plans : now.plans ≡ count_lines is_plan turns
  pub last_plan : now.last_plan ≡ newest (plans_in plan_of turns) None
  pub losts : count_lines is_power turns + count_replies is_lost turns ≤ now.cuts
  pub faults : count_replies is_fault turns ≤ now.bads
  pub told : IfSome (just_told turns) (λ counts. AddsUp programs counts now)
  pub thrifty : IsThrifty programs times turns now

-- the words that power left on the board of an image, with all slots closed
abbrev pub words_found : State → Array
words_found found = fresh found.shape.shadows (durable (chart found))

-- No line was read: memory ran out in attaching, or power failed in it and didn't return. No byte behind the image was
-- taken and nothing was written.
pub record IsUnattached (found : State) (o : Outcome) (io : Streams) : Type 0 where
  pub lines : o.lines ≡ 0
  pub taken : o.taken ≡ length (image_of found)
  pub source : io.feed.left ≡ io.from.left
  pub sink : io.sink ≡ io.to
  pub ending : EndsBy OutOfMemory o ⊎ EndsBy PowerLost o

-- the board holds the image still
pub record HoldsImageStill (found : State) (o : Outcome) : Type 0 where
  pub board : OnBoard (HoldsStill (chart found)) o
  pub cause : IsOutOfMemory o ⊎ IsDark o

-- the trace behind the image of this board
abbrev pub resume_task : State → Setup → ℕ → Task Line Reply Array
resume_task found setup returns = record {
  grammar = trace_grammar;
  skipped = length (image_of found);
  Leads = λ turns m. Run setup.shape.entries (words_found found) turns m;
  Dies = λ turns m. Dies setup.shape.entries (words_found found) turns m;
  tail = λ o. [];
  Unread = IsUnattached found;
  HoldsLeft = λ o m. OnBoard (λ now. Stands now m) o;
  HoldsDead = λ o m. OnBoard (HoldsOff m.words) o;
  WhyUnread = HoldsImageStill found;
  Licences = λ o turns. IfSome o.board (LicencesBehind (setup.shape.segments * setup.shape.rows) 1 setup returns turns);
}

-- What was found: a board that holds the image, the bytes behind it, and the session that they were served in, if any; why
-- there is no such board, and the bytes that were taken; a shape of too many rows; one with which the words break a rule; or
-- a board that isn't sound.
pub data Resumption : Type 0 where
  TakenUp : (found : State) (behind : Option (List ℕ)) (session : Option (Session Line Reply Array)) → Resumption
  Refused : (refusal : Refusal) (bytes : List ℕ) → Resumption
  TooLarge : (sh : Shape) → Resumption
  Misfit : (sh : Shape) → Resumption
  FoundUnsound : (found : State) → Resumption

-- The bytes taken first are the image of a board that is formatted and sound, and of whose shape the rules hold. What
-- stands behind them is a trace that was served.
pub record TakesUp (most : ℕ) (setup : Shape → Setup) (returns : ℕ) (found : State) (behind : Option (List ℕ)) (session : Option (Session Line Reply Array)) (o : Outcome) (io : Streams) : Type 0 where
  pub whole : IsBoard found
  pub image : io.from.left ≡ with_front (image_of found) behind
  pub few : found.shape.segments * found.shape.rows ≤ most
  pub rules : checked (setup found.shape) ≡ Ok tt
  pub sound : Judges Sound (chart found)
  pub served : MaybeServed (resume_task found (setup found.shape) returns) session o (record io { from = record { left = behind; faults = io.from.faults } })

-- No image was taken up, for this reason. Where the bytes taken begin with the head of a shape that checks, the words
-- break no rule with it: such a rule is told before all that comes behind the head.
pub record DeclinesImage (most : ℕ) (refusal : Refusal) (bytes : List ℕ) (setup : Shape → Setup) (o : Outcome) (io : Streams) : Type 0 where
  pub refuses : RefusesImage refusal bytes o io
  pub within : IsWithin most bytes
  pub rules : (sh : Shape) (rest : List ℕ) → bytes ≡ head_of sh ++ rest → shape_checked sh ≡ Ok tt → checked (setup sh) ≡ Ok tt

-- a head was read, and the words break a rule with its shape
pub record BreaksRule (most : ℕ) (setup : Shape → Setup) (sh : Shape) (o : Outcome) (io : Streams) : Type 0 where
  pub ending : EndsBy (ImageRefused Unruly) o
  pub shape : shape_checked sh ≡ Ok tt
  pub few : sh.segments * sh.rows ≤ most
  pub took : TookOnly (head_of sh) o io
  pub fails : IsErr (checked (setup sh))

-- the image was installed, and its board isn't formatted and sound
pub record IsUnsound (most : ℕ) (setup : Shape → Setup) (found : State) (o : Outcome) (io : Streams) : Type 0 where
  pub ending : EndsBy (ImageRefused Unsound) o
  pub took : TookOnly (image_of found) o io
  pub few : found.shape.segments * found.shape.rows ≤ most
  pub rules : checked (setup found.shape) ≡ Ok tt
  pub fails : Judges Sound (chart found) → ⊥

abbrev pub Resumes : ℕ → (Shape → Setup) → ℕ → Resumption → Outcome → Streams → Type 0
Resumes most setup returns (TakenUp found behind session) o io = TakesUp most setup returns found behind session o io
Resumes most setup returns (Refused refusal bytes) o io = DeclinesImage most refusal bytes setup o io
Resumes most setup returns (TooLarge sh) o io = IsTooLarge most sh o io
Resumes most setup returns (Misfit sh) o io = BreaksRule most setup sh o io
Resumes most setup returns (FoundUnsound found) o io = IsUnsound most setup found o io

-- no board was made with such a shape; one that isn't sound is handed back as installing left it
abbrev pub IsLeftBy : (Shape → Setup) → ℕ → Resumption → Outcome → Type 0
IsLeftBy setup returns (TakenUp found behind session) o = MaybeHeld (resume_task found (setup found.shape) returns) session o
IsLeftBy setup returns (Refused refusal bytes) o = IfSome o.board (IsUnharmed returns)
IsLeftBy setup returns (TooLarge sh) o = o.board ≡ None
IsLeftBy setup returns (Misfit sh) o = o.board ≡ None
IsLeftBy setup returns (FoundUnsound found) o = IsLeftInstalled returns found o

abbrev pub LicencesOf : (Shape → Setup) → ℕ → Resumption → Outcome → Type 0
LicencesOf setup returns (TakenUp found behind session) o = Task.Licences (resume_task found (setup found.shape) returns) o (turns_of session)
LicencesOf setup returns resumption o = ⊤

-- the word `resume`, of images of at most so many rows
abbrev pub resuming : ℕ → (Shape → Setup) → ℕ → Meaning
resuming most setup returns = record {
  Account = Resumption;
  Printed = Resumes most setup returns;
  Board = IsLeftBy setup returns;
  Licences = LicencesOf setup returns;
}

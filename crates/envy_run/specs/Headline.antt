-- What each word of the program means.
use Rattle.std.specs.Prelude.{◌≡◌, ◌⊎◌, ℕ, ◌+◌, ◌≤◌, ⊤, List, [], map, Option, None, Some, IfSome, Result, Ok, Err}
use Rattle.std.specs.String.{string_bytes}
use Rattle.std.specs.declared.string.String.{String}
use Rattle.envy_args.specs.declared.command.Command.{Command}
use Rattle.envy_args.specs.declared.command.Command.TheVariants.{Run, Plain, Tpca, Gen, Save, Resume, Audit, Map, Index, Mirror}
use Rattle.envy_args.specs.declared.command.WordsFault.{WordsFault}
use Rattle.envy_args.specs.declared.command.WordsFault.TheVariants.{Form, Setup as Rule, Memory}
use Rattle.envy_args.specs.Words.{command_of}
use Rattle.envy_array.specs.Array.{Array, zeros}
use Rattle.envy_base.specs.State.{State}
use Rattle.envy_btree.specs.declared.line.IndexLine.{IndexLine}
use Rattle.envy_btree.specs.declared.reply.IndexReply.{IndexReply}
use Rattle.envy_gen.specs.Traces.{trace_bytes}
use Rattle.envy_gen.specs.declared.mix.Mix.{Mix}
use Rattle.envy_image.specs.Image.{image_of}
use Rattle.envy_meaning.specs.Stands.{Stands}
use Rattle.envy_map.specs.Fields.{Chart}
use Rattle.envy_policy.specs.declared.setup.Setup.{Setup}
use Rattle.envy_trace.specs.declared.line.Line.{Line}
use Rattle.envy_trace.specs.declared.reply.Reply.{Reply}
use Rattle.envy_serve.specs.Grammar.{silent}
use Rattle.envy_serve.specs.Streams.{Streams}
use Rattle.envy_serve.specs.Turns.{count_lines, count_replies}
use Rattle.envy_run.specs.Audits.{IsMap, IsVerdict, judging}
use Rattle.envy_run.specs.Counters.{AddsUp, just_told}
use Rattle.envy_run.specs.Calm.{HasDoneCalmly, NeverDies}
use Rattle.envy_run.specs.Done.{Run as ArrayRun, Dies, HoldsOff, OnBoard}
use Rattle.envy_run.specs.IndexDone.{HoldsIndex, HoldsIndexOff, IndexDies, IndexLicences}
use Rattle.envy_run.specs.IndexTurns.{IndexRun, Pairs, index_grammar, most_of}
use Rattle.envy_run.specs.Drives.{driving}
use Rattle.envy_run.specs.Meaning.{Meaning, Does}
use Rattle.envy_run.specs.Licence.{plans_in, newest}
use Rattle.envy_run.specs.MirrorTask.{mirror_task}
use Rattle.envy_run.specs.Outcome.{Outcome, EndsBy, IsQuiet}
use Rattle.envy_run.specs.Resumes.{resuming, setup_found}
use Rattle.envy_run.specs.Spending.{IsThrifty, tries_of}
use Rattle.envy_run.specs.Unserved.{IsOutOfMemory, IsUnread, IsUnready}
use Rattle.envy_run.specs.Writing.{WritesTrace}
use Rattle.envy_run.specs.Task.{Task, serving}
use Rattle.envy_run.specs.Turns.{TraceTurn, trace_grammar, is_power, is_plan, plan_of, is_lost, is_fault}
use Rattle.envy_run.specs.declared.endings.Ending.TheVariants.{OutOfMemory, WordsRefused}

-- the command that the words name, or why they are refused
abbrev pub command_in : {Z : Type 0} → List (String Z) → Result Command WordsFault
command_in words = command_of (map string_bytes words)

-- What a board that began with no counts says of the turns: power was cut by hand once for each line `power`, a failure
-- was planned by each line `cut` and `bad`, the last by the last of them, each `lost` has a failure of power of its own besides, and each `fault` a
-- flash operation that failed. Where the last line asked for the counters, they add up to the board's. The lines began
-- no more flash work than their calls may.
pub record Licences (setup : Setup) (returns : ℕ) (turns : List TraceTurn) (now : Chart) : Type 0 where
  pub shape : now.shape ≡ setup.shape
  pub given : now.given ≡ returns
  pub pulled : now.pulled ≡ count_lines is_power turns
  pub plans : now.plans ≡ count_lines is_plan turns
  pub last_plan : now.last_plan ≡ newest (plans_in plan_of turns) None
  pub losts : count_lines is_power turns + count_replies is_lost turns ≤ now.cuts
  pub faults : count_replies is_fault turns ≤ now.bads
  pub told : IfSome (just_told turns) (λ counts. AddsUp 0 counts now)
  pub thrifty : IsThrifty 0 (tries_of turns now) turns now

abbrev pub zeros_of : Setup → Array
zeros_of setup = zeros setup.shape.pages setup.shape.shadows

-- the word `run`, over a memory of zeros
abbrev pub run_task : Setup → ℕ → Task Line Reply Array
run_task setup returns = record {
  grammar = trace_grammar;
  skipped = 0;
  Leads = λ turns m. ArrayRun setup.shape.entries (zeros_of setup) turns m;
  Dies = λ turns m. Dies setup.shape.entries (zeros_of setup) turns m;
  tail = λ o. [];
  Unread = IsUnread;
  HoldsLeft = λ o m. OnBoard (λ now. Stands now m) o;
  HoldsDead = λ o m. OnBoard (HoldsOff m.words) o;
  WhyUnread = IsUnready;
  Licences = λ o turns. IfSome o.board (Licences setup returns turns);
}

-- the image of a board, where there is one
abbrev pub image_in : Option State → List ℕ
image_in None = []
image_in (Some s) = image_of s

-- the word `save`: the same without replies, and behind them the image of the board
abbrev pub save_task : Setup → ℕ → Task Line Reply Array
save_task setup returns = record (run_task setup returns) { grammar = silent trace_grammar; tail = λ o. image_in o.state }

-- the word `index`, over the words of a memory of zeros
abbrev pub index_task : Setup → ℕ → Task IndexLine IndexReply Pairs
index_task setup returns = record {
  grammar = index_grammar;
  skipped = 0;
  Leads = λ turns pairs. IndexRun (most_of setup.shape.pages) turns pairs;
  Dies = λ turns pairs. IndexDies (most_of setup.shape.pages) turns pairs;
  tail = λ o. [];
  Unread = IsUnread;
  HoldsLeft = λ o pairs. OnBoard (HoldsIndex pairs) o;
  HoldsDead = λ o pairs. OnBoard (HoldsIndexOff pairs) o;
  WhyUnread = IsUnready;
  Licences = λ o turns. IfSome o.board (IndexLicences setup returns turns);
}

-- the word `plain`, on a machine of zeros; there is no board
abbrev pub plain_task : Setup → Task Line Reply Array
plain_task setup = record {
  grammar = trace_grammar;
  skipped = 0;
  Leads = λ turns machine. HasDoneCalmly (zeros_of setup) machine turns;
  Dies = λ turns machine. NeverDies turns;
  tail = λ o. [];
  Unread = λ o io. IsQuiet o io × EndsBy OutOfMemory o;
  HoldsLeft = λ o machine. o.board ≡ None;
  HoldsDead = λ o machine. o.board ≡ None;
  WhyUnread = λ o. o.board ≡ None;
  Licences = λ o turns. ⊤;
}

-- the word `gen`: nothing is read
pub record Generates (start count : ℕ) (mix : Mix) (o : Outcome) (io : Streams) : Type 0 where
  pub writes : WritesTrace (trace_bytes start count mix) o io.to io.sink
  pub lines : o.lines ≡ 0
  pub taken : o.taken ≡ 0
  pub source : io.feed ≡ io.from

-- of a word without a board, whose runs need no account
abbrev pub boardless : (Outcome → Streams → Type 0) → Meaning
boardless Printed = record {
  Account = Unit;
  Printed = λ account o io. Printed o io;
  Board = λ account o. o.board ≡ None;
  Licences = λ account o. ⊤;
}

-- the words aren't understood, or break the rule of this number
pub record Refuses (rule : ℕ) (o : Outcome) (io : Streams) : Type 0 where
  pub ending : EndsBy (WordsRefused rule) o
  pub quiet : IsQuiet o io

-- what each command means, and words that name none
abbrev pub meaning_of : Result Command WordsFault → Meaning
meaning_of (Ok (Run setup returns)) = serving (run_task setup returns)
meaning_of (Ok (Plain setup)) = serving (plain_task setup)
meaning_of (Ok (Gen start count mix)) = boardless (Generates start count mix)
meaning_of (Ok (Tpca setup returns start area every)) = driving setup returns start area every
meaning_of (Ok (Save setup returns)) = serving (save_task setup returns)
meaning_of (Ok (Resume policy limit mark returns most)) = resuming most (setup_found policy limit mark) returns
meaning_of (Ok (Audit most)) = judging most IsVerdict
meaning_of (Ok (Map most)) = judging most IsMap
meaning_of (Ok (Index setup returns)) = serving (index_task setup returns)
meaning_of (Ok (Mirror setup returns)) = serving (mirror_task setup returns)
meaning_of (Err Form) = boardless (Refuses 0)
meaning_of (Err (Rule rule)) = boardless (Refuses rule)
meaning_of (Err Memory) = boardless (λ o io. ⊥)

-- memory ran out before a line was read
pub record IsWithoutMemory (o : Outcome) (io : Streams) : Type 0 where
  pub memory : IsOutOfMemory o
  pub quiet : IsQuiet o io
  pub board_none : o.board ≡ None

-- the words say what is done; for want of memory nothing is
abbrev pub Headline : Result Command WordsFault → Outcome → Streams → Type 0
Headline command o io = Does (meaning_of command) o io ⊎ IsWithoutMemory o io

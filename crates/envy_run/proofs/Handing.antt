-- What `run` promises, from what was done and how its words were read.
use Rattle.std.proofs.Common.{◌≡◌, ◌⊎◌, inl, inr, ◌≤◌, List, refl, sym, subst}
use Rattle.std.specs.Prelude.{None, Result, Ok, Err}
use Rattle.envy_args.specs.Words.{Text, command_of}
use Rattle.envy_args.specs.declared.command.Command.{Command}
use Rattle.envy_args.specs.declared.command.Command.TheVariants.{Run, Plain, Tpca, Gen, Save, Resume, Audit, Map, Index, Mirror}
use Rattle.envy_args.specs.declared.command.WordsFault.{WordsFault}
use Rattle.envy_args.specs.declared.command.WordsFault.TheVariants.{Form, Setup as Rule, Memory}
use Rattle.envy_base.specs.State.{State}
use Rattle.envy_io.specs.Streams.{Drain, Feed}
use Rattle.envy_serve.specs.Ends.{most_bytes}
use Rattle.envy_serve.specs.Streams.{Streams}
use Rattle.envy_run.specs.Complete.{Completes}
use Rattle.envy_run.specs.Drives.{TellsAll}
use Rattle.envy_run.specs.Headline.{Headline}
use Rattle.envy_run.specs.Outcome.{Outcome, numbers_of, outcome, outcome_of, refusal_of}
use Rattle.envy_run.specs.Theorem.{IsAloneIn, Leaves, Licenses, Prints}
use Rattle.envy_run.specs.Unserved.{IsUnserved}
use Rattle.envy_run.specs.declared.ended.Ended.{Ended}
use Rattle.envy_run.specs.declared.endings.Finished.{Finished}
use Rattle.envy_run.proofs.Completing.{completes, form-known, headline-refused, leaves, prints, rule-known, words-refused}
use Rattle.envy_run.proofs.Driving.{tells-refused}

-- the clauses of `run`
pub record Promises (command : Result Command WordsFault) (o : Outcome) (io : Streams) (Planned : Type 0) : Type 0 where
  pub printed : Prints command o io
  pub board : Leaves command o io
  pub licences : Licenses command o io
  pub completes : Completes command o io
  pub told : Planned → TellsAll command o io

-- what was done is handed back, with its two numbers filled in
pub handed : {B : Type 0} (state : B → State) (command : Result Command WordsFault) (done : Finished B) (ended : Ended B) (io : Streams) (Planned : Type 0) → ended ≡ record { status = (numbers_of done.ending).0; why = (numbers_of done.ending).1; lines = done.lines; taken = done.taken; board = done.board; second = done.second } → Headline command (outcome_of state done) io → IsAloneIn command (outcome_of state done) → done.lines ≤ done.taken → done.taken ≤ most_bytes → (Planned → TellsAll command (outcome_of state done) io) → Promises command (outcome state ended) io Planned
handed {B} state command done ended io Planned is headline alone few read told =
    subst (λ (x : Ended B). Promises command (outcome state x) io Planned) (sym is) (record {
      printed = prints command (outcome_of state done) io headline few read;
      board = leaves command (outcome_of state done) io headline alone;
      licences = headline;
      completes = completes command (outcome_of state done) io headline;
      told = told;
    })

-- the end where the words name no command
abbrev pub unread : {B : Type 0} → WordsFault → Finished B
unread fault = record { ending = refusal_of fault; lines = 0; taken = 0; board = None; second = None }

-- nothing was read or written
abbrev pub silent_on : Feed → Drain → Streams
silent_on feed sink = record { from = feed; feed = feed; to = sink; sink = sink }

-- what is promised of words that were refused
pub refused-headline : {B : Type 0} (state : B → State) (words : List Text) (read : Result Command WordsFault) (fault : WordsFault) (e : Finished B) (feed : Feed) (sink : Drain) → (read ≡ Err Memory) ⊎ (read ≡ command_of words) → read ≡ Err fault → e ≡ unread fault → Headline (command_of words) (outcome_of state e) (silent_on feed sink)
refused-headline {B} state words read Form e feed sink reads is says = headline-refused words read Form (outcome_of state e) (silent_on feed sink) reads is form-known (words-refused state 0 0 e feed sink refl says)
refused-headline {B} state words read (Rule rule) e feed sink reads is says = headline-refused words read (Rule rule) (outcome_of state e) (silent_on feed sink) reads is (rule-known rule) (words-refused state rule rule e feed sink refl says)
refused-headline {B} state words read Memory e feed sink reads is says =
    subst (λ (x : Finished B). Headline (command_of words) (outcome_of state x) (silent_on feed sink)) (sym says)
    (inr (record { memory = record { ending = record { status = refl; why = refl }; board = tt }; quiet = record { lines = refl; taken = refl; source = refl; sink = refl }; board_none = refl }))

-- where memory ran out nothing was served
unserved-so : {B : Type 0} (state : B → State) (fault : WordsFault) (e : Finished B) (feed : Feed) (sink : Drain) → e ≡ unread fault → fault ≡ Memory → IsUnserved (outcome_of state e) (silent_on feed sink)
unserved-so {B} state Form e feed sink says same = absurd (form-known same)
unserved-so {B} state (Rule rule) e feed sink says same = absurd (rule-known rule same)
unserved-so {B} state Memory e feed sink says same =
    subst (λ (x : Finished B). IsUnserved (outcome_of state x) (silent_on feed sink)) (sym says)
    (record { lines = refl; taken = refl; source = refl; sink = refl }, inl (record { ending = record { status = refl; why = refl }; board = tt }))

-- of returns of power nothing is to be told then
pub refused-told : {B : Type 0} (state : B → State) (words : List Text) (read : Result Command WordsFault) (fault : WordsFault) (e : Finished B) (feed : Feed) (sink : Drain) → (read ≡ Err Memory) ⊎ (read ≡ command_of words) → read ≡ Err fault → e ≡ unread fault → TellsAll (command_of words) (outcome_of state e) (silent_on feed sink)
refused-told state words read fault e feed sink reads is says = tells-refused words read fault (outcome_of state e) (silent_on feed sink) reads is (unserved-so state fault e feed sink says)

-- without a second board there is one at most
alone-so : (command : Result Command WordsFault) (o : Outcome) → o.second ≡ None → IsAloneIn command o
alone-so (Ok (Mirror setup returns)) o none = tt
alone-so (Ok (Run setup returns)) o none = none
alone-so (Ok (Plain setup)) o none = none
alone-so (Ok (Gen start count mix)) o none = none
alone-so (Ok (Tpca setup returns start area every)) o none = none
alone-so (Ok (Save setup returns)) o none = none
alone-so (Ok (Resume policy limit mark returns most)) o none = none
alone-so (Ok (Audit most)) o none = none
alone-so (Ok (Map most)) o none = none
alone-so (Ok (Index setup returns)) o none = none
alone-so (Err fault) o none = none

pub refused-alone : {B : Type 0} (state : B → State) (command : Result Command WordsFault) (fault : WordsFault) (e : Finished B) → e ≡ unread fault → IsAloneIn command (outcome_of state e)
refused-alone {B} state command fault e says = subst (λ (x : Finished B). IsAloneIn command (outcome_of state x)) (sym says) (alone-so command (outcome_of state (unread fault)) refl)

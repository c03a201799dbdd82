-- Where nothing goes wrong, no end but the good one is left.
use Rattle.std.proofs.Common.{◌≡◌, ◌⊎◌, inl, inr, ℕ, ◌<◌, ◌≤◌, List, [], length, refl, sym, ◌∙◌, ap, subst, arith}
use Rattle.std.specs.Option.{option_map}
use Rattle.std.specs.Prelude.{IsTrue, false, Option, None, Some, Result, Ok, Err}
use Rattle.envy_args.specs.declared.command.Command.{Command}
use Rattle.envy_args.specs.declared.command.Command.TheVariants.{Run, Plain, Tpca, Gen, Save, Resume, Audit, Map, Index, Mirror}
use Rattle.envy_args.specs.declared.command.WordsFault.{WordsFault}
use Rattle.envy_args.specs.declared.command.WordsFault.TheVariants.{Form, Setup as Rule, Memory}
use Rattle.envy_args.specs.Words.{Text, command_of}
use Rattle.envy_array.specs.Array.{Array}
use Rattle.envy_base.specs.State.{State}
use Rattle.envy_array.specs.declared.area.Area.{Area}
use Rattle.envy_base.specs.declared.shape.Shape.{Shape}
use Rattle.envy_gen.specs.Traces.{trace_bytes}
use Rattle.envy_io.specs.Streams.{Drain, Feed}
use Rattle.envy_map.specs.Fields.{Chart}
use Rattle.envy_policy.specs.declared.setup.Setup.{Setup}
use Rattle.envy_serve.specs.declared.server.End.{End}
use Rattle.envy_serve.specs.declared.server.End.TheVariants.{Done as EndDone}
use Rattle.envy_serve.specs.Ends.{most_bytes}
use Rattle.envy_serve.specs.GoodTrace.{StaysLow, IsGoodTrace}
use Rattle.envy_serve.specs.Grammar.{Grammar, silent}
use Rattle.envy_serve.specs.Streams.{Streams}
use Rattle.envy_serve.specs.Turns.{Turn}
use Rattle.envy_serve.proofs.GoodTraces.{good-ends, still-written}
use Rattle.envy_tpca.specs.declared.sums.Sums.{Sums}
use Rattle.envy_trace.specs.declared.fault.LineFault.TheVariants.{Long}
use Rattle.envy_trace.specs.declared.line.Line.{Line}
use Rattle.envy_trace.specs.declared.reply.Reply.{Reply}
use Rattle.envy_gen.specs.declared.mix.Mix.{Mix}
use Rattle.envy_run.specs.Audits.{IsMap, IsVerdict}
use Rattle.envy_run.specs.Complete.{HoldsImage, HoldsTrace, IsWell, IsWellInstalled, IsComplete, Completes}
use Rattle.envy_run.specs.Done.{HoldsOff}
use Rattle.envy_run.specs.Drives.{MaybePaid, MaybeTold, TellsSums, driving, report}
use Rattle.envy_run.specs.Headline.{Headline, run_task, save_task, index_task, plain_task, IsWithoutMemory, Generates, Refuses, boardless, meaning_of}
use Rattle.envy_run.specs.IndexDone.{HoldsIndexOff}
use Rattle.envy_run.specs.IndexServing.{long_index}
use Rattle.envy_run.specs.IndexTurns.{index_grammar}
use Rattle.envy_run.specs.Meaning.{Meaning, Does}
use Rattle.envy_run.specs.MirrorTask.{mirror_task}
use Rattle.envy_run.specs.Outcome.{Outcome, EndsBy, IsQuiet, ending_of, outcome_of}
use Rattle.envy_run.specs.Resumes.{FoundUnsound, HoldsImageStill, IsLeftBy, IsUnattached, LicencesOf, Misfit, Refused, Resumes, Resumption, TakenUp, TooLarge, TakesUp, resume_task, resuming, setup_found}
use Rattle.envy_run.specs.Task.{MaybeHeld, Session, Task, turns_of}
use Rattle.envy_run.specs.Theorem.{IsAlone, IsAloneIn, Leaves, Prints}
use Rattle.envy_run.specs.Tracing.{long_any}
use Rattle.envy_run.specs.Turns.{trace_grammar}
use Rattle.envy_run.specs.Unserved.{IsDark, IsOutOfMemory, IsSpoilt, IsUnread, IsUnready}
use Rattle.envy_run.specs.Writing.{WritesTrace}
use Rattle.envy_run.specs.declared.endings.Ending.TheVariants.{Done, OutOfMemory, WordsRefused}
use Rattle.envy_run.specs.declared.endings.Finished.{Finished}
use Rattle.envy_run.proofs.Accounts.{Did, Died, WasDone, WasServed, done_of}
use Rattle.envy_run.proofs.Audited.{completes-judging, image-taken, never-large}
use Rattle.envy_run.proofs.MirrorWell.{completes-mirror}
use Rattle.envy_run.proofs.Resumed.{good-behind, never-unruly, never-unsound}

-- a board that is off for good isn't one whose power is on or can return
lit-dead : (now : Chart) → IsTrue now.on ⊎ (0 < now.lives) → now.on ≡ false → now.lives ≡ 0 → ⊥
lit-dead now (inl on) off none = cc
lit-dead now (inr some) off none = omega arith

-- a task that served a good trace is done
task-well : {Line Reply Left : Type 0} (w : Task Line Reply Left) (turns : List (Turn Line Reply)) (o : Outcome) (io : Streams) → ((p : List ℕ) → 120 < length p → Grammar.reads w.grammar p ≡ Err Long) → WasServed w turns o io → IsGoodTrace w.grammar w.skipped io → (Died w o turns → ⊥) → EndsBy Done o
task-well w turns o io long s good alive = at (good-ends s.end o.lines o.taken w.grammar w.skipped (Did w o) (Died w o) (w.tail o) turns io long s.serves good)
  where
    at : (s.end ≡ EndDone) ⊎ Died w o turns → EndsBy Done o
    at (inl done) = subst (λ (end : End). EndsBy (ending_of end) o) done s.ending
    at (inr dead) = absurd (alive dead)

-- no line was read for want of memory alone
unready-well : (o : Outcome) → o.taken ≡ 0 → IsUnready o → IsWell o → IsComplete o
unready-well o taken (inl out) well = inr (IsOutOfMemory.ending out)
unready-well o taken (inr (inl spoilt)) well = absurd (let (c, is, some) = IsSpoilt.cause spoilt in let none_bad = IsWell.bads well c is taken in omega arith)
unready-well o taken (inr (inr dark)) well = absurd (lit-dead dark.now (IsWell.returns well dark.now dark.board_is) dark.off dark.lives)

completes-run : (setup : Setup) (returns : ℕ) (o : Outcome) (io : Streams) (d : WasDone (run_task setup returns) o io) → IsGoodTrace trace_grammar 0 io → IsWell o → IsComplete o
completes-run setup returns o io d good well = at d.answers
  where
    at : WasServed (run_task setup returns) d.turns o io ⊎ ((d.turns ≡ []) × IsUnread o io × IsUnready o) → IsComplete o
    at (inl served) = inl (task-well (run_task setup returns) d.turns o io long_any served good (λ (m, dies, (now, is, off)). lit-dead now (IsWell.returns well now is) (HoldsOff.off off) (HoldsOff.dead off)))
    at (inr (none, (quiet, ending), why)) = unready-well o quiet.taken why well

completes-save : (setup : Setup) (returns : ℕ) (o : Outcome) (io : Streams) (d : WasDone (save_task setup returns) o io) → IsGoodTrace trace_grammar 0 io → IsWell o → IsComplete o
completes-save setup returns o io d good well = at d.answers
  where
    silent-good : IsGoodTrace (silent trace_grammar) 0 io
    silent-good = record { bytes = good.bytes; told = good.told; short = good.short; lines = good.lines; reads = good.reads; writes = good.writes }

    at : WasServed (save_task setup returns) d.turns o io ⊎ ((d.turns ≡ []) × IsUnread o io × IsUnready o) → IsComplete o
    at (inl served) = inl (task-well (save_task setup returns) d.turns o io long_any served silent-good (λ (m, dies, (now, is, off)). lit-dead now (IsWell.returns well now is) (HoldsOff.off off) (HoldsOff.dead off)))
    at (inr (none, (quiet, ending), why)) = unready-well o quiet.taken why well

completes-index : (setup : Setup) (returns : ℕ) (o : Outcome) (io : Streams) (d : WasDone (index_task setup returns) o io) → IsGoodTrace index_grammar 0 io → IsWell o → IsComplete o
completes-index setup returns o io d good well = at d.answers
  where
    at : WasServed (index_task setup returns) d.turns o io ⊎ ((d.turns ≡ []) × IsUnread o io × IsUnready o) → IsComplete o
    at (inl served) = inl (task-well (index_task setup returns) d.turns o io long_index served good (λ (pairs, dies, (now, is, off)). lit-dead now (IsWell.returns well now is) (HoldsIndexOff.off off) (HoldsIndexOff.dead off)))
    at (inr (none, (quiet, ending), why)) = unready-well o quiet.taken why well

completes-plain : (setup : Setup) (o : Outcome) (io : Streams) (d : WasDone (plain_task setup) o io) → IsGoodTrace trace_grammar 0 io → IsComplete o
completes-plain setup o io d good = at d.answers
  where
    at : WasServed (plain_task setup) d.turns o io ⊎ ((d.turns ≡ []) × (IsQuiet o io × EndsBy OutOfMemory o) × (o.board ≡ None)) → IsComplete o
    at (inl served) = inl (task-well (plain_task setup) d.turns o io long_any served good (λ (m, never, none). never))
    at (inr (none, (quiet, out), boardless)) = inr out

completes-gen : (start count : ℕ) (mix : Mix) (o : Outcome) (io : Streams) → Generates start count mix o io → StaysLow io.to.faults io.sink.faults → IsComplete o
completes-gen start count mix o io g low = at g.writes
  where
    at : WritesTrace (trace_bytes start count mix) o io.to io.sink → IsComplete o
    at (inl (done, written, flushed)) = inl done
    at (inr (failed, front)) = absurd (still-written (trace_bytes start count mix) io.to io.to io.sink low (omega arith) front)

-- under `tpca` a load that goes well is done to its end
completes-tpca : (setup : Setup) (returns start : ℕ) (area : Area) (every : ℕ) (o : Outcome) (io : Streams) → Does (driving setup returns start area every) o io → StaysLow io.to.faults io.sink.faults → IsWell o → IsComplete o
completes-tpca setup returns start area every o io d low well = at d.account d.printed d.board
  where
    told : (text : List ℕ) → WritesTrace text o io.to io.sink → IsComplete o
    told text (inl (done, written, flushed)) = inl done
    told text (inr (failed, front)) = absurd (still-written text io.to io.to io.sink low (omega arith) front)

    at : (account : Option Sums) → MaybeTold start area account o io → MaybePaid setup start area account o → IsComplete o
    at (Some sums) tells paid = told (report area sums) (TellsSums.writes tells)
    at None (quiet, ending) (why, found) = unready-well o quiet.taken why well

-- under `resume` the trace behind a sound image is
completes-resume : (most : ℕ) (setup : Shape → Setup) (returns : ℕ) (o : Outcome) (io : Streams) → Does (resuming most setup returns) o io → (holds : HoldsImage io) → HoldsTrace most setup io holds → IsWellInstalled o → IsComplete o
completes-resume most setup returns o io d holds trace well = at d.account d.printed d.board d.licences
  where
    cause : IsOutOfMemory o ⊎ IsDark o → IsComplete o
    cause (inl out) = inr out.ending
    cause (inr dark) = absurd (lit-dead dark.now (well.returns dark.now dark.board_is) dark.off dark.lives)

    taken : (found : State) (behind : Option (List ℕ)) (session : Option (Session Line Reply Array)) (t : TakesUp most setup returns found behind session o io) → MaybeHeld (resume_task found (setup found.shape) returns) session o → Task.Licences (resume_task found (setup found.shape) returns) o (turns_of session) → IsComplete o
    taken found behind session t held licences = each (WasDone.answers done)
      where
        w : Task Line Reply Array
        w = resume_task found (setup found.shape) returns

        jo : Streams
        jo = record io { from = record { left = behind; faults = io.from.faults } }

        done : WasDone w o jo
        done = done_of w o jo (record { account = session; printed = t.served; board = held; licences = licences })

        each : WasServed w done.turns o jo ⊎ ((done.turns ≡ []) × IsUnattached found o jo × HoldsImageStill found o) → IsComplete o
        each (inl served) = inl (task-well w done.turns o jo long_any served (good-behind most setup returns o io holds trace found behind t.whole t.image) (λ (m, dies, (now, is, off)). lit-dead now (well.returns now is) (HoldsOff.off off) (HoldsOff.dead off)))
        each (inr (none, unread, still)) = cause still.cause

    at : (account : Resumption) → Resumes most setup returns account o io → IsLeftBy setup returns account o → LicencesOf setup returns account o → IsComplete o
    at (TakenUp found behind session) t held licences = taken found behind session t held licences
    at (Refused refusal bytes) declines unharmed none = inr (image-taken refusal bytes o io holds well.installed declines.refuses)
    at (TooLarge sh) large none also_none = absurd (never-large most sh o io holds trace.few large)
    at (Misfit sh) breaks none also_none = absurd (never-unruly most setup returns o io holds trace sh breaks)
    at (FoundUnsound found) unsound left none = absurd (never-unsound most setup returns o io holds trace found left unsound)

-- for want of memory
without-complete : (o : Outcome) (io : Streams) → IsWithoutMemory o io → IsComplete o
without-complete o io without = inr (IsOutOfMemory.ending (IsWithoutMemory.memory without))

-- what is done for a command is complete where all goes well
pub completes : (command : Result Command WordsFault) (o : Outcome) (io : Streams) → Headline command o io → Completes command o io
completes (Ok (Run setup returns)) o io (inl runs) = λ good well. completes-run setup returns o io (done_of (run_task setup returns) o io runs) good well
completes (Ok (Run setup returns)) o io (inr without) = λ good well. without-complete o io without
completes (Ok (Plain setup)) o io (inl calm) = λ good. completes-plain setup o io (done_of (plain_task setup) o io calm) good
completes (Ok (Plain setup)) o io (inr without) = λ good. without-complete o io without
completes (Ok (Gen start count mix)) o io (inl generates) = λ low. completes-gen start count mix o io generates.printed low
completes (Ok (Gen start count mix)) o io (inr without) = λ low. without-complete o io without
completes (Ok (Tpca setup returns start area every)) o io (inl drives) = λ low well. completes-tpca setup returns start area every o io drives low well
completes (Ok (Tpca setup returns start area every)) o io (inr without) = λ low well. without-complete o io without
completes (Ok (Save setup returns)) o io (inl saves) = λ good well. completes-save setup returns o io (done_of (save_task setup returns) o io saves) good well
completes (Ok (Save setup returns)) o io (inr without) = λ good well. without-complete o io without
completes (Ok (Resume policy limit mark returns most)) o io (inl resumes) = λ holds trace well. completes-resume most (setup_found policy limit mark) returns o io resumes holds trace well
completes (Ok (Resume policy limit mark returns most)) o io (inr without) = λ holds trace well. without-complete o io without
completes (Ok (Audit most)) o io (inl audits) = λ holds small calm. completes-judging most IsVerdict o io audits holds small calm
completes (Ok (Audit most)) o io (inr without) = λ holds small calm. without-complete o io without
completes (Ok (Map most)) o io (inl maps) = λ holds small calm. completes-judging most IsMap o io maps holds small calm
completes (Ok (Map most)) o io (inr without) = λ holds small calm. without-complete o io without
completes (Ok (Index setup returns)) o io (inl indexes) = λ good well. completes-index setup returns o io (done_of (index_task setup returns) o io indexes) good well
completes (Ok (Index setup returns)) o io (inr without) = λ good well. without-complete o io without
completes (Ok (Mirror setup returns)) o io (inl mirrors) = λ good well. completes-mirror setup returns o io (done_of (mirror_task setup returns) o io mirrors) good well
completes (Ok (Mirror setup returns)) o io (inr without) = λ good well. inl (without-complete o io without)
completes (Err fault) o io done = tt

-- what is said of a second board is said of its chart
pub alone-mapped : {X Y : Type 0} (command : Command) (f : X → Y) (second : Option X) → IsAlone command second → IsAlone command (option_map f second)
alone-mapped (Mirror setup returns) f second alone = tt
alone-mapped (Run setup returns) f second alone = ap (option_map f) alone
alone-mapped (Plain setup) f second alone = ap (option_map f) alone
alone-mapped (Gen start count mix) f second alone = ap (option_map f) alone
alone-mapped (Tpca setup returns start area every) f second alone = ap (option_map f) alone
alone-mapped (Save setup returns) f second alone = ap (option_map f) alone
alone-mapped (Resume policy limit mark returns most) f second alone = ap (option_map f) alone
alone-mapped (Audit most) f second alone = ap (option_map f) alone
alone-mapped (Map most) f second alone = ap (option_map f) alone
alone-mapped (Index setup returns) f second alone = ap (option_map f) alone

-- the command is that of the words
pub headline-read : (words : List Text) (read : Result Command WordsFault) (command : Command) (o : Outcome) (io : Streams) → (read ≡ Err Memory) ⊎ (read ≡ command_of words) → read ≡ Ok command → Headline (Ok command) o io → Headline (command_of words) o io
headline-read words read command o io (inl none) e headline = absurd (let never = none in cc)
headline-read words read command o io (inr is) e headline = subst (λ (x : Result Command WordsFault). Headline x o io) (sym e ∙ is) headline

-- what is said of a second board by the command is so by the words
pub alone-read : (words : List Text) (read : Result Command WordsFault) (command : Command) (o : Outcome) → (read ≡ Err Memory) ⊎ (read ≡ command_of words) → read ≡ Ok command → IsAlone command o.second → IsAloneIn (command_of words) o
alone-read words read command o (inl none) e alone = absurd (let never = none in cc)
alone-read words read command o (inr is) e alone = subst (λ (x : Result Command WordsFault). IsAloneIn x o) (sym e ∙ is) alone

-- words that are refused by the rule of this number
pub words-refused : {B : Type 0} (state : B → State) (told rule : ℕ) (e : Finished B) (feed : Feed) (sink : Drain) → told ≡ rule → e ≡ record { ending = WordsRefused told; lines = 0; taken = 0; board = None; second = None } → Does (boardless (Refuses rule)) (outcome_of state e) (record { from = feed; feed = feed; to = sink; sink = sink })
words-refused {B} state told rule e feed sink same is =
    let io : Streams = record { from = feed; feed = feed; to = sink; sink = sink } in
    subst (λ (n : ℕ). Does (boardless (Refuses n)) (outcome_of state e) io) same
    (subst (λ (x : Finished B). Does (boardless (Refuses told)) (outcome_of state x) io) (sym is)
    (record {
      account = tt;
      printed = record { ending = record { status = refl; why = refl }; quiet = record { lines = refl; taken = refl; source = refl; sink = refl } };
      board = refl;
      licences = tt;
    }))

-- and of those words
pub headline-refused : (words : List Text) (read : Result Command WordsFault) (fault : WordsFault) (o : Outcome) (io : Streams) → (read ≡ Err Memory) ⊎ (read ≡ command_of words) → read ≡ Err fault → (fault ≡ Memory → ⊥) → Does (meaning_of (Err fault)) o io → Headline (command_of words) o io
headline-refused words read fault o io (inl none) e other does = absurd (other cc)
headline-refused words read fault o io (inr is) e other does = subst (λ (x : Result Command WordsFault). Headline x o io) (sym e ∙ is) (inl does)

-- neither fault is want of memory
pub form-known : Form ≡ Memory → ⊥
form-known same = cc

pub rule-known : (rule : ℕ) → Rule rule ≡ Memory → ⊥
rule-known rule same = cc

-- of what is done for a command, what is printed, and what is left

pub prints : (command : Result Command WordsFault) (o : Outcome) (io : Streams) → Headline command o io → o.lines ≤ o.taken → o.taken ≤ most_bytes → Prints command o io
prints command o io headline few read = record { answers = at headline; few = few; read = read }
  where
    at : Headline command o io → ((account : Meaning.Account (meaning_of command)) × Meaning.Printed (meaning_of command) account o io) ⊎ IsWithoutMemory o io
    at (inl does) = inl (does.account, does.printed)
    at (inr without) = inr without

pub leaves : (command : Result Command WordsFault) (o : Outcome) (io : Streams) → Headline command o io → IsAloneIn command o → Leaves command o io
leaves command o io headline alone = record { holds = at headline; alone = alone }
  where
    at : Headline command o io → ((account : Meaning.Account (meaning_of command)) × Meaning.Printed (meaning_of command) account o io × Meaning.Board (meaning_of command) account o) ⊎ IsWithoutMemory o io
    at (inl does) = inl (does.account, does.printed, does.board)
    at (inr without) = inr without

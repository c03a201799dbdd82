-- A trace behind an image, from what was said of the image and of the memory that was attached to its board.
use Rattle.std.proofs.Common.{◌≡◌, ◌⊎◌, inl, inr, ℕ, ◌*◌, ◌<◌, ◌≤◌, List, [], ◌++◌, length, refl, sym, ◌∙◌, ap, subst, arith}
use Rattle.std.specs.Prelude.{IsErr, IsTrue, true, false, Option, None, Some, Result, Ok, Err, slice_index, sum}
use Rattle.std.specs.Option.{option_map}
use Rattle.std.specs.Result.{is_err}
use Rattle.std.proofs.lemmas.List.{append_assoc}
use Rattle.envy_audit.specs.Judging.{Judges}
use Rattle.envy_audit.specs.declared.verdict.Verdict.{Verdict}
use Rattle.envy_audit.specs.declared.verdict.Verdict.TheVariants.{Sound, Unformatted, Broken}
use Rattle.envy_audit.proofs.Sounding.{sound-points}
use Rattle.envy_array.specs.Array.{Array}
use Rattle.envy_base.specs.Shape.{IsVersionOf, checked as shape_checked}
use Rattle.envy_base.specs.State.{State, IsBoard}
use Rattle.envy_base.specs.declared.shape.Shape.{Shape}
use Rattle.envy_image.specs.Backwards.{HoldTheSame}
use Rattle.envy_image.specs.Image.{head_of, head_size, body_of, image_of}
use Rattle.envy_image.specs.Installing.{body_size}
use Rattle.envy_image.proofs.Backwards.{fit-numbers, length-image, one-image, same-head}
use Rattle.envy_io.specs.Streams.{Feed, Drain, with_front}
use Rattle.envy_io.specs.Taking.{Taking}
use Rattle.envy_map.specs.Codes.{the_magic}
use Rattle.envy_map.specs.Fields.{Chart, chart, map_fields}
use Rattle.envy_soundness.specs.Sound.{Sound as SoundMap}
use Rattle.envy_memory.specs.Formats.{IsStarted}
use Rattle.envy_memory.specs.Picture.{Picture}
use Rattle.envy_policy.specs.Setup.{checked}
use Rattle.envy_policy.specs.declared.setup.Setup.{Setup}
use Rattle.envy_policy.specs.declared.setup.SetupFault.{SetupFault}
use Rattle.envy_serve.specs.declared.server.End.{End}
use Rattle.envy_serve.specs.Ends.{Serves, Ends, most_bytes}
use Rattle.envy_serve.specs.GoodTrace.{IsGoodTrace}
use Rattle.envy_serve.specs.Streams.{Streams}
use Rattle.envy_serve.proofs.Advancing.{served-either}
use Rattle.envy_serve.proofs.Earlier.{serves-earlier}
use Rattle.envy_serve.proofs.GoodTraces.{front-taken}
use Rattle.envy_trace.specs.declared.line.Line.{Line}
use Rattle.envy_trace.specs.declared.reply.Reply.{Reply}
use Rattle.envy_run.specs.Attached.{IsUntouched, KeepsImage, IsAttached}
use Rattle.envy_run.specs.Complete.{HoldsImage, HoldsTrace}
use Rattle.envy_run.specs.Audits.{IsLeftInstalled}
use Rattle.envy_run.specs.Done.{Run, Dies}
use Rattle.envy_run.specs.Loading.{HasTaken, IsInstalled, Loaded, TakesHead, TookOnly, Unloaded, ending_for}
use Rattle.envy_run.specs.Meaning.{Does}
use Rattle.envy_run.specs.Outcome.{Outcome, EndsBy, ending_of, outcome_of}
use Rattle.envy_run.specs.Resumes.{BreaksRule, FoundUnsound, IsUnsound, LicencesBehind, Misfit, Refused, TakenUp, TooLarge, resume_task, resuming, words_found}
use Rattle.envy_run.specs.Task.{DoesTask, MaybeServed, Session}
use Rattle.envy_run.specs.Tracing.{Start, TracedSince, DiedSince}
use Rattle.envy_run.specs.Turns.{TraceTurn, trace_grammar}
use Rattle.envy_run.specs.Unserved.{IsDark, IsOutOfMemory}
use Rattle.envy_run.specs.declared.endings.Ending.{Ending}
use Rattle.envy_run.specs.declared.endings.Ending.TheVariants.{ImageRefused, OutOfMemory, PowerLost}
use Rattle.envy_run.specs.declared.endings.Finished.{Finished}
use Rattle.envy_run.specs.declared.endings.ImageFault.TheVariants.{Unruly, Unsound}
use Rattle.envy_run.specs.declared.image_input.Refusal.{Refusal}
use Rattle.envy_run.specs.declared.image_input.Refusal.TheVariants.{Misshapen}
use Rattle.envy_run.proofs.Accounts.{Did, Died, account_of, ends-as, served_outcome}
use Rattle.envy_run.proofs.Checked.{shape-is}
use Rattle.envy_run.proofs.Loaded.{image-refused, installed-itself, no-head, refused-unharmed, too-large, within-head}
use Rattle.envy_run.proofs.Traced.{Began, licences-behind, on-board, ones-sum, thrifty-none, traced-first}

-- a memory that was attached to the board of an image
module _ (setup : Setup) (found : State) (installed : IsInstalled setup.shape found.given found) where
  -- each segment was erased once
  erased-once : sum found.erases ≡ setup.shape.segments
  erased-once = ones-sum found.erases each ∙ long
    where
      long : length found.erases ≡ setup.shape.segments
      long = IsBoard.erases installed.whole ∙ ap (λ (sh : Shape). sh.segments) installed.shape

      each : (e : ℕ) → e < length found.erases → slice_index found.erases e ≡ 1
      each e lt = installed.erases e (omega (arith, long))

  image-began : (first : Picture) → IsAttached (chart found) setup first → Began (setup.shape.segments * setup.shape.rows) setup found.given first
  image-began first a =
      let u = a.untouched in
      record {
        shape = IsUntouched.shape u ∙ installed.shape;
        given = IsUntouched.given u;
        pulled = IsUntouched.pulled u ∙ installed.pulled;
        plans = IsUntouched.plans u ∙ installed.plans;
        last_plan = IsUntouched.last_plan u ∙ installed.last_plan;
        counts = IsStarted.counts a.begins;
        begun = IsUntouched.begun u ∙ installed.begun;
        erases = λ none. IsUntouched.erases u ∙ erased-once;
      }

  pub image-traced : (first : Picture) → 0 < setup.shape.entries → IsAttached (chart found) setup first → TracedSince (record { array = words_found found; memory = first }) first []
  image-traced first some a = traced-first setup first (words_found found) some (IsUntouched.shape a.untouched ∙ installed.shape) a.stands a.begins

  -- the trace was served
  pub image-served : (whole : State) (first now : Picture) (end : End) (lines taken skipped : ℕ) (io : Streams) → skipped ≡ length (image_of found) → 0 < setup.shape.entries → IsAttached (chart found) setup first → lines ≤ most_bytes → ((start : Start) → TracedSince start first [] → (turns : List TraceTurn) × Serves end lines taken trace_grammar skipped (TracedSince start now) (DiedSince start now) [] turns io) → DoesTask (resume_task found setup found.given) (served_outcome end lines taken now.chart whole) io
  image-served whole first now end lines taken skipped io long some a few serves =
      let start : Start = record { array = words_found found; memory = first } in
      let o : Outcome = served_outcome end lines taken now.chart whole in
      let (turns, s) = serves start (image-traced first some a) in
      let either = served-either end (TracedSince start now) (DiedSince start now) turns (Ends.served (Serves.ends s)) in
      let l = licences-behind (setup.shape.segments * setup.shape.rows) 1 setup found.given start now turns (image-began first a) (let same_erases = IsUntouched.erases a.untouched in let once = erased-once in omega arith) (let same = Serves.lines_are s in omega arith) either in
      let entries : now.chart.shape.entries ≡ setup.shape.entries = ap (λ (sh : Shape). sh.entries) (LicencesBehind.shape l) in
      account_of (resume_task found setup found.given) o io (record {
        turns = turns;
        answers = inl (record {
          end = end;
          serves = subst (λ (k : ℕ). Serves end lines taken trace_grammar k (Did (resume_task found setup found.given) o) (Died (resume_task found setup found.given) o) [] turns io) long (on-board setup.shape.entries start now o end lines taken skipped turns io refl entries s);
          ending = record { status = refl; why = refl };
        });
        licences = l;
      })

  pub image-ended : {B : Type 0} (state : B → State) (first now : Picture) (end : End) (lines taken skipped : ℕ) (board : B) (e : Finished B) (io : Streams) → e ≡ record { ending = ending_of end; lines = lines; taken = taken; board = Some board; second = None } → chart (state board) ≡ now.chart → skipped ≡ length (image_of found) → lines ≤ most_bytes → 0 < setup.shape.entries → IsAttached (chart found) setup first → ((start : Start) → TracedSince start first [] → (turns : List TraceTurn) × Serves end lines taken trace_grammar skipped (TracedSince start now) (DiedSince start now) [] turns io) → DoesTask (resume_task found setup found.given) (outcome_of state e) io
  image-ended {B} state first now end lines taken skipped board e io is same long few some a serves =
      subst (λ (x : Finished B). DoesTask (resume_task found setup found.given) (outcome_of state x) io) (sym is)
      (subst (λ (c : Chart). DoesTask (resume_task found setup found.given) (served_outcome end lines taken c (state board)) io) (sym same)
      (image-served (state board) first now end lines taken skipped io long some a few serves))

  -- no line was read
  pub image-unread : {B : Type 0} (state : B → State) (ending : Ending) (taken : ℕ) (board : B) (e : Finished B) (feed : Feed) (sink : Drain) → e ≡ record { ending = ending; lines = 0; taken = taken; board = Some board; second = None } → taken ≡ length (image_of found) → KeepsImage (chart found) (chart (state board)) → ((ending ≡ OutOfMemory) × IsTrue (state board).on) ⊎ ((ending ≡ PowerLost) × ((chart (state board)).on ≡ false) × ((chart (state board)).lives ≡ 0)) → DoesTask (resume_task found setup found.given) (outcome_of state e) (record { from = feed; feed = feed; to = sink; sink = sink })
  image-unread {B} state ending taken board e feed sink is long k why =
      let u = k.untouched in
      let io : Streams = record { from = feed; feed = feed; to = sink; sink = sink } in
      subst (λ (x : Finished B). DoesTask (resume_task found setup found.given) (outcome_of state x) io) (sym is)
      (account_of (resume_task found setup found.given) _ io (record {
        turns = [];
        answers = inr (refl, record { lines = refl; taken = long; source = refl; sink = refl; ending = ends why }, record { board = (chart (state board), refl, k.still); cause = at why });
        licences = record {
          shape = IsUntouched.shape u ∙ installed.shape;
          given = IsUntouched.given u;
          pulled = IsUntouched.pulled u ∙ installed.pulled;
          plans = IsUntouched.plans u ∙ installed.plans;
          last_plan = IsUntouched.last_plan u ∙ installed.last_plan;
          losts = omega arith;
          faults = omega arith;
          told = tt;
          thrifty = thrifty-none (setup.shape.segments * setup.shape.rows) 1 (chart (state board)) (IsUntouched.begun u ∙ installed.begun) (let same_erases = IsUntouched.erases u in let once = erased-once in let segments = ap (λ (sh : Shape). sh.segments) (IsUntouched.shape u ∙ installed.shape) in omega arith);
        };
      }))
    where
      stopped : Finished B
      stopped = record { ending = ending; lines = 0; taken = taken; board = Some board; second = None }

      ends : ((ending ≡ OutOfMemory) × IsTrue (state board).on) ⊎ ((ending ≡ PowerLost) × ((chart (state board)).on ≡ false) × ((chart (state board)).lives ≡ 0)) → EndsBy OutOfMemory (outcome_of state stopped) ⊎ EndsBy PowerLost (outcome_of state stopped)
      ends (inl (out, on)) = inl (ends-as state stopped OutOfMemory out)
      ends (inr (lost, off, lives)) = inr (ends-as state stopped PowerLost lost)

      at : ((ending ≡ OutOfMemory) × IsTrue (state board).on) ⊎ ((ending ≡ PowerLost) × ((chart (state board)).on ≡ false) × ((chart (state board)).lives ≡ 0)) → IsOutOfMemory (outcome_of state stopped) ⊎ IsDark (outcome_of state stopped)
      at (inl (out, on)) = inl (record { ending = ends-as state stopped OutOfMemory out; board = record { on = on; bads = λ none. KeepsImage.bads k none ∙ installed.bads } })
      at (inr (lost, off, lives)) = inr (record { ending = ends-as state stopped PowerLost lost; now = chart (state board); board_is = refl; off = off; lives = lives })

-- What was done behind an image is said of the source that the image stood in.
served-earlier : (found : State) (setup : Setup) (returns : ℕ) (session : Option (Session Line Reply Array)) (o : Outcome) (io : Streams) (faults : ℕ) → faults ≤ io.from.faults → MaybeServed (resume_task found setup returns) session o io → MaybeServed (resume_task found setup returns) session o (record io { from = record { left = io.from.left; faults = faults } })
served-earlier found setup returns None o io faults le u = record { lines = u.lines; taken = u.taken; source = u.source; sink = u.sink; ending = u.ending }
served-earlier found setup returns (Some s) o io faults le served =
    record {
      serves = serves-earlier s.end o.lines o.taken trace_grammar (length (image_of found)) (λ turns. Run setup.shape.entries (words_found found) turns s.left) (λ turns. Dies setup.shape.entries (words_found found) turns s.left) [] s.turns io faults le served.serves;
      ending = served.ending;
    }

-- the trace behind an image is that of the board in it
takes-up : (most : ℕ) (words : Shape → Setup) (setup : Setup) (returns : ℕ) (sh : Shape) (found : State) (o : Outcome) (from mid feed : Feed) (to sink : Drain) (now : Taking) → setup ≡ words sh → sh.segments * sh.rows ≤ most → checked setup ≡ Ok tt → Loaded sh returns from found Sound now mid → DoesTask (resume_task found setup found.given) o (record { from = mid; feed = feed; to = to; sink = sink }) → Does (resuming most words returns) o (record { from = from; feed = feed; to = to; sink = sink })
takes-up most words setup returns sh found o from mid feed to sink now is few checks l does =
    let io : Streams = record { from = mid; feed = feed; to = to; sink = sink } in
    let same : setup ≡ words found.shape = is ∙ ap words (sym (IsInstalled.shape l.installed)) in
    let d : DoesTask (resume_task found (words found.shape) returns) o io = subst (λ (n : ℕ). DoesTask (resume_task found (words found.shape) n) o io) (IsInstalled.given l.installed) (subst (λ (x : Setup). DoesTask (resume_task found x found.given) o io) same does) in
    record {
      account = TakenUp found mid.left d.account;
      printed = record {
        whole = IsInstalled.whole l.installed;
        image = HasTaken.left l.taken;
        few = subst (λ (x : Shape). x.segments * x.rows ≤ most) (sym (IsInstalled.shape l.installed)) few;
        rules = subst (λ (x : Setup). checked x ≡ Ok tt) same checks;
        sound = l.judges;
        served = served-earlier found (words found.shape) returns d.account o io from.faults (HasTaken.faults l.taken) d.printed;
      };
      board = d.board;
      licences = d.licences;
    }

-- the image was installed and is sound, and what is behind it was done
pub resume-sound : (most : ℕ) (words : Shape → Setup) (setup : Setup) (returns : ℕ) (sh : Shape) (verdict : Verdict) (found : State) (o : Outcome) (from mid feed : Feed) (to sink : Drain) (now : Taking) → setup ≡ words sh → sh.segments * sh.rows ≤ most → checked setup ≡ Ok tt → verdict ≡ Sound → Loaded sh returns from found verdict now mid → DoesTask (resume_task found setup found.given) o (record { from = mid; feed = feed; to = to; sink = sink }) → Does (resuming most words returns) o (record { from = from; feed = feed; to = to; sink = sink })
resume-sound most words setup returns sh verdict found o from mid feed to sink now is few checks sound l does =
    takes-up most words setup returns sh found o from mid feed to sink now is few checks (subst (λ (v : Verdict). Loaded sh returns from found v now mid) sound l) does

-- the board that an image was installed on, by its own count of lives
pub installed-given : (setup : Setup) (sh : Shape) (returns : ℕ) (s : State) → setup.shape ≡ sh → IsInstalled sh returns s → IsInstalled setup.shape s.given s
installed-given setup sh returns s same i = subst (λ (x : Shape). IsInstalled x s.given s) (sym same) (subst (λ (n : ℕ). IsInstalled sh n s) (sym i.given) i)

pub judged-sound : (verdict : Verdict) (c : Chart) → verdict ≡ Sound → Judges verdict c → Judges Sound c
judged-sound verdict c is judges = subst (λ (v : Verdict). Judges v c) is judges

-- no rule is broken
pub checks-ok : (r : Result Unit SetupFault) → is_err r ≡ false → r ≡ Ok tt
checks-ok (Ok done) is = refl
checks-ok (Err fault) is = absurd cc

-- a rule is broken
pub checks-err : (r found : Result Unit SetupFault) → r ≡ found → is_err r ≡ true → IsErr found
checks-err r found same is = sym (ap is_err same) ∙ is

-- a verdict that isn't `Sound`
unsound : (verdict : Verdict) (s : State) → IsBoard s → (verdict ≡ Sound → ⊥) → Judges verdict (chart s) → Judges Sound (chart s) → ⊥
unsound Sound s board other judges sound = other refl
unsound Unformatted s board other judges sound = judges sound.0
unsound (Broken x) s board other judges sound = judges.fails (sound-points s board sound.1 x)

-- the ends of `resume` without a trace

-- bytes that hold no image that could be taken up
pub resume-declined : {B : Type 0} (state : B → State) (most : ℕ) (words : Shape → Setup) (sh : Shape) (refusal : Refusal) (returns taken : ℕ) (board : Option B) (e : Finished B) (from feed : Feed) (sink : Drain) (now : Taking) → e ≡ record { ending = ending_for refusal; lines = 0; taken = taken; board = board; second = None } → taken ≡ now.taken → shape_checked sh ≡ Ok tt → sh.segments * sh.rows ≤ most → checked (words sh) ≡ Ok tt → Unloaded sh returns from (option_map state board) refusal now feed → Does (resuming most words returns) (outcome_of state e) (record { from = from; feed = feed; to = sink; sink = sink })
resume-declined {B} state most words sh refusal returns taken board e from feed sink now is same shape few rules u =
    subst (λ (x : Finished B). Does (resuming most words returns) (outcome_of state x) (record { from = from; feed = feed; to = sink; sink = sink })) (sym is)
    (record {
      account = Refused refusal u.bytes;
      printed = record { refuses = image-refused state sh refusal returns taken board from feed sink now same u; within = within-head most sh u.bytes u.head.0 u.head.1 shape few; rules = λ other rest told ok. subst (λ (x : Shape). checked (words x) ≡ Ok tt) (same-head sh other u.head.0 rest (fit-numbers sh (shape-is sh shape)) (fit-numbers other (shape-is other ok)) (sym u.head.1 ∙ told)) rules };
      board = refused-unharmed state sh refusal returns board from feed now u;
      licences = tt;
    })

-- the head itself wasn't read
pub resume-headless : {B : Type 0} (state : B → State) (most : ℕ) (words : Shape → Setup) (refusal : Refusal) (returns taken : ℕ) (e : Finished B) (from feed : Feed) (sink : Drain) (now : Taking) → e ≡ record { ending = ending_for refusal; lines = 0; taken = taken; board = None; second = None } → taken ≡ now.taken → TakesHead from (Err refusal) now feed → Does (resuming most words returns) (outcome_of state e) (record { from = from; feed = feed; to = sink; sink = sink })
resume-headless {B} state most words refusal returns taken e from feed sink now is same (bytes, t, cause, other) =
    subst (λ (x : Finished B). Does (resuming most words returns) (outcome_of state x) (record { from = from; feed = feed; to = sink; sink = sink })) (sym is)
    (record {
      account = Refused refusal bytes;
      printed = record {
        refuses = record { ending = record { status = refl; why = refl }; took = record { lines = refl; taken = same ∙ t.taken; source = t.left; sink = refl }; cause = cause };
        within = λ sh rest told ok. absurd (no-head refusal bytes from feed other cause sh rest told ok);
        rules = λ sh rest told ok. absurd (no-head refusal bytes from feed other cause sh rest told ok);
      };
      board = tt;
      licences = tt;
    })

-- a head of too many rows
pub resume-large : {B : Type 0} (state : B → State) (most : ℕ) (words : Shape → Setup) (sh : Shape) (returns taken : ℕ) (e : Finished B) (from feed : Feed) (sink : Drain) (now : Taking) → e ≡ record { ending = ending_for Misshapen; lines = 0; taken = taken; board = None; second = None } → taken ≡ now.taken → shape_checked sh ≡ Ok tt → most < sh.segments * sh.rows → HasTaken (head_of sh) from now feed → Does (resuming most words returns) (outcome_of state e) (record { from = from; feed = feed; to = sink; sink = sink })
resume-large {B} state most words sh returns taken e from feed sink now is same shape many t =
    subst (λ (x : Finished B). Does (resuming most words returns) (outcome_of state x) (record { from = from; feed = feed; to = sink; sink = sink })) (sym is)
    (record { account = TooLarge sh; printed = too-large state most sh taken from feed sink now same shape many t; board = refl; licences = tt })

-- an image whose shape breaks a rule with the words
pub resume-unruly : {B : Type 0} (state : B → State) (most : ℕ) (words : Shape → Setup) (setup : Setup) (sh : Shape) (returns taken : ℕ) (e : Finished B) (from feed : Feed) (sink : Drain) (now : Taking) → e ≡ record { ending = ImageRefused Unruly; lines = 0; taken = taken; board = None; second = None } → taken ≡ now.taken → setup ≡ words sh → IsErr (checked setup) → shape_checked sh ≡ Ok tt → sh.segments * sh.rows ≤ most → HasTaken (head_of sh) from now feed → Does (resuming most words returns) (outcome_of state e) (record { from = from; feed = feed; to = sink; sink = sink })
resume-unruly {B} state most words setup sh returns taken e from feed sink now is same found fails shape few t =
    subst (λ (x : Finished B). Does (resuming most words returns) (outcome_of state x) (record { from = from; feed = feed; to = sink; sink = sink })) (sym is)
    (record {
      account = Misfit sh;
      printed = record {
        ending = record { status = refl; why = refl };
        shape = shape;
        few = few;
        took = record { lines = refl; taken = same ∙ t.taken; source = t.left; sink = refl };
        fails = subst (λ (x : Setup). IsErr (checked x)) found fails;
      };
      board = refl;
      licences = tt;
    })

-- an image whose board isn't sound
pub resume-unsound : {B : Type 0} (state : B → State) (most : ℕ) (words : Shape → Setup) (setup : Setup) (sh : Shape) (verdict : Verdict) (returns taken : ℕ) (board : B) (e : Finished B) (from feed : Feed) (sink : Drain) (now : Taking) → e ≡ record { ending = ImageRefused Unsound; lines = 0; taken = taken; board = Some board; second = None } → taken ≡ now.taken → setup ≡ words sh → sh.segments * sh.rows ≤ most → checked setup ≡ Ok tt → (verdict ≡ Sound → ⊥) → Loaded sh returns from (state board) verdict now feed → Does (resuming most words returns) (outcome_of state e) (record { from = from; feed = feed; to = sink; sink = sink })
resume-unsound {B} state most words setup sh verdict returns taken board e from feed sink now is same found few checks other l =
    let i = l.installed in
    subst (λ (x : Finished B). Does (resuming most words returns) (outcome_of state x) (record { from = from; feed = feed; to = sink; sink = sink })) (sym is)
    (record {
      account = FoundUnsound (state board);
      printed = record {
        ending = record { status = refl; why = refl };
        took = record { lines = refl; taken = same ∙ HasTaken.taken l.taken; source = HasTaken.left l.taken; sink = refl };
        few = subst (λ (x : Shape). x.segments * x.rows ≤ most) (sym i.shape) few;
        rules = subst (λ (x : Setup). checked x ≡ Ok tt) (found ∙ ap words (sym i.shape)) checks;
        fails = unsound verdict (state board) i.whole other l.judges;
      };
      board = record { installed = installed-itself sh returns (state board) i; board = refl; state = refl };
      licences = tt;
    })

-- no line was read
pub stopped-ends : {B : Type 0} (ending : Ending) (taken : ℕ) (board : Option B) (e : Finished B) (now : Taking) (bytes : List ℕ) (from feed : Feed) → e ≡ record { ending = ending; lines = 0; taken = taken; board = board; second = None } → taken ≡ now.taken → HasTaken bytes from now feed → (e.lines ≤ e.taken) × (e.taken ≤ 1099511627776) × (e.second ≡ None)
stopped-ends {B} ending taken board e now bytes from feed is same t =
    subst (λ (x : Finished B). (x.lines ≤ x.taken) × (x.taken ≤ 1099511627776) × (x.second ≡ None)) (sym is)
    (omega arith, (let within = t.within in let cap = t.cap in omega arith), refl)

-- where all goes well

module _ (most : ℕ) (words : Shape → Setup) (returns : ℕ) (o : Outcome) (io : Streams) (holds : HoldsImage io) (trace : HoldsTrace most words io holds) where
  -- the image that was found is the one that is there
  same-image : (found : State) (behind : Option (List ℕ)) → IsBoard found → io.from.left ≡ with_front (image_of found) behind → HoldTheSame found holds.image × (behind ≡ Some holds.rest)
  same-image found behind whole image =
      let (left, is, all) = front-taken (image_of holds.image ++ holds.rest) (image_of found) behind (sym holds.told ∙ image) in
      let (same, rest) = one-image found holds.image left holds.rest whole holds.whole (sym all) in
      (same, is ∙ ap Some rest)

  same-length : (found : State) → IsBoard found → HoldTheSame found holds.image → length (image_of holds.image) ≡ length (image_of found)
  same-length found whole same = let a = length-image found whole in let b = length-image holds.image holds.whole in let c = ap body_size same.shape in let d = ap head_size same.shape in omega arith

  -- the trace behind it can be served
  pub good-behind : (found : State) (behind : Option (List ℕ)) → IsBoard found → io.from.left ≡ with_front (image_of found) behind → IsGoodTrace trace_grammar (length (image_of found)) (record io { from = record { left = behind; faults = io.from.faults } })
  good-behind found behind whole image =
      let (same, is) = same-image found behind whole image in
      let t = trace.trace in
      record {
        bytes = t.bytes;
        told = is ∙ t.told;
        short = let long = same-length found whole same in let few = t.short in omega arith;
        lines = t.lines;
        reads = t.reads;
        writes = t.writes;
      }

  pub never-unruly : (sh : Shape) → BreaksRule most words sh o io → ⊥
  unfolding image_of
  never-unruly sh b =
      let (left, is, all) = front-taken (image_of holds.image ++ holds.rest) (head_of sh) io.feed.left (sym holds.told ∙ TookOnly.source b.took) in
      let parts : image_of holds.image ++ holds.rest ≡ head_of holds.image.shape ++ (body_of holds.image.flash holds.image.sram ++ holds.rest) = append_assoc (head_of holds.image.shape) (body_of holds.image.flash holds.image.sram) holds.rest in
      let one : holds.image.shape ≡ sh = same-head holds.image.shape sh _ _ (fit-numbers holds.image.shape (IsBoard.shape holds.whole)) (fit-numbers sh (shape-is sh b.shape)) (sym parts ∙ all) in
      let good : checked (words sh) ≡ Ok tt = subst (λ (x : Shape). checked (words x) ≡ Ok tt) one trace.rules in
      let never = subst (λ (r : Result Unit SetupFault). IsErr r) good b.fails in
      cc

  -- the map of a formatted board of this shape, which is sound
  abbrev AreSound : Shape → List ℕ → List (List ℕ) → Type 0
  AreSound sh sram flash = (((map_fields sh sram).magic ≡ the_magic) × IsVersionOf sh (map_fields sh sram).version) × SoundMap sh (map_fields sh sram) flash

  sound-alike : (s t : State) → HoldTheSame s t → Judges Sound (chart t) → Judges Sound (chart s)
  sound-alike s t same sound =
      subst (λ (flash : List (List ℕ)). AreSound s.shape s.sram flash) (sym same.flash)
      (subst (λ (sram : List ℕ). AreSound s.shape sram t.flash) (sym same.sram)
      (subst (λ (sh : Shape). AreSound sh t.sram t.flash) (sym same.shape) sound))

  pub never-unsound : (found : State) → IsLeftInstalled returns found o → IsUnsound most words found o io → ⊥
  never-unsound found left u =
      let (same, is) = same-image found io.feed.left (IsInstalled.whole left.installed) (TookOnly.source u.took) in
      u.fails (sound-alike found holds.image same trace.sound)

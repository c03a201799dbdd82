-- A run over a mirrored pair of boards.
use Rattle.std.proofs.Common.{◌≡◌, ◌⊎◌, inl, inr, ℕ, ◌<◌, ◌≤◌, false, List, [], refl, sym, ◌∙◌, ap, subst, arith}
use Rattle.std.specs.Prelude.{IfSome, Option, None, Some, unwrap_or, IsTrue}
use Rattle.std.specs.Option.{option_map}
use Rattle.envy_array.specs.Array.{zeros}
use Rattle.envy_base.specs.Shape.{IsShape}
use Rattle.envy_base.specs.State.{State, IsMade}
use Rattle.envy_base.specs.declared.shape.Shape.{Shape}
use Rattle.envy_io.specs.Streams.{Feed, Drain}
use Rattle.envy_io.specs.Taking.{Taking}
use Rattle.envy_meaning.specs.Stands.{Stands}
use Rattle.envy_map.specs.Fields.{Chart, chart}
use Rattle.envy_memory.specs.Formats.{IsFresh, IsStarted}
use Rattle.envy_memory.specs.Picture.{Picture}
use Rattle.envy_mirror.specs.Mirroring.{Mirrors}
use Rattle.envy_mirror.specs.Pair.{Pair, started}
use Rattle.envy_pair.specs.Ending.{Boards, HasMirrored, HasFallen, PairLicences}
use Rattle.envy_pair.specs.MirrorRun.{MirrorTurn, mirror_grammar}
use Rattle.envy_pair.specs.Serving.{Start, MirroredSince, FellSince}
use Rattle.envy_pair.specs.State.{begun}
use Rattle.envy_pair.proofs.Beginning.{begins}
use Rattle.envy_pair.proofs.Finishing.{IsUnused, AreUnused, boards_of, licences-either, mirrored, fallen, bill-either}
use Rattle.envy_policy.specs.declared.setup.Setup.{Setup}
use Rattle.envy_serve.specs.declared.server.End.{End}
use Rattle.envy_serve.specs.Ends.{Serves, Ends, IsAtStart, most_bytes}
use Rattle.envy_serve.specs.Streams.{Streams}
use Rattle.envy_serve.proofs.Advancing.{Serves-as, served-either}
use Rattle.envy_run.specs.declared.endings.Ending.{Ending}
use Rattle.envy_run.specs.declared.endings.Ending.TheVariants.{FlashFailed, OutOfMemory, PowerLost}
use Rattle.envy_run.specs.declared.endings.Finished.{Finished}
use Rattle.envy_run.specs.declared.preparation.Unready.{Unready}
use Rattle.envy_run.specs.declared.preparation.Unready.TheVariants.{Memory, Bad, Dead}
use Rattle.envy_run.specs.Loading.{IsFlawless, IsNew, IsUnharmed, untouched}
use Rattle.envy_run.specs.MirrorTask.{AreHandedBack, IsAsMade, IsEitherDark, IsEitherSpoilt, IsMadeFor, IsPairOutOfMemory, MirrorLicences, IsMirrorUnready, mirror_task}
use Rattle.envy_run.specs.Outcome.{Outcome, IsQuiet, ending_of, outcome_of}
use Rattle.envy_run.specs.Prepares.{IsPrepared, IsReady, Unprepared, ending_of_unready}
use Rattle.envy_run.specs.Task.{DoesTask}
use Rattle.envy_run.specs.Unserved.{IsUnread}
use Rattle.envy_run.proofs.Accounts.{account_of}

-- a board that nothing was planned on and nobody cut
pub record IsBlank (setup : Setup) (returns : ℕ) (now : Chart) : Type 0 where
  pub made : IsMadeFor setup returns now
  pub pulled : now.pulled ≡ 0
  pub plans : now.plans ≡ 0

pub blank-made : (setup : Setup) (returns : ℕ) (s : State) → IsMade setup.shape returns s → IsBlank setup returns (chart s)
blank-made setup returns s made = record { made = record { shape = made.shape; given = made.given }; pulled = made.pulled; plans = made.plans }

pub blank-prepared : (setup : Setup) (returns : ℕ) (old now : Chart) → IsPrepared old now → IsBlank setup returns old → IsBlank setup returns now
blank-prepared setup returns old now p b = record { made = record { shape = p.shape ∙ IsMadeFor.shape b.made; given = p.given ∙ IsMadeFor.given b.made }; pulled = p.pulled ∙ b.pulled; plans = p.plans ∙ b.plans }

blank-licences : (first second : Chart) → first.pulled ≡ 0 → second.pulled ≡ 0 → first.plans ≡ 0 → second.plans ≡ 0 → PairLicences [] (record { first = first; second = second })
blank-licences first second a b c d = record { pulled = omega arith; plans = omega arith; losts = omega arith; faults = omega arith }

-- what is said of two boards is said of the two that are there
licences-of : (setup : Setup) (returns : ℕ) (o : Outcome) (turns : List MirrorTurn) (first second : Chart) → o.board ≡ Some first → o.second ≡ Some second → IsMadeFor setup returns first → IsMadeFor setup returns second → PairLicences turns (record { first = first; second = second }) → MirrorLicences setup returns o turns
licences-of setup returns o turns first second e f made made_second licences = record {
  first = subst (λ (b : Option Chart). IfSome b (IsMadeFor setup returns)) (sym e) made;
  second = subst (λ (b : Option Chart). IfSome b (IsMadeFor setup returns)) (sym f) made_second;
  alone = λ none. absurd (let clash : None ≡ Some second = sym none ∙ f in let never : Option Chart = None in cc);
  both = λ boards is is_second.
      let same : first ≡ boards.first = ap (λ (b : Option Chart). unwrap_or b first) (sym e ∙ is) in
      let same_second : second ≡ boards.second = ap (λ (b : Option Chart). unwrap_or b second) (sym f ∙ is_second) in
      subst (λ (c : Chart). PairLicences turns (record { first = c; second = boards.second })) same (subst (λ (c : Chart). PairLicences turns (record { first = first; second = c })) same_second licences);
}

-- what is said of a board that is as it was made
made-of : (setup : Setup) (returns : ℕ) (board : Option Chart) → IfSome board (IsAsMade setup returns) → IfSome board (IsMadeFor setup returns) × IfSome board (λ now. IsTrue now.on)
made-of setup returns None as_made = (tt, tt)
made-of setup returns (Some now) (new, unharmed) = (record { shape = IsNew.shape new; given = IsUnharmed.given unharmed }, IsFlawless.on (IsNew.flawless new))

pub as-made : (setup : Setup) (returns : ℕ) (s : State) → IsMade setup.shape returns s → IsAsMade setup returns (chart s)
as-made setup returns s m = (
  record { shape = m.shape; flawless = record { on = m.on; cuts = m.cuts; bads = m.bads }; begun = m.begun; erases = m.erases },
  record { given = m.given; lives = m.lives; pulled = m.pulled; plans = m.plans; last_plan = m.last_plan },
)

licences-alone : (setup : Setup) (returns : ℕ) (o : Outcome) → IfSome o.board (IsAsMade setup returns) → o.second ≡ None → MirrorLicences setup returns o []
licences-alone setup returns o as_made none = record {
  first = (made-of setup returns o.board as_made).0;
  alone = λ still_none. as_made;
  second = subst (λ (b : Option Chart). IfSome b (IsMadeFor setup returns)) (sym none) tt;
  both = λ boards is is_second. absurd (let clash : None ≡ Some boards.second = sym none ∙ is_second in let never : Option Chart = None in cc);
}

-- why no line was read tells how the run ended
mirror-unread : (o : Outcome) (io : Streams) → IsQuiet o io → IsMirrorUnready o → IsUnread o io
mirror-unread o io quiet (inl out) = (quiet, inl (IsPairOutOfMemory.ending out))
mirror-unread o io quiet (inr (inl spoilt)) = (quiet, inr (inl (IsEitherSpoilt.ending spoilt)))
mirror-unread o io quiet (inr (inr dark)) = (quiet, inr (inr (IsEitherDark.ending dark)))

-- a run that ended before a line was read
pub mirror-quiet : {B : Type 0} (state : B → State) (setup : Setup) (returns : ℕ) (e f : Finished B) (feed : Feed) (sink : Drain) → e ≡ f → IsQuiet (outcome_of state f) (record { from = feed; feed = feed; to = sink; sink = sink }) → IsMirrorUnready (outcome_of state f) → MirrorLicences setup returns (outcome_of state f) [] → DoesTask (mirror_task setup returns) (outcome_of state e) (record { from = feed; feed = feed; to = sink; sink = sink })
mirror-quiet {B} state setup returns e f feed sink is quiet why licences =
    let io : Streams = record { from = feed; feed = feed; to = sink; sink = sink } in
    subst (λ (x : Finished B). DoesTask (mirror_task setup returns) (outcome_of state x) io) (sym is)
    (account_of (mirror_task setup returns) (outcome_of state f) io (record { turns = []; answers = inr (refl, mirror-unread (outcome_of state f) io quiet why, why); licences = licences }))

-- no board, or the first alone, was made
pub mirror-unmade : {B : Type 0} (state : B → State) (setup : Setup) (returns : ℕ) (board : Option B) (e : Finished B) (feed : Feed) (sink : Drain) → e ≡ record { ending = OutOfMemory; lines = 0; taken = 0; board = board; second = None } → IfSome (option_map (λ b. chart (state b)) board) (IsAsMade setup returns) → DoesTask (mirror_task setup returns) (outcome_of state e) (record { from = feed; feed = feed; to = sink; sink = sink })
mirror-unmade {B} state setup returns board e feed sink is as_made =
    let f : Finished B = record { ending = OutOfMemory; lines = 0; taken = 0; board = board; second = None } in
    mirror-quiet state setup returns e f feed sink is (record { lines = refl; taken = refl; source = refl; sink = refl }) (inl (record { ending = record { status = refl; why = refl }; first = (made-of setup returns (option_map (λ b. chart (state b)) board) as_made).1; second = tt })) (licences-alone setup returns (outcome_of state f) as_made refl)

abbrev pub two_boards : {B : Type 0} → Ending → B → B → Finished B
two_boards ending one two = record { ending = ending; lines = 0; taken = 0; board = Some one; second = Some two }

-- over two boards on which nothing was done there is nothing to license
both-blank : {B : Type 0} (state : B → State) (setup : Setup) (returns : ℕ) (ending : Ending) (one two : B) → IsBlank setup returns (chart (state one)) → IsBlank setup returns (chart (state two)) → MirrorLicences setup returns (outcome_of state (two_boards ending one two)) []
both-blank state setup returns ending one two first second = licences-of setup returns (outcome_of state (two_boards ending one two)) [] (chart (state one)) (chart (state two)) refl refl first.made second.made (blank-licences (chart (state one)) (chart (state two)) first.pulled second.pulled first.plans second.plans)

-- what stopped the preparing of a board that was made without a count
pub record Stopped (unready : Unready) (now : Chart) : Type 0 where
  pub bad : unready ≡ Bad → 0 < now.bads
  pub dead : unready ≡ Dead → (now.on ≡ false) × (now.lives ≡ 0)
  pub on : unready ≡ Memory → IsTrue now.on

pub stopped-by : (unready : Unready) (old now : Chart) → IsShape old.shape → old.bads ≡ 0 → Unprepared unready old now → IsPrepared old now × Stopped unready now
stopped-by Memory old now sizes none u = (u.0, record { bad = λ e. cc; dead = λ e. cc; on = λ e. u.2 })
stopped-by Bad old now sizes none u = (u.0, record { bad = λ e. (let few = sizes.reserves in let most = sizes.few_segments in let rise = u.1 (omega (arith, none, few, most)) in omega (arith, rise)); dead = λ e. cc; on = λ e. cc })
stopped-by Dead old now sizes none u = (u.0, record { bad = λ e. cc; dead = λ e. (u.1, u.2); on = λ e. cc })

-- one of two boards couldn't be prepared
pub mirror-unready : {B : Type 0} (state : B → State) (setup : Setup) (returns : ℕ) (unready : Unready) (one two : B) (e : Finished B) (feed : Feed) (sink : Drain) → e ≡ two_boards (ending_of_unready unready) one two → Stopped unready (chart (state one)) ⊎ Stopped unready (chart (state two)) → (unready ≡ Memory → IsTrue (state one).on × IsTrue (state two).on) → IsBlank setup returns (chart (state one)) → IsBlank setup returns (chart (state two)) → DoesTask (mirror_task setup returns) (outcome_of state e) (record { from = feed; feed = feed; to = sink; sink = sink })
mirror-unready {B} state setup returns Memory one two e feed sink is stopped lit first second =
    let (on, also) = lit refl in
    mirror-quiet state setup returns e (two_boards OutOfMemory one two) feed sink is (record { lines = refl; taken = refl; source = refl; sink = refl }) (inl (record { ending = record { status = refl; why = refl }; first = on; second = also })) (both-blank state setup returns OutOfMemory one two first second)
mirror-unready {B} state setup returns Bad one two e feed sink is stopped lit first second =
    mirror-quiet state setup returns e (two_boards FlashFailed one two) feed sink is (record { lines = refl; taken = refl; source = refl; sink = refl }) (inr (inl (record { ending = record { status = refl; why = refl }; cause = at stopped }))) (both-blank state setup returns FlashFailed one two first second)
  where
    at : Stopped Bad (chart (state one)) ⊎ Stopped Bad (chart (state two)) → (now : Chart) × ((Some (chart (state one)) ≡ Some now) ⊎ (Some (chart (state two)) ≡ Some now)) × (0 < now.bads)
    at (inl x) = (chart (state one), inl refl, x.bad refl)
    at (inr x) = (chart (state two), inr refl, x.bad refl)
mirror-unready {B} state setup returns Dead one two e feed sink is stopped lit first second =
    mirror-quiet state setup returns e (two_boards PowerLost one two) feed sink is (record { lines = refl; taken = refl; source = refl; sink = refl }) (inr (inr (record { ending = record { status = refl; why = refl }; cause = at stopped }))) (both-blank state setup returns PowerLost one two first second)
  where
    at : Stopped Dead (chart (state one)) ⊎ Stopped Dead (chart (state two)) → (now : Chart) × ((Some (chart (state one)) ≡ Some now) ⊎ (Some (chart (state two)) ≡ Some now)) × ((now.on ≡ false) × (now.lives ≡ 0))
    at (inl x) = (chart (state one), inl refl, x.dead refl)
    at (inr x) = (chart (state two), inr refl, x.dead refl)

-- ---- the trace was served

unused-ready : (s : State) (setup : Setup) (returns : ℕ) (p : Picture) → IsMade setup.shape returns s → IsReady (chart s) setup p → IsUnused p
unused-ready s setup returns p made ready = record {
  pulled = IsPrepared.pulled ready.prepared ∙ made.pulled;
  plans = IsPrepared.plans ready.prepared ∙ made.plans;
  begun = ready.begun ∙ made.begun;
  counts = IsStarted.counts ready.begins;
}

made-ready : (s : State) (setup : Setup) (returns : ℕ) (p : Picture) → IsMade setup.shape returns s → IsReady (chart s) setup p → IsMadeFor setup returns p.chart
made-ready s setup returns p made ready = record { shape = IsPrepared.shape ready.prepared ∙ made.shape; given = IsPrepared.given ready.prepared ∙ made.given }

-- the memories that a pair is made of
pub record AreReady (setup : Setup) (returns : ℕ) (a b : Picture) : Type 0 where
  pub first : IsMadeFor setup returns a.chart
  pub second : IsMadeFor setup returns b.chart
  pub unused : AreUnused (started a b)

-- two memories that were formatted are ready for a pair
pub are-ready : (s t : State) (setup : Setup) (returns : ℕ) (a b : Picture) → IsMade setup.shape returns s → IsMade setup.shape returns t → IsReady (chart s) setup a → IsReady (chart t) setup b → AreReady setup returns a b
are-ready s t setup returns a b made made_second ready ready_second = record {
  first = made-ready s setup returns a made ready;
  second = made-ready t setup returns b made_second ready_second;
  unused = record { first = unused-ready s setup returns a made ready; second = unused-ready t setup returns b made_second ready_second };
}

abbrev pub start_of : Picture → Picture → Start
start_of a b = record { state = begun (zeros a.chart.shape.pages a.chart.shape.shadows) a.chart.shape.pages; pair = started a b }

-- both boards of a pair are still those that were made
made-since : (setup : Setup) (returns : ℕ) (a b : Picture) (p : Pair) (side : ℕ) (turns : List MirrorTurn) → AreReady setup returns a b → MirroredSince (start_of a b) p side turns ⊎ FellSince (start_of a b) p turns → IsMadeFor setup returns p.first.memory.chart × IsMadeFor setup returns p.second.memory.chart
made-since setup returns a b p side turns ready since =
    let (first, second) = bill-either (start_of a b) p side turns since in (
      record { shape = first.0 ∙ IsMadeFor.shape ready.first; given = first.1 ∙ IsMadeFor.given ready.first },
      record { shape = second.0 ∙ IsMadeFor.shape ready.second; given = second.1 ∙ IsMadeFor.given ready.second },
    )

abbrev pub both_ended : {B : Type 0} → End → ℕ → ℕ → B → B → Finished B
both_ended end lines taken one two = record { ending = ending_of end; lines = lines; taken = taken; board = Some one; second = Some two }

-- of these boards, whose charts are the pair's
mirror-served : {B : Type 0} (state : B → State) (setup : Setup) (returns : ℕ) (a b : Picture) (p : Pair) (side : ℕ) (end : End) (lines taken : ℕ) (one two : B) (io : Streams) → chart (state one) ≡ p.first.memory.chart → chart (state two) ≡ p.second.memory.chart → lines ≤ most_bytes → AreReady setup returns a b → (turns : List MirrorTurn) → Serves end lines taken mirror_grammar 0 (MirroredSince (start_of a b) p side) (FellSince (start_of a b) p) [] turns io → DoesTask (mirror_task setup returns) (outcome_of state (both_ended end lines taken one two)) io
mirror-served {B} state setup returns a b p side end lines taken one two io same same_second few ready turns s =
    let o : Outcome = outcome_of state (both_ended end lines taken one two) in
    let e : o.board ≡ Some p.first.memory.chart = ap (λ (c : Chart). Some c) same in
    let f : o.second ≡ Some p.second.memory.chart = ap (λ (c : Chart). Some c) same_second in
    let either = served-either end (MirroredSince (start_of a b) p side) (FellSince (start_of a b) p) turns (Ends.served (Serves.ends s)) in
    let many = Serves.lines_are s in
    let made = made-since setup returns a b p side turns ready either in
    let first_shape : a.chart.shape ≡ setup.shape = IsMadeFor.shape ready.first in
    let back : AreHandedBack (boards_of p) o = record { first = e; second = f } in
    account_of (mirror_task setup returns) o io (record {
      turns = turns;
      answers = inl (record {
        end = end;
        serves = subst (λ (sh : Shape). Serves end lines taken mirror_grammar 0 (λ t. (boards : Boards) × HasMirrored (zeros sh.pages sh.shadows) sh.pages boards t × AreHandedBack boards o) (λ t. (boards : Boards) × HasFallen (zeros sh.pages sh.shadows) sh.pages boards t × AreHandedBack boards o) [] turns io) first_shape
            (Serves-as end lines taken mirror_grammar 0 (MirroredSince (start_of a b) p side) (FellSince (start_of a b) p) _ _ [] turns io (λ t. (boards_of p, mirrored (zeros a.chart.shape.pages a.chart.shape.shadows) a.chart.shape.pages (started a b) p side turns ready.unused (omega arith) t, back)) (λ d. (boards_of p, fallen (zeros a.chart.shape.pages a.chart.shape.shadows) a.chart.shape.pages (started a b) p turns (omega arith) d, back)) s);
        ending = record { status = refl; why = refl };
      });
      licences = licences-of setup returns o turns p.first.memory.chart p.second.memory.chart e f made.0 made.1 (licences-either (start_of a b) p side turns ready.unused (omega arith) either);
    })

-- before the first line
pub begins-as : (a b : Picture) (p : Pair) (side : ℕ) → p ≡ started a b → side ≡ 0 → Mirrors p (zeros a.chart.shape.pages a.chart.shape.shadows) → MirroredSince (start_of a b) p side []
begins-as a b p side is none mirrors =
    subst (λ (q : Pair). MirroredSince (start_of a b) q side []) (sym is)
    (subst (λ (n : ℕ). MirroredSince (start_of a b) (started a b) n []) (sym none)
    (begins (zeros a.chart.shape.pages a.chart.shape.shadows) a b (subst (λ (q : Pair). Mirrors q (zeros a.chart.shape.pages a.chart.shape.shadows)) is mirrors)))

-- how a mirrored run ends, as its own record
pub ended-so : {B : Type 0} (ending : Ending) (end : End) (lines taken : ℕ) (one two : B) (e : Finished B) → e ≡ record { ending = ending; lines = lines; taken = taken; board = Some one; second = Some two } → ending ≡ ending_of end → e ≡ both_ended end lines taken one two
ended-so {B} ending end lines taken one two e is same =
    let with_ending : Ending → Finished B = λ x. record { ending = x; lines = lines; taken = taken; board = Some one; second = Some two } in
    is ∙ ap with_ending same

-- from a pair that was served to the account of the run
pub mirror-ended : {B : Type 0} (state : B → State) (setup : Setup) (returns : ℕ) (a b : Picture) (first_pair p : Pair) (first_side side : ℕ) (end : End) (lines taken skipped : ℕ) (one two : B) (e : Finished B) (io : Streams) → e ≡ both_ended end lines taken one two → chart (state one) ≡ p.first.memory.chart → chart (state two) ≡ p.second.memory.chart → skipped ≡ 0 → lines ≤ most_bytes → AreReady setup returns a b → MirroredSince (start_of a b) first_pair first_side [] → ((start : Start) → MirroredSince start first_pair first_side [] → (turns : List MirrorTurn) × Serves end lines taken mirror_grammar skipped (MirroredSince start p side) (FellSince start p) [] turns io) → DoesTask (mirror_task setup returns) (outcome_of state e) io
mirror-ended {B} state setup returns a b first_pair p first_side side end lines taken skipped one two e io is same same_second none few ready first serves =
    let served = subst (λ (k : ℕ). (turns : List MirrorTurn) × Serves end lines taken mirror_grammar k (MirroredSince (start_of a b) p side) (FellSince (start_of a b) p) [] turns io) none (serves (start_of a b) first) in
    subst (λ (x : Finished B). DoesTask (mirror_task setup returns) (outcome_of state x) io) (sym is)
    (mirror-served state setup returns a b p side end lines taken one two io same same_second few ready served.0 served.1)

-- the board of a memory that was prepared
pub blank-board : (setup : Setup) (returns : ℕ) (s : State) (p : Picture) (c : Chart) → IsMade setup.shape returns s → IsReady (chart s) setup p → c ≡ p.chart → IsBlank setup returns c
blank-board setup returns s p c made ready same = subst (λ (x : Chart). IsBlank setup returns x) (sym same) (blank-prepared setup returns (chart s) p.chart (IsReady.prepared ready) (blank-made setup returns s made))

pub lit-board : (s : Chart) (setup : Setup) (p : Picture) (c : Chart) → IsReady s setup p → c ≡ p.chart → IsTrue c.on
lit-board s setup p c ready same = subst (λ (x : Chart). IsTrue x.on) (sym same) (Stands.on (IsFresh.stands (IsReady.fresh ready)))

pub not-stopped : (c : Chart) → IsTrue c.on → Stopped Memory c
not-stopped c on = record { bad = λ e. cc; dead = λ e. cc; on = λ e. on }

-- the lines of a source of which none is taken yet
pub at-start : (lines : Taking) (feed : Feed) → lines ≡ untouched → IsAtStart lines feed
at-start lines feed is = subst (λ (t : Taking). IsAtStart t feed) (sym is) (record { cap = refl; within = omega arith; held = refl; dry = λ ended. absurd (let never = ended in cc) })

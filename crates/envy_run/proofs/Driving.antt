-- A load that was driven over a board that was made and formatted.
use Rattle.std.proofs.Common.{◌≡◌, ◌⊎◌, inl, inr, ℕ, zero, suc, ◌+◌, ◌-◌, ◌^◌, ◌<◌, ◌≤◌, Bool, true, false, List, refl, sym, ◌∙◌, ap, subst, arith}
use Rattle.std.specs.Prelude.{IfSome, Option, None, Some, Result, Ok, Err, slice_index, if◌then◌else◌}
use Rattle.std.proofs.lemmas.Bool.{cases_lt}
use Rattle.envy_args.specs.declared.command.Command.{Command}
use Rattle.envy_args.specs.declared.command.Command.TheVariants.{Run, Plain, Tpca, Gen, Save, Resume, Audit, Map, Index, Mirror}
use Rattle.envy_args.specs.declared.command.WordsFault.{WordsFault}
use Rattle.envy_args.specs.declared.command.WordsFault.TheVariants.{Memory}
use Rattle.envy_args.specs.Words.{Text, command_of}
use Rattle.envy_base.specs.State.{State, IsMade}
use Rattle.envy_array.specs.declared.area.Area.{Area}
use Rattle.envy_base.specs.declared.faults.PlannedFault.{PlannedFault}
use Rattle.envy_array.specs.declared.counts.Counts.{Counts}
use Rattle.envy_base.specs.declared.shape.Shape.{Shape}
use Rattle.envy_io.specs.Streams.{Drain, Feed}
use Rattle.envy_soundness.specs.Sound.{IsSound}
use Rattle.envy_meaning.specs.Stands.{Stands}
use Rattle.envy_soundness.specs.Words.{durable}
use Rattle.envy_map.specs.Fields.{Chart, chart}
use Rattle.envy_memory.specs.Calls.{fresh}
use Rattle.envy_memory.specs.Picture.{Picture, counts_of}
use Rattle.envy_memory.specs.Rises.{RoseOver}
use Rattle.envy_policy.specs.declared.setup.Setup.{Setup}
use Rattle.envy_serve.specs.Streams.{Streams}
use Rattle.envy_tpca.specs.Driving.{HasCounted, IsDriven, IsToldBefore, PlansCuts, is_planned, last_cut, plans_in}
use Rattle.envy_tpca.specs.Since.{IsPast, Keeps, Rises}
use Rattle.envy_tpca.specs.Tpc.{Tpc}
use Rattle.envy_tpca.proofs.Planning.{last-none}
use Rattle.envy_run.specs.Counters.{AddsUp}
use Rattle.envy_run.specs.Driven.{AfterLoad, HasBroken, HasTold, IsCause}
use Rattle.envy_run.specs.Drives.{FailsAsPlanned, IsCounted, IsDriver, IsUnbegun, TellsAll, TellsReturns, driving, load_of, report}
use Rattle.envy_run.specs.Meaning.{Does}
use Rattle.envy_run.specs.Outcome.{Outcome, EndsBy, IsQuiet, numbers_of, outcome_of}
use Rattle.envy_run.specs.Prepares.{HasTried, IsBegun, IsPrepared, IsReady, NoneBegun, WasMade}
use Rattle.envy_run.specs.Unserved.{IsUnready, IsUnserved}
use Rattle.envy_run.specs.Writing.{WritesAs, WritesTrace}
use Rattle.envy_run.specs.declared.endings.Ending.{Ending}
use Rattle.envy_run.specs.declared.endings.Ending.TheVariants.{Done, FlashFailed, PowerLost, WriteFault}
use Rattle.envy_run.specs.declared.endings.Finished.{Finished}
use Rattle.envy_run.proofs.Accounts.{unread}
use Rattle.envy_run.proofs.Traced.{Began, adds-up, began-of}

-- there are no more plans than transfers
plans-few : (every n : ℕ) → plans_in every n ≤ n
unfolding plans_in
plans-few every zero = omega arith
plans-few every (suc n) = let rest = plans-few every n in at (is_planned every n) rest
  where
    at : (b : Bool) → plans_in every n ≤ n → plans_in every n + (if b then 1 else 0) ≤ suc n
    at true le = omega arith
    at false le = omega arith

-- the outcome of a run that read nothing
abbrev pub ended : Ending → Chart → State → Outcome
ended ending now whole = record { status = (numbers_of ending).0; why = (numbers_of ending).1; lines = 0; taken = 0; board = Some now; state = Some whole; second = None }

abbrev pub unheard : Feed → Drain → Drain → Streams
unheard feed to sink = record { from = feed; feed = feed; to = to; sink = sink }

counts-told : (sums now : Counts) (c : Chart) → sums ≡ record now { hits = sums.hits; misses = sums.misses } → AddsUp 0 now c → AddsUp 0 sums c
counts-told sums now c others a = subst (λ (x : Counts). AddsUp 0 x c) (sym others) (record { programs = a.programs; erases = a.erases })

module _ (setup : Setup) (returns start : ℕ) (area : Area) (every : ℕ) (first now : Picture) (b : Began 0 setup returns first) (lives : first.chart.lives ≤ returns) (ending : Ending) (whole : State) (feed : Feed) (to sink : Drain) (keeps : Keeps first now) where
  same-shape : now.chart.shape ≡ setup.shape
  same-shape = keeps.shape ∙ b.shape

  -- the ending, as it is told
  tells-it : (e : Ending) → ending ≡ e → EndsBy e (ended ending now.chart whole)
  tells-it e is = record { status = ap (λ (x : Ending). (numbers_of x).0) is; why = ap (λ (x : Ending). (numbers_of x).1) is }

  writes-it : (text : List ℕ) → WritesAs text ending to sink → WritesTrace text (ended ending now.chart whole) to sink
  writes-it text (inl (is, whole_text, flushed)) = inl (tells-it Done is, whole_text, flushed)
  writes-it text (inr (is, front)) = inr (tells-it WriteFault is, front)

  driver : AfterLoad area (load_of start area) every first now ending to sink → IsDriver setup returns area every now.chart
  driver after =
      let none = Began.plans b in
      let plans = AfterLoad.plans after in
      record { shape = same-shape; given = keeps.given ∙ b.given; pulled = keeps.pulled ∙ b.pulled; plans = omega arith; last_plan = subst (λ (o : Option PlannedFault). PlansCuts area every o now.chart.last_plan) (Began.last_plan b) (AfterLoad.last_plan after) }

  reports : area.transfers < 2 ^ 32 → IsDriver setup returns area every now.chart → HasTold area (load_of start area) every first now ending to sink → Does (driving setup returns start area every) (ended ending now.chart whole) (unheard feed to sink)
  reports few so told =
      let d = HasTold.driven told in
      let cuts = IsDriven.cuts d in
      let fewer = plans-few every area.transfers in
      let plans = IsDriven.plans d in
      let none = Began.plans b in
      record {
        account = Some (HasTold.sums told);
        printed = record {
          nothing = record { lines = refl; taken = refl; source = refl };
          adds_up = IsDriven.adds_up d;
          writes = writes-it (report area (HasTold.sums told)) (HasTold.writes told);
        };
        board = (
          now.chart,
          refl,
          record {
            stands = subst (λ (sh : Shape). Stands now.chart (fresh sh.shadows (durable now.chart))) same-shape (IsDriven.rests d);
            words = subst (λ (sh : Shape). Tpc area sh.pages (load_of start area) area.transfers (durable now.chart)) same-shape (IsDriven.words d);
          },
        );
        licences = (
          so,
          (
            now.chart,
            refl,
            record {
              counts = counts-told _ (counts_of now.parts) now.chart (IsToldBefore.others (IsDriven.counts d)) (adds-up 0 setup returns first now b keeps.shape keeps.cuts keeps.tallies);
              accesses = λ none_cut low_hits low_misses.
                  let first_cuts = keeps.cuts in
                  let none_hit = ap (λ (c : Counts). c.hits) (Began.counts b) in
                  let none_missed = ap (λ (c : Counts). c.misses) (Began.counts b) in
                  let e = IsDriven.accesses d (omega arith) (omega arith) low_hits low_misses in
                  omega arith;
              cuts = omega arith;
              plans = let exact = Rises.exact plans (omega arith) in omega arith;
              last_plan = IsDriven.last_plan d ∙ ap (last_cut every area.transfers) (Began.last_plan b);
            },
          ),
        );
      }

  some-bads : IsPast first.chart.bads now.chart.bads → 0 < now.chart.bads
  some-bads past = at (cases_lt first.chart.bads (2 ^ 64 - 1))
    where
      at : (first.chart.bads < 2 ^ 64 - 1) ⊎ (2 ^ 64 - 1 ≤ first.chart.bads) → 0 < now.chart.bads
      at (inl low) = let more = past low in omega arith
      at (inr top) = let kept = keeps.bads in omega arith

  why-broken : IsCause ending first now → IsUnready (ended ending now.chart whole)
  why-broken (inl (is, off, none)) = inr (inr (record { ending = tells-it PowerLost is; now = now.chart; board_is = refl; off = off; lives = none }))
  why-broken (inr (is, past)) = inr (inl (record { ending = tells-it FlashFailed is; cause = (now.chart, refl, some-bads past) }))

  quiet-broken : HasBroken area (load_of start area) first now ending to sink → IsQuiet (ended ending now.chart whole) (unheard feed to sink)
  quiet-broken broken = record { lines = refl; taken = refl; source = refl; sink = HasBroken.sink_same broken }

  breaks : IsSound now.chart → IsDriver setup returns area every now.chart → HasBroken area (load_of start area) first now ending to sink → Does (driving setup returns start area every) (ended ending now.chart whole) (unheard feed to sink)
  breaks sound so broken =
      let why = why-broken (HasBroken.cause broken) in
      record {
        account = None;
        printed = unread (ended ending now.chart whole) (unheard feed to sink) (quiet-broken broken) why;
        board = (
          why,
          inr (record {
            sound = sound;
            few = HasCounted.few (HasBroken.counted broken);
            words = subst (λ (sh : Shape). Tpc area sh.pages (load_of start area) (slice_index (durable now.chart) 0) (durable now.chart)) same-shape (HasCounted.words (HasBroken.counted broken));
          }),
        );
        licences = (so, tt);
      }

  -- where formatting used no life the report tells each return of power
  tells-after : first.chart.lives ≡ returns → HasTold area (load_of start area) every first now ending to sink ⊎ HasBroken area (load_of start area) first now ending to sink → TellsReturns returns area (ended ending now.chart whole) (unheard feed to sink) ⊎ IsUnserved (ended ending now.chart whole) (unheard feed to sink)
  tells-after had (inl told) = inl (record {
    now = now.chart;
    board_is = refl;
    sums = HasTold.sums told;
    cuts = IsDriven.cuts (HasTold.driven told) ∙ had;
    writes = writes-it (report area (HasTold.sums told)) (HasTold.writes told);
  })
  tells-after had (inr broken) = inr (quiet-broken broken, why-broken (HasBroken.cause broken))

  drives-after : area.transfers < 2 ^ 32 → IsSound now.chart → AfterLoad area (load_of start area) every first now ending to sink → Does (driving setup returns start area every) (ended ending now.chart whole) (unheard feed to sink)
  drives-after few sound after = at (AfterLoad.ends after)
    where
      at : HasTold area (load_of start area) every first now ending to sink ⊎ HasBroken area (load_of start area) first now ending to sink → Does (driving setup returns start area every) (ended ending now.chart whole) (unheard feed to sink)
      at (inl told) = reports few (driver after) told
      at (inr broken) = breaks sound (driver after) broken

-- a run whose load was driven, to its end or not
pub drives-ended : {B : Type 0} (state : B → State) (setup : Setup) (returns start : ℕ) (area : Area) (every : ℕ) (first now : Picture) (ending : Ending) (board : B) (e : Finished B) (feed : Feed) (to sink : Drain) → e ≡ record { ending = ending; lines = 0; taken = 0; board = Some board; second = None } → chart (state board) ≡ now.chart → IsSound (chart (state board)) → area.transfers < 2 ^ 32 → IsBegun setup returns first → AfterLoad area (load_of start area) every first now ending to sink → Does (driving setup returns start area every) (outcome_of state e) (unheard feed to sink)
drives-ended {B} state setup returns start area every first now ending board e feed to sink is same sound few begun after =
    let lives = IsPrepared.lives (IsReady.prepared begun.ready) in
    let had = IsMade.lives begun.new in
    subst (λ (x : Finished B). Does (driving setup returns start area every) (outcome_of state x) (unheard feed to sink)) (sym is)
    (subst (λ (c : Chart). Does (driving setup returns start area every) (ended ending c (state board)) (unheard feed to sink)) (sym same)
    (drives-after setup returns start area every first now (began-of setup returns first begun) (omega arith) ending (state board) feed to sink (AfterLoad.keeps after) few (subst IsSound same sound) after))

-- a board whose power fails as planned alone was formatted without a failure
no-life-used : {B : Type 0} (state : B → State) (setup : Setup) (returns : ℕ) (made : State) (first : Picture) (board : B) → FailsAsPlanned state → chart (state board) ≡ first.chart → IsMade setup.shape returns made → IsReady (chart made) setup first → first.chart.lives ≡ returns
no-life-used state setup returns made first board kind same m ready =
    let p = IsReady.prepared ready in
    let plans : (state board).plans ≡ 0 = ap (λ (c : Chart). c.plans) same ∙ (IsPrepared.plans p ∙ m.plans) in
    let pulled : (state board).pulled ≡ 0 = ap (λ (c : Chart). c.pulled) same ∙ (IsPrepared.pulled p ∙ m.pulled) in
    let none = kind board plans pulled in
    let cuts : (state board).cuts ≡ first.chart.cuts = ap (λ (c : Chart). c.cuts) same in
    let rise = RoseOver.rise (HasTried.cuts (IsPrepared.tried p)) (omega arith) in
    let lives = HasTried.lives (IsPrepared.tried p) in
    let had = m.lives in
    omega arith

-- what the report of a load tells, where one is written
pub tells-ended : {B : Type 0} (state : B → State) (setup : Setup) (returns start : ℕ) (area : Area) (every : ℕ) (first now : Picture) (ending : Ending) (board formatted : B) (e : Finished B) (feed : Feed) (to sink : Drain) → e ≡ record { ending = ending; lines = 0; taken = 0; board = Some board; second = None } → chart (state board) ≡ now.chart → IsBegun setup returns first → FailsAsPlanned state → chart (state formatted) ≡ first.chart → AfterLoad area (load_of start area) every first now ending to sink → TellsReturns returns area (outcome_of state e) (unheard feed to sink) ⊎ IsUnserved (outcome_of state e) (unheard feed to sink)
tells-ended {B} state setup returns start area every first now ending board formatted e feed to sink is same begun kind before after =
    let lives = IsPrepared.lives (IsReady.prepared begun.ready) in
    let had = IsMade.lives begun.new in
    subst (λ (x : Finished B). TellsReturns returns area (outcome_of state x) (unheard feed to sink) ⊎ IsUnserved (outcome_of state x) (unheard feed to sink)) (sym is)
    (subst (λ (c : Chart). TellsReturns returns area (ended ending c (state board)) (unheard feed to sink) ⊎ IsUnserved (ended ending c (state board)) (unheard feed to sink)) (sym same)
    (tells-after setup returns start area every first now (began-of setup returns first begun) (omega arith) ending (state board) feed to sink (AfterLoad.keeps after) (no-life-used state setup returns begun.made first formatted kind before begun.new begun.ready) (AfterLoad.ends after)))

-- a run that ended without a load, or without a board
pub ends-unserved : (setup : Setup) (returns : ℕ) (o : Outcome) (feed : Feed) (sink : Drain) → NoneBegun setup returns o → IsUnserved o (unheard feed sink sink)
ends-unserved setup returns o feed sink n = (record { lines = n.lines; taken = n.taken; source = refl; sink = refl }, n.cause)

tells-unserved : (command : Result Command WordsFault) (o : Outcome) (io : Streams) → IsUnserved o io → TellsAll command o io
tells-unserved (Ok (Tpca setup returns start area every)) o io u = inr u
tells-unserved (Ok (Run setup returns)) o io u = tt
tells-unserved (Ok (Plain setup)) o io u = tt
tells-unserved (Ok (Gen start count mix)) o io u = tt
tells-unserved (Ok (Save setup returns)) o io u = tt
tells-unserved (Ok (Resume policy limit mark returns most)) o io u = tt
tells-unserved (Ok (Audit most)) o io u = tt
tells-unserved (Ok (Map most)) o io u = tt
tells-unserved (Ok (Index setup returns)) o io u = tt
tells-unserved (Ok (Mirror setup returns)) o io u = tt
tells-unserved (Err fault) o io u = tt

-- the command is that of the words
pub tells-read : (words : List Text) (read : Result Command WordsFault) (command : Command) (o : Outcome) (io : Streams) → (read ≡ Err Memory) ⊎ (read ≡ command_of words) → read ≡ Ok command → TellsAll (Ok command) o io → TellsAll (command_of words) o io
tells-read words read command o io (inl none) e told = absurd (let never = none in cc)
tells-read words read command o io (inr is) e told = subst (λ (x : Result Command WordsFault). TellsAll x o io) (sym e ∙ is) told

-- the words are refused, or memory ran out
pub tells-refused : (words : List Text) (read : Result Command WordsFault) (fault : WordsFault) (o : Outcome) (io : Streams) → (read ≡ Err Memory) ⊎ (read ≡ command_of words) → read ≡ Err fault → (fault ≡ Memory → IsUnserved o io) → TellsAll (command_of words) o io
tells-refused words read fault o io (inl out) e without = tells-unserved (command_of words) o io (without cc)
tells-refused words read fault o io (inr is) e without = subst (λ (x : Result Command WordsFault). TellsAll x o io) (sym e ∙ is) tt

-- formatting alone plans nothing and programs nothing
pub driver-prepared : (setup : Setup) (returns : ℕ) (area : Area) (every : ℕ) (made : State) (now : Chart) → IsMade setup.shape returns made → IsPrepared (chart made) now → IsUnbegun now × IsDriver setup returns area every now
driver-prepared setup returns area every made now m p =
    let none = m.plans in
    let plans = p.plans in
    (record { begun = p.begun ∙ m.begun; plans = p.plans ∙ m.plans; last_plan = p.last_plan ∙ m.last_plan }, record { shape = p.shape ∙ m.shape; given = p.given ∙ m.given; pulled = p.pulled ∙ m.pulled; plans = omega arith; last_plan = (0, omega arith, p.last_plan ∙ m.last_plan ∙ last-none every None) })

-- a run that ended before the load was begun
pub drives-quiet : (setup : Setup) (returns start : ℕ) (area : Area) (every : ℕ) (o : Outcome) (feed : Feed) (sink : Drain) → NoneBegun setup returns o → Does (driving setup returns start area every) o (unheard feed sink sink)
drives-quiet setup returns start area every o feed sink n = record {
  account = None;
  printed = unread o (unheard feed sink sink) (record { lines = n.lines; taken = n.taken; source = refl; sink = refl }) n.cause;
  board = (n.cause, first-of o.board n.board);
  licences = (second-of o.board n.board, tt);
}
  where
    first-of : (found : Option Chart) → IfSome found (WasMade setup returns) → IfSome found (λ now. IsUnbegun now ⊎ IsCounted setup start area now)
    first-of None none = tt
    first-of (Some now) m = inl (driver-prepared setup returns area every m.made now m.new m.prepared).0

    second-of : (found : Option Chart) → IfSome found (WasMade setup returns) → IfSome found (IsDriver setup returns area every)
    second-of None none = tt
    second-of (Some now) m = (driver-prepared setup returns area every m.made now m.new m.prepared).1

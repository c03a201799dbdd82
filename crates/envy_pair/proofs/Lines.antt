-- What any line does to a pair, from what was heard of its call.
use Rattle.std.proofs.Common.{◌≡◌, inl, ℕ, ◌/◌, ◌<◌, Bool, true, false, List, [], ◌∷◌, refl, sym, ◌∙◌, ap, subst, arith}
use Rattle.std.specs.Prelude.{Result, Ok, Err}
use Rattle.envy_base.specs.declared.faults.PlannedFault.{PlannedFault}
use Rattle.envy_base.specs.declared.faults.PlannedFault.TheVariants.{Cut as PlanCut, Bad as PlanBad}
use Rattle.envy_array.specs.Array.{Array}
use Rattle.envy_array.specs.Step.{Command, Answer, Step}
use Rattle.envy_array.specs.Step.{Load as DoLoad, Look as DoLook, Store as DoStore, Begin as DoBegin, Put as DoPut, Commit as DoCommit, Abort as DoAbort, Tick as DoTick}
use Rattle.envy_array.specs.Step.{Word as IsWord, Range as IsRange}
use Rattle.envy_meaning.specs.Stands.{Stands}
use Rattle.envy_soundness.specs.Words.{live}
use Rattle.envy_map.specs.Fields.{Chart}
use Rattle.envy_memory.specs.Calls.{fresh, planned}
use Rattle.envy_memory.specs.Picture.{counts_of}
use Rattle.envy_memory.specs.declared.faults.LoadFault.{LoadFault}
use Rattle.envy_memory.specs.declared.faults.LoadFault.TheVariants.{Off as LoadOff, Range as LoadRange}
use Rattle.envy_pair.proofs.Sides.{neither}
use Rattle.envy_mirror.specs.Catching.{CatchesUp}
use Rattle.envy_mirror.specs.Mirroring.{Mirrors, AgreesBy}
use Rattle.envy_mirror.specs.Pair.{Pair, is_good, is_good_by, side_at, IsDark, IsPair}
use Rattle.envy_mirror.specs.Reading.{Finds, AsksLowest, Reads}
use Rattle.envy_mirror.specs.Replies.{load_reply}
use Rattle.envy_mirror.specs.Reviving.{which, plan_side}
use Rattle.envy_mirror.specs.declared.catch_up.Caught.{Caught}
use Rattle.envy_mirror.specs.declared.catch_up.CatchFault.{CatchFault}
use Rattle.envy_mirror.specs.declared.standing.Standing.{Standing}
use Rattle.envy_mirror.specs.declared.standing.Standing.TheVariants.{Good, Behind, Gone as IsGone}
use Rattle.envy_mirror.specs.declared.standing.Which.{Which}
use Rattle.envy_mirror.specs.declared.standing.Which.TheVariants.{First, Second}
use Rattle.envy_serve.specs.Turns.{one_if, count_of}
use Rattle.envy_trace.specs.declared.line.Line.{Line}
use Rattle.envy_trace.specs.declared.line.Line.TheVariants.{Empty, Load, Look, Store, Begin, Put, Commit, Abort, Tick, Power, Cut, Bad, Stat}
use Rattle.envy_trace.specs.declared.mirror_line.MirrorLine.{MirrorLine}
use Rattle.envy_trace.specs.declared.mirror_line.MirrorLine.TheVariants.{Array as OfArray, Side as ChooseSide, Catch}
use Rattle.envy_trace.specs.declared.reply.Reply.{Reply}
use Rattle.envy_trace.specs.declared.reply.Reply.TheVariants.{Done, Armed, Stat as StatLine}
use Rattle.envy_trace.specs.declared.mirror_reply.MirrorReply.{MirrorReply}
use Rattle.envy_trace.specs.declared.mirror_reply.MirrorReply.TheVariants.{Array as Plain}
use Rattle.envy_pair.specs.Bills.{Charged, Sums, Bill}
use Rattle.envy_pair.specs.Hearing.{shown, Loaded, Looked, HearsLine, Hears, caught}
use Rattle.envy_serve.specs.Answering.{said}
use Rattle.envy_pair.specs.MirrorRun.{DoesLine, is_power, is_plan, is_lost, is_fault}
use Rattle.envy_pair.specs.Restarting.{no_toll}
use Rattle.envy_trace.specs.Mirror.{IsMirrorLine}
use Rattle.envy_pair.specs.Serving.{Known, side_of, state_of, Serves, Costs, LineDone, sums_of}
use Rattle.envy_pair.specs.State.{MirrorState}
use Rattle.envy_pair.proofs.Charging.{one_plan, Charged-refl, Charged-same, Charged-looked, Charged-planned}
use Rattle.envy_pair.proofs.Commanding.{sums, quiet-said, stood_as}
use Rattle.envy_pair.proofs.Following.{caught-up, plus-none}
use Rattle.envy_pair.proofs.Failing.{bill-as, HeardLine, told-none, spent-on, command-heard, is-store, is-begin, is-put, is-commit, is-abort, is-tick}

-- ---- lines that change no word

-- nothing came to either board
bill-still : (sums_are : Sums) (old new : Pair) → sums_are ≡ sums 0 0 0 0 → Charged no_toll old.first.memory new.first.memory → Charged no_toll old.second.memory new.second.memory → Bill sums_are old new
bill-still sums_are old new is first second = subst (λ (s : Sums). Bill s old new) (sym is) (record {
  first = no_toll;
  second = no_toll;
  to_first = first;
  to_second = second;
  pulls = omega arith;
  faults = omega arith;
  losts = omega arith;
  plans = refl;
  first_falls = omega arith;
  second_falls = omega arith;
  few_pulls = omega arith;
  few_faults = omega arith;
  few_losts = omega arith;
  few_first = omega arith;
  few_second = omega arith;
})

-- nothing came to the sides
still-costs : (line : MirrorLine) (replies : List MirrorReply) (k : Known) (old new : Pair) → sums_of line replies 0 0 ≡ sums 0 0 0 0 → Charged no_toll old.first.memory new.first.memory → Charged no_toll old.second.memory new.second.memory → Costs line replies k old k.first.falls k.second.falls new
still-costs line replies k old new is first second = record { first_falls = 0; second_falls = 0; bill = bill-still (sums_of line replies 0 0) old new is first second; first = plus-none k.first.falls; second = plus-none k.second.falls }

still-serves : (k : Known) (old new : Pair) → Mirrors new k.array → Charged no_toll old.first.memory new.first.memory → Charged no_toll old.second.memory new.second.memory → Serves k old → Serves k new
still-serves k old new mirrors first second s = record { mirrors = mirrors; first = spent-on k.first old.first new.first first s.first; second = spent-on k.second old.second new.second second s.second }

-- what a load found
pub record Found (k : Known) (command : Command) (old new : Pair) (w : Which) : Type 0 where
  pub state : state_of k new w ≡ state_of k old w
  pub first : Charged no_toll old.first.memory new.first.memory
  pub second : Charged no_toll old.second.memory new.second.memory

read-first : (k : Known) (p : ℕ) (result : Result ℕ LoadFault) (old new : Pair) (w : Which) → Reads p result old.first new.first → new ≡ record old { first = new.first } → Found k (DoLoad p) old new w
read-first k p result old new w reads same = record {
  state = ap (λ (x : Pair). state_of k x w) same ∙ (let with_first : Standing → MirrorState = λ g. record { array = k.array; first = stood_as k.first g; second = side_of old.second k.second; stale = old.stale; last = old.last; chosen = w } in ap with_first reads.stays);
  first = Charged-looked old.first.memory new.first.memory reads.looked;
  second = subst (λ (x : Pair). Charged no_toll old.second.memory x.second.memory) (sym same) (Charged-refl old.second.memory);
}

read-second : (k : Known) (p : ℕ) (result : Result ℕ LoadFault) (old new : Pair) (w : Which) → Reads p result old.second new.second → new ≡ record old { second = new.second } → Found k (DoLoad p) old new w
read-second k p result old new w reads same = record {
  state = ap (λ (x : Pair). state_of k x w) same ∙ (let with_second : Standing → MirrorState = λ g. record { array = k.array; first = side_of old.first k.first; second = stood_as k.second g; stale = old.stale; last = old.last; chosen = w } in ap with_second reads.stays);
  first = subst (λ (x : Pair). Charged no_toll old.first.memory x.first.memory) (sym same) (Charged-refl old.first.memory);
  second = Charged-looked old.second.memory new.second.memory reads.looked;
}

-- the side that was asked only counted the access
read-lowest : (k : Known) (p : ℕ) (result : Result ℕ LoadFault) (old new : Pair) (w : Which) → AsksLowest (is_good old.first) (is_good old.second) p result old new → Found k (DoLoad p) old new w
read-lowest k p result old new w asks = at (is_good old.first) (is_good old.second) asks
  where
    at : (b c : Bool) → AsksLowest b c p result old new → Found k (DoLoad p) old new w
    at true c (reads, same) = read-first k p result old new w reads same
    at false true (reads, same) = read-second k p result old new w reads same
    at false false same = record {
      state = ap (λ (x : Pair). state_of k x w) same;
      first = Charged-same old.first.memory new.first.memory (ap (λ (x : Pair). x.first.memory) same);
      second = Charged-same old.second.memory new.second.memory (ap (λ (x : Pair). x.second.memory) same);
    }

-- a state that shows the same standings has a Good side where the other has
lit-same : (k : Known) (old new : Pair) (w : Which) → state_of k new w ≡ state_of k old w → Mirrors old k.array → IsDark new → ⊥
lit-same k old new w same h dark =
    let first : is_good new.first ≡ is_good old.first = ap (λ (s : MirrorState). is_good_by s.first.standing) same in
    let second : is_good new.second ≡ is_good old.second = ap (λ (s : MirrorState). is_good_by s.second.standing) same in
    neither (is_good old.first) (is_good old.second) (sym first ∙ dark.0) (sym second ∙ dark.1) h.some

-- a load is never answered `Off` by a pair with a Good side
pub load-lit : (k : Known) (a p : ℕ) (old new : Pair) → Mirrors old k.array → Finds (DoLoad a) (Err LoadOff) old new → AsksLowest (is_good old.first) (is_good old.second) p (Err LoadOff) old new → ⊥
load-lit k a p old new h finds asks = lit-same k old new First (Found.state (read-lowest k p (Err LoadOff) old new First asks)) h ((Finds.off finds).0 refl)

pub look-lit : (k : Known) (a : ℕ) (p : Pair) → Mirrors p k.array → Finds (DoLook a) (Err LoadOff) p p → ⊥
look-lit k a p h finds = lit-same k p p First refl h ((Finds.off finds).0 refl)

-- the array answers a load or a look
asked-done : (line : Line) (command : Command) (answer : Answer) (k : Known) (old new : Pair) (side : ℕ) → ((s t : MirrorState) → Step s.array command answer s.array → t ≡ s → DoesLine s line (Plain (said answer) ∷ []) t) → one_if (is_power (OfArray line)) ≡ 0 → one_if (is_plan (OfArray line)) ≡ 0 → side < 2 → Serves k old → Found k command old new (which side) → Step k.array command answer k.array → Mirrors new k.array → (left : Known) × LineDone k (OfArray line) (Plain (said answer) ∷ []) left old side new side
asked-done line command answer k old new side does no_power no_plan within s f step mirrors =
    let quiet = quiet-said answer in (
      k,
      record {
        does = does (state_of k old (which side)) (state_of k new (which side)) step f.state;
        serves = still-serves k old new mirrors f.first f.second s;
        within = within;
        costs = record {
          first_falls = 0;
          second_falls = 0;
          bill = bill-as (one_if (is_power (OfArray line))) (one_if (is_plan (OfArray line))) (count_of is_lost (Plain (said answer) ∷ [])) (count_of is_fault (Plain (said answer) ∷ [])) 0 0 old new no_power no_plan (bill-quiet (count_of is_lost (Plain (said answer) ∷ [])) (count_of is_fault (Plain (said answer) ∷ [])) quiet.0 quiet.1);
          first = plus-none k.first.falls;
          second = plus-none k.second.falls;
        };
        told = told-none (Plain (said answer) ∷ []) (λ counts. counts ≡ counts_of (side_at (which side) new).memory.parts) quiet.2;
      },
    )
  where
    bill-quiet : (l g : ℕ) → l ≡ 0 → g ≡ 0 → Bill (sums l g 0 0) old new
    bill-quiet l g none no_fault = record { first = no_toll; second = no_toll; to_first = f.first; to_second = f.second; pulls = omega arith; faults = omega arith; losts = omega arith; plans = refl; first_falls = omega arith; second_falls = omega arith; few_pulls = omega arith; few_faults = omega arith; few_losts = omega arith; few_first = omega arith; few_second = omega arith }

retitle : (k : Known) (c d : Command) (old new : Pair) (w : Which) → Found k c old new w → Found k d old new w
retitle k c d old new w f = record { state = f.state; first = f.first; second = f.second }

load-heard : (a : ℕ) (reply : Reply) (k : Known) (old new : Pair) (side : ℕ) → side < 2 → Serves k old → Loaded a reply old new → HeardLine k (OfArray (Load a)) (Plain reply) old side new side
load-heard a reply k old new side within s h =
    subst (λ (r : Reply). HeardLine k (OfArray (Load a)) (Plain r) old side new side) (sym h.shows) (at h.result h.finds h.lowest)
  where
    at : (result : Result ℕ LoadFault) → Finds (DoLoad a) result old new → AsksLowest (is_good old.first) (is_good old.second) (a / 32) result old new → HeardLine k (OfArray (Load a)) (Plain (shown (load_reply result))) old side new side
    at (Ok v) finds asks =
        let (n, step, mirrors) = Finds.step finds k.array s.mirrors in
        inl (asked-done (Load a) (DoLoad a) (IsWord v) k old new side (λ x t st is. (IsWord v, st, refl, is)) refl refl within s (retitle k (DoLoad (a / 32)) (DoLoad a) old new (which side) (read-lowest k (a / 32) (Ok v) old new (which side) asks)) (step.0, step.1, refl) (subst (λ (m : Array). Mirrors new m) step.2 mirrors))
    at (Err LoadRange) finds asks =
        let (n, step, mirrors) = Finds.step finds k.array s.mirrors in
        inl (asked-done (Load a) (DoLoad a) IsRange k old new side (λ x t st is. (IsRange, st, refl, is)) refl refl within s (retitle k (DoLoad (a / 32)) (DoLoad a) old new (which side) (read-lowest k (a / 32) (Err LoadRange) old new (which side) asks)) (step.0, refl) (subst (λ (m : Array). Mirrors new m) step.1 mirrors))
    at (Err LoadOff) finds asks = absurd (load-lit k a (a / 32) old new s.mirrors finds asks)

look-heard : (a : ℕ) (reply : Reply) (k : Known) (old new : Pair) (side : ℕ) → side < 2 → Serves k old → Looked a reply old new → HeardLine k (OfArray (Look a)) (Plain reply) old side new side
look-heard a reply k old new side within s h =
    subst (λ (p : Pair). HeardLine k (OfArray (Look a)) (Plain reply) old side p side) (sym h.stays)
    (subst (λ (r : Reply). HeardLine k (OfArray (Look a)) (Plain r) old side old side) (sym h.shows) (at h.result h.finds))
  where
    stays : Found k (DoLook a) old old (which side)
    stays = record { state = refl; first = Charged-refl old.first.memory; second = Charged-refl old.second.memory }

    at : (result : Result ℕ LoadFault) → Finds (DoLook a) result old old → HeardLine k (OfArray (Look a)) (Plain (shown (load_reply result))) old side old side
    at (Ok v) finds =
        let (n, step, mirrors) = Finds.step finds k.array s.mirrors in
        inl (asked-done (Look a) (DoLook a) (IsWord v) k old old side (λ x t st is. (IsWord v, st, refl, is)) refl refl within s stays (step.0, step.1, refl) s.mirrors)
    at (Err LoadRange) finds =
        let (n, step, mirrors) = Finds.step finds k.array s.mirrors in
        inl (asked-done (Look a) (DoLook a) IsRange k old old side (λ x t st is. (IsRange, st, refl, is)) refl refl within s stays (step.0, refl) s.mirrors)
    at (Err LoadOff) finds = absurd (look-lit k a old s.mirrors finds)

-- ---- plans

planned-stands : (fault : PlannedFault) (c : Chart) (m : Array) → Stands c m → Stands (planned fault c) m
planned-stands fault c m s = let h = s.holds in record { on = s.on; holds = record { magic = h.magic; version = h.version; sound = h.sound; array = h.array; shadows = h.shadows; live = h.live; durable = h.durable; slots = h.slots; owners = h.owners } }

planned-agrees : (fault : PlannedFault) (g : Standing) (c : Chart) (stale : List Bool) (m : Array) → AgreesBy g c stale m → AgreesBy g (planned fault c) stale m
planned-agrees fault Good c stale m s = planned-stands fault c m s
planned-agrees fault Behind c stale m t = record { closed = planned-stands fault c (fresh c.shape.shadows (live c)) t.closed; fresh = λ a lt un. let f = t.fresh a lt un in record { free = f.free; same = f.same } }
planned-agrees fault IsGone c stale m s = tt

planned-mirrors : (fault : PlannedFault) (w : Which) (p : Pair) (m : Array) → Mirrors p m → Mirrors (plan_side w fault p) m
planned-mirrors fault First p m h = record { some = h.some; first = planned-agrees fault p.first.standing p.first.memory.chart p.stale m h.first; second = h.second }
planned-mirrors fault Second p m h = record { some = h.some; first = h.first; second = planned-agrees fault p.second.standing p.second.memory.chart p.stale m h.second }

planned-bill : (fault : PlannedFault) (w : Which) (p : Pair) → Bill (record { lines = 1; powers = 0; plans = 1; losts = 0; faults = 0; first_falls = 0; second_falls = 0 }) p (plan_side w fault p)
planned-bill fault First p = record { first = one_plan; second = no_toll; to_first = Charged-planned fault p.first.memory; to_second = Charged-refl p.second.memory; pulls = omega arith; faults = omega arith; losts = omega arith; plans = refl; first_falls = omega arith; second_falls = omega arith; few_pulls = omega arith; few_faults = omega arith; few_losts = omega arith; few_first = omega arith; few_second = omega arith }
planned-bill fault Second p = record { first = no_toll; second = one_plan; to_first = Charged-refl p.first.memory; to_second = Charged-planned fault p.second.memory; pulls = omega arith; faults = omega arith; losts = omega arith; plans = refl; first_falls = omega arith; second_falls = omega arith; few_pulls = omega arith; few_faults = omega arith; few_losts = omega arith; few_first = omega arith; few_second = omega arith }

planned-state : (fault : PlannedFault) (w v : Which) (k : Known) (p : Pair) → state_of k (plan_side w fault p) v ≡ state_of k p v
planned-state fault First v k p = refl
planned-state fault Second v k p = refl

planned-spent : (fault : PlannedFault) (w : Which) (k : Known) (p : Pair) → Serves k p → Serves k (plan_side w fault p)
planned-spent fault First k p s = record { mirrors = planned-mirrors fault First p k.array s.mirrors; first = s.first; second = s.second }
planned-spent fault Second k p s = record { mirrors = planned-mirrors fault Second p k.array s.mirrors; first = s.first; second = s.second }

plan-heard : (fault : PlannedFault) (line : Line) (reply : Reply) (k : Known) (old new : Pair) (side : ℕ) → ((s t : MirrorState) → t ≡ s → DoesLine s line (Plain Armed ∷ []) t) → sums_of (OfArray line) (Plain Armed ∷ []) 0 0 ≡ record { lines = 1; powers = 0; plans = 1; losts = 0; faults = 0; first_falls = 0; second_falls = 0 } → side < 2 → Serves k old → reply ≡ Armed → new ≡ plan_side (which side) fault old → HeardLine k (OfArray line) (Plain reply) old side new side
plan-heard fault line reply k old new side does is within s armed same =
    subst (λ (r : Reply). HeardLine k (OfArray line) (Plain r) old side new side) (sym armed)
    (subst (λ (p : Pair). HeardLine k (OfArray line) (Plain Armed) old side p side) (sym same) (inl (
      k,
      record {
        does = does (state_of k old (which side)) (state_of k (plan_side (which side) fault old) (which side)) (planned-state fault (which side) (which side) k old);
        serves = planned-spent fault (which side) k old s;
        within = within;
        costs = record { first_falls = 0; second_falls = 0; bill = subst (λ (x : Sums). Bill x old (plan_side (which side) fault old)) (sym is) (planned-bill fault (which side) old); first = plus-none k.first.falls; second = plus-none k.second.falls };
        told = tt;
      },
    )))

-- ---- the other lines

stat-heard : (reply : Reply) (k : Known) (old new : Pair) (side : ℕ) → side < 2 → Serves k old → reply ≡ StatLine (counts_of (side_at (which side) old).memory.parts) → new ≡ old → HeardLine k (OfArray Stat) (Plain reply) old side new side
stat-heard reply k old new side within s says same =
    subst (λ (r : Reply). HeardLine k (OfArray Stat) (Plain r) old side new side) (sym says)
    (subst (λ (p : Pair). HeardLine k (OfArray Stat) (Plain (StatLine (counts_of (side_at (which side) old).memory.parts))) old side p side) (sym same) (inl (
      k,
      record {
        does = (counts_of (side_at (which side) old).memory.parts, (refl, refl));
        serves = s;
        within = within;
        costs = still-costs (OfArray Stat) (Plain (StatLine (counts_of (side_at (which side) old).memory.parts)) ∷ []) k old old refl (Charged-refl old.first.memory) (Charged-refl old.second.memory);
        told = refl;
      },
    )))

side-heard : (x : ℕ) (reply : MirrorReply) (k : Known) (old new : Pair) (side new_side : ℕ) → x < 2 → Serves k old → reply ≡ Plain Done → new ≡ old → new_side ≡ x → HeardLine k (ChooseSide x) reply old side new new_side
side-heard x reply k old new side new_side within s says same is =
    subst (λ (r : MirrorReply). HeardLine k (ChooseSide x) r old side new new_side) (sym says)
    (subst (λ (p : Pair). HeardLine k (ChooseSide x) (Plain Done) old side p new_side) (sym same)
    (subst (λ (n : ℕ). HeardLine k (ChooseSide x) (Plain Done) old side old n) (sym is) (inl (
      k,
      record {
        does = (refl, refl);
        serves = s;
        within = within;
        costs = still-costs (ChooseSide x) (Plain Done ∷ []) k old old refl (Charged-refl old.first.memory) (Charged-refl old.second.memory);
        told = tt;
      },
    ))))

catch-heard : (result : Result Caught CatchFault) (k : Known) (old new : Pair) (side : ℕ) → side < 2 → Serves k old → CatchesUp result old new → ((m : Array) → Mirrors old m → Mirrors new m) → HeardLine k Catch (caught result) old side new side
catch-heard result k old new side within s catches mirrors =
    let c = caught-up result k old new (which side) s catches in
    inl (
      c.left,
      record {
        does = (caught result, refl, c.catches);
        serves = record { mirrors = subst (λ (m : Array). Mirrors new m) (sym c.array) (mirrors k.array s.mirrors); first = c.spent_first; second = c.spent_second };
        within = within;
        costs = record { first_falls = c.first_falls; second_falls = c.second_falls; bill = c.bill; first = c.first; second = c.second };
        told = told-none (caught result ∷ []) (λ counts. counts ≡ counts_of (side_at (which side) new).memory.parts) c.quiet;
      },
    )

line-heard : (line : Line) (reply : Reply) (k : Known) (old new : Pair) (side : ℕ) → side < 2 → IsPair new → Serves k old → HearsLine side line reply old new → HeardLine k (OfArray line) (Plain reply) old side new side
line-heard Empty reply k old new side within i s h = absurd h
line-heard (Load a) reply k old new side within i s h = load-heard a reply k old new side within s h
line-heard (Look a) reply k old new side within i s h = look-heard a reply k old new side within s h
line-heard (Store a w) reply k old new side within i s h = command-heard (Store a w) (DoStore a w) reply k old new side (is-store a w) within i s h
line-heard Begin reply k old new side within i s h = command-heard Begin DoBegin reply k old new side is-begin within i s h
line-heard (Put u a w) reply k old new side within i s h = command-heard (Put u a w) (DoPut u a w) reply k old new side (is-put u a w) within i s h
line-heard (Commit u) reply k old new side within i s h = command-heard (Commit u) (DoCommit u) reply k old new side (is-commit u) within i s h
line-heard (Abort u) reply k old new side within i s h = command-heard (Abort u) (DoAbort u) reply k old new side (is-abort u) within i s h
line-heard Tick reply k old new side within i s h = command-heard Tick DoTick reply k old new side is-tick within i s h
line-heard Power reply k old new side within i s h = absurd h
line-heard (Cut n g) reply k old new side within i s (armed, same) = plan-heard (PlanCut n g) (Cut n g) reply k old new side (λ x t is. (refl, is)) refl within s armed same
line-heard (Bad n g) reply k old new side within i s (armed, same) = plan-heard (PlanBad n g) (Bad n g) reply k old new side (λ x t is. (refl, is)) refl within s armed same
line-heard Stat reply k old new side within i s (says, same) = stat-heard reply k old new side within s says same

pub heard : (line : MirrorLine) (reply : MirrorReply) (k : Known) (old new : Pair) (side new_side : ℕ) → IsMirrorLine line → side < 2 → IsPair new → Serves k old → Hears line reply old side new new_side → HeardLine k line reply old side new new_side
heard (OfArray line) reply k old new side new_side call within i s (one, says, h, stays) =
    subst (λ (r : MirrorReply). HeardLine k (OfArray line) r old side new new_side) (sym says)
    (subst (λ (n : ℕ). HeardLine k (OfArray line) (Plain one) old side new n) (sym stays) (line-heard line one k old new side within i s h))
heard (ChooseSide x) reply k old new side new_side call within i s (says, same, is) = side-heard x reply k old new side new_side (omega arith) s says same is
heard Catch reply k old new side new_side call within i s (result, says, catches, mirrors, stays) =
    subst (λ (r : MirrorReply). HeardLine k Catch r old side new new_side) (sym says)
    (subst (λ (n : ℕ). HeardLine k Catch (caught result) old side new n) (sym stays) (catch-heard result k old new side within s catches mirrors))

-- ---- an empty line

pub empty-done : (k : Known) (p : Pair) (side : ℕ) → side < 2 → Serves k p → LineDone k (OfArray Empty) [] k p side p side
empty-done k p side within s = record {
  does = (refl, refl);
  serves = s;
  within = within;
  costs = still-costs (OfArray Empty) [] k p p refl (Charged-refl p.first.memory) (Charged-refl p.second.memory);
  told = tt;
}

-- A board that is formatted until it is.
use Rattle.std.proofs.Common.{◌≡◌, ◌⊎◌, inl, inr, ℕ, ◌+◌, ◌-◌, ◌^◌, ◌<◌, ◌≤◌, List, refl, sym, ◌∙◌, ap, subst, arith}
use Rattle.std.specs.Prelude.{IsTrue, Option, None, Some, slice_index}
use Rattle.std.specs.Option.{option_map}
use Rattle.std.proofs.lemmas.Bool.{cases_lt}
use Rattle.envy_base.specs.Counting.{up}
use Rattle.envy_base.specs.Shape.{IsShape}
use Rattle.envy_base.specs.State.{IsMade, State, lit}
use Rattle.envy_base.specs.declared.shape.Shape.{Shape}
use Rattle.envy_soundness.specs.Same.{Counted, Grows}
use Rattle.envy_map.specs.Fields.{Chart, chart}
use Rattle.envy_memory.specs.Formats.{CountsFormat, ErasesEach, Makes, Refuses}
use Rattle.envy_memory.specs.Picture.{Picture}
use Rattle.envy_memory.specs.Rises.{RoseOver}
use Rattle.envy_memory.specs.declared.faults.FormatFault.TheVariants.{Off, Bad as OfBad}
use Rattle.envy_policy.specs.declared.setup.Setup.{Setup}
use Rattle.envy_serve.specs.Ends.{most_bytes}
use Rattle.envy_run.specs.Outcome.{outcome_of}
use Rattle.envy_run.specs.Prepares.{HasSpentReserves, HasTried, IsPrepared, IsReady, IsUnspent, NoneBegun, Unprepared, ending_of_unready}
use Rattle.envy_run.specs.declared.endings.Ending.{Ending}
use Rattle.envy_run.specs.declared.endings.Ending.TheVariants.{OutOfMemory}
use Rattle.envy_run.specs.declared.endings.Finished.{Finished}
use Rattle.envy_run.specs.declared.preparation.Unready.{Unready}
use Rattle.envy_run.specs.declared.preparation.Unready.TheVariants.{Memory, Bad, Dead}

begun-same : (s t : Chart) → CountsFormat s t → t.begun ≡ s.begun
begun-same s t f = let c = CountsFormat.counted f in let low = Counted.begun c in let few = Counted.few c in omega arith

-- formatting was begun once more
tried-more : (old s t : Chart) (returned : ℕ) → s.shape ≡ old.shape → HasTried returned returned old s → CountsFormat s t → HasTried returned (1 + returned) old t
tried-more old s t returned shape tried f =
    let c = CountsFormat.counted f in
    let lives = tried.lives in
    let same_lives = Counted.lives c in
    let kept = RoseOver.kept tried.cuts in
    let more = Counted.cuts c in
    let before = tried.erases in
    let few = Grows.few (Counted.erases c) in
    let segments = ap (λ (sh : Shape). sh.segments) shape in
    record {
      lives = omega arith;
      cuts = record { kept = omega arith; rise = λ low. let rise = RoseOver.rise tried.cuts (omega arith) in omega arith };
      erases = omega arith;
    }

-- formatting plans nothing and cuts nothing by hand
pub prepared-more : (old s t : Chart) → IsPrepared old s × IsUnspent old s → CountsFormat s t → IsPrepared old t
prepared-more old s t (p, spent) f =
    let c = CountsFormat.counted f in
    let cuts = p.cuts in
    let bads = p.bads in
    let more = Counted.cuts c in
    let worse = Counted.bads c in
    let lives = p.lives in
    let same_lives = Counted.lives c in
    record {
      shape = CountsFormat.shape f ∙ p.shape;
      pulled = Counted.pulled c ∙ p.pulled;
      plans = Counted.plans c ∙ p.plans;
      last_plan = Counted.last_plan c ∙ p.last_plan;
      given = Counted.given c ∙ p.given;
      cuts = omega arith;
      bads = omega arith;
      begun = begun-same s t f ∙ p.begun;
      lives = omega arith;
      returned = spent.returned;
      tried = tried-more old s t spent.returned p.shape spent.tried f;
    }

-- it was cut: the count of failures isn't 0 any more
cut-some : (old : Chart) (s t : State) (setup : Setup) → IsTrue s.on → CountsFormat (chart s) (chart t) → Refuses s setup Off t → t.cuts ≡ 0 → ⊥
cut-some old s t setup on f (off, inl (was, same)) none = absurd (let never = was in cc)
cut-some old s t setup on f (off, inr (may, between, rose)) none = at (cases_lt s.cuts (2 ^ 64 - 1))
  where
    at : (s.cuts < 2 ^ 64 - 1) ⊎ (2 ^ 64 - 1 ≤ s.cuts) → ⊥
    at (inl low) = let more = rose low in absurd (omega arith)
    at (inr top) = let kept = Counted.cuts (CountsFormat.counted f) in absurd (omega arith)

-- a failure of power in formatting is counted
cut-counted : (s t : State) (setup : Setup) → IsTrue s.on → Refuses s setup Off t → s.cuts < 2 ^ 64 - 1 → s.cuts < t.cuts
cut-counted s t setup on (off, inl (was, same)) = absurd (let never = was in cc)
cut-counted s t setup on (off, inr (may, between, rose)) = rose

-- power failed in formatting and came back
tried-again : (old : Chart) (s t : State) (setup : Setup) (returned : ℕ) → IsTrue s.on → 0 < t.lives → s.cuts ≤ t.cuts → HasTried returned returned old (chart s) → HasTried returned (1 + returned) old (chart t) → Refuses s setup Off t → HasTried (1 + returned) (1 + returned) old (chart (lit t))
tried-again old s t setup returned on some more before tried refuses =
    let lives = tried.lives in
    let kept = RoseOver.kept before.cuts in
    record {
      lives = omega arith;
      cuts = record { kept = omega arith; rise = rise };
      erases = tried.erases;
    }
  where
    rise : t.cuts < 2 ^ 64 - 1 → old.cuts + (1 + returned) ≤ t.cuts
    rise low = at (cases_lt s.cuts (2 ^ 64 - 1))
      where
        at : (s.cuts < 2 ^ 64 - 1) ⊎ (2 ^ 64 - 1 ≤ s.cuts) → old.cuts + (1 + returned) ≤ t.cuts
        at (inl lt) = let up = cut-counted s t setup on refuses lt in let rise = RoseOver.rise before.cuts lt in omega arith
        at (inr top) = absurd (omega arith)

-- power was cut in formatting and came back
pub prepared-again : (old : Chart) (s t u : State) (setup : Setup) → IsTrue s.on → 0 < t.lives → IsPrepared old (chart s) × IsUnspent old (chart s) → CountsFormat (chart s) (chart t) → Refuses s setup Off t → u ≡ lit t → IsPrepared old (chart u) × IsUnspent old (chart u)
prepared-again old s t u setup on some (p, spent) f refuses is =
    let q = prepared-more old (chart s) (chart t) (p, spent) f in
    let again = tried-again old s t setup spent.returned on some (Counted.cuts (CountsFormat.counted f)) spent.tried (tried-more old (chart s) (chart t) spent.returned p.shape spent.tried f) refuses in
    let lives = again.lives in
    let erases = again.erases in
    subst (λ (x : State). IsPrepared old (chart x) × IsUnspent old (chart x)) (sym is) (
      record {
        shape = q.shape;
        pulled = q.pulled;
        plans = q.plans;
        last_plan = q.last_plan;
        given = q.given;
        cuts = q.cuts;
        bads = q.bads;
        begun = q.begun;
        lives = let low = q.lives in omega arith;
        returned = 1 + spent.returned;
        tried = record { lives = again.lives; cuts = again.cuts; erases = omega arith };
      },
      record {
        begun = begun-same (chart s) (chart t) f ∙ spent.begun;
        long = Grows.long (Counted.erases (CountsFormat.counted f)) ∙ spent.long;
        erases = λ none. absurd (cut-some old s t setup on f refuses none);
        bads = λ none. absurd (cut-some old s t setup on f refuses none);
        returned = 1 + spent.returned;
        tried = again;
      },
    )

-- more erases were bad than there are positions in reserve
pub prepared-bad : (old : Chart) (s t : State) (setup : Setup) → IsPrepared old (chart s) × IsUnspent old (chart s) → CountsFormat (chart s) (chart t) → Refuses s setup OfBad t → Unprepared Bad old (chart t)
prepared-bad old s t setup (p, spent) f (may, on, unmarked, rose) = (prepared-more old (chart s) (chart t) (p, spent) f, spends)
  where
    spends : HasSpentReserves old (chart t)
    spends low = at (cases_lt (s.bads + s.shape.reserves) (2 ^ 64 - 1))
      where
        same : s.shape.reserves ≡ old.shape.reserves
        same = ap (λ (sh : Shape). sh.reserves) p.shape

        from : old.bads ≤ s.bads
        from = p.bads

        more : s.bads ≤ t.bads
        more = Counted.bads (CountsFormat.counted f)

        at : (s.bads + s.shape.reserves < 2 ^ 64 - 1) ⊎ (2 ^ 64 - 1 ≤ s.bads + s.shape.reserves) → old.bads + old.shape.reserves < t.bads
        at (inl lt) = let past = rose lt in omega (arith, same, from, past)
        at (inr top) = omega (arith, same, from, more, low, top)

-- a memory was made
pub prepared-ready : (old : Chart) (s : State) (setup : Setup) (m : Picture) → IsPrepared old (chart s) × IsUnspent old (chart s) → CountsFormat (chart s) m.chart → Makes s setup m → IsReady old setup m
prepared-ready old s setup m (p, spent) f makes = record {
  fresh = makes.fresh;
  prepared = prepared-more old (chart s) m.chart (p, spent) f;
  begins = makes.begins;
  begun = begun-same (chart s) m.chart f ∙ spent.begun;
  once = λ none. once none;
  long = Grows.long (Counted.erases (CountsFormat.counted f)) ∙ spent.long;
}
  where
    once : m.chart.cuts ≡ 0 → ErasesEach old m.chart
    once none =
        let more = Counted.cuts (CountsFormat.counted f) in
        let same : (chart s).erases ≡ old.erases = spent.erases (omega arith) in
        λ k lt. makes.once k (let e = ap (λ (sh : Shape). sh.segments) p.shape in omega arith) ∙ ap (λ (es : List ℕ). up (slice_index es k)) same

tried-first : (old : Chart) → HasTried 0 0 old old
tried-first old = record { lives = omega arith; cuts = record { kept = omega arith; rise = λ low. omega arith }; erases = omega arith }

pub unspent-first : (old : Chart) → IsUnspent old old
unspent-first old = record { begun = refl; long = refl; erases = λ none. refl; bads = λ none. refl; returned = 0; tried = tried-first old }

pub prepared-first : (old : Chart) → IsPrepared old old
prepared-first old = record {
  shape = refl;
  pulled = refl;
  plans = refl;
  last_plan = refl;
  given = refl;
  cuts = omega arith;
  bads = omega arith;
  begun = refl;
  lives = omega arith;
  returned = 0;
  tried = let t = tried-first old in let erases = t.erases in record { lives = t.lives; cuts = t.cuts; erases = omega arith };
}

-- a board of which there is no chart isn't there
pub no-second : {X Y : Type 0} (f : X → Y) (second : Option X) → option_map f second ≡ None → second ≡ None
no-second f None none = refl
no-second f (Some board) none = absurd (let never = none in cc)

-- ---- no memory begins

-- no board was made
pub none-made : {B : Type 0} (state : B → State) (setup : Setup) (returns : ℕ) (e : Finished B) → e ≡ record { ending = OutOfMemory; lines = 0; taken = 0; board = None; second = None } → NoneBegun setup returns (outcome_of state e)
none-made {B} state setup returns e is = subst (λ (x : Finished B). NoneBegun setup returns (outcome_of state x)) (sym is) (record {
  lines = refl;
  taken = refl;
  second = refl;
  cause = inl (record { ending = record { status = refl; why = refl }; board = tt });
  board = tt;
})

-- the board that was made isn't formatted
pub none-begun : {B : Type 0} (state : B → State) (setup : Setup) (returns : ℕ) (unready : Unready) (made : State) (board : B) (e : Finished B) → IsShape setup.shape → IsMade setup.shape returns made → Unprepared unready (chart made) (chart (state board)) → e ≡ record { ending = ending_of_unready unready; lines = 0; taken = 0; board = Some board; second = None } → NoneBegun setup returns (outcome_of state e)
none-begun {B} state setup returns Memory made board e sizes new (prepared, unspent, on) is = subst (λ (x : Finished B). NoneBegun setup returns (outcome_of state x)) (sym is) (record {
  lines = refl;
  taken = refl;
  second = refl;
  cause = inl (record { ending = record { status = refl; why = refl }; board = record { on = on; bads = λ none. IsUnspent.bads unspent none ∙ new.bads } });
  board = record { made = made; new = new; prepared = prepared };
})
none-begun {B} state setup returns Bad made board e sizes new (prepared, rose) is = subst (λ (x : Finished B). NoneBegun setup returns (outcome_of state x)) (sym is) (record {
  lines = refl;
  taken = refl;
  second = refl;
  cause = inr (inl (record { ending = record { status = refl; why = refl }; cause = (chart (state board), refl, let none = new.bads in let few = sizes.reserves in let most = sizes.few_segments in let same = ap (λ (sh : Shape). sh.reserves) new.shape in let more = rose (omega (arith, none, few, most, same)) in omega (arith, more)) }));
  board = record { made = made; new = new; prepared = prepared };
})
none-begun {B} state setup returns Dead made board e sizes new (prepared, off, lives) is = subst (λ (x : Finished B). NoneBegun setup returns (outcome_of state x)) (sym is) (record {
  lines = refl;
  taken = refl;
  second = refl;
  cause = inr (inr (record { ending = record { status = refl; why = refl }; now = chart (state board); board_is = refl; off = off; lives = lives }));
  board = record { made = made; new = new; prepared = prepared };
})

-- no line was read
pub few-none : {B : Type 0} (ending : Ending) (board second : Option B) (e : Finished B) → e ≡ record { ending = ending; lines = 0; taken = 0; board = board; second = second } → e.lines ≤ e.taken
few-none {B} ending board second e is = subst (λ (x : Finished B). x.lines ≤ x.taken) (sym is) (omega arith)

pub read-none : {B : Type 0} (ending : Ending) (board second : Option B) (e : Finished B) → e ≡ record { ending = ending; lines = 0; taken = 0; board = board; second = second } → e.taken ≤ most_bytes
read-none {B} ending board second e is = subst (λ (x : Finished B). x.taken ≤ most_bytes) (sym is) (omega arith)

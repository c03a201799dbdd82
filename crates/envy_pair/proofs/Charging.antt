-- What the counts of one board show of one call.
use Rattle.std.proofs.Common.{◌≡◌, ℕ, ◌+◌, ◌-◌, ◌^◌, ◌<◌, ◌≤◌, refl, sym, ◌∙◌, ap, subst, arith}
use Rattle.envy_base.specs.declared.faults.PlannedFault.{PlannedFault}
use Rattle.envy_base.specs.Counting.{up}
use Rattle.envy_base.proofs.Counting.{up-least, up-below}
use Rattle.envy_array.specs.declared.counts.Counts.{Counts}
use Rattle.envy_engine.proofs.CountLemmas.{Tally3-trans}
use Rattle.envy_engine.specs.Counts.{Tallies, Tally3}
use Rattle.envy_soundness.specs.Same.{Counted, Kept}
use Rattle.envy_map.specs.Fields.{Chart}
use Rattle.envy_memory.proofs.Counted.{RoseBy-trans, RoseOver-trans, up-low}
use Rattle.envy_memory.specs.Calls.{planned, HasFailed}
use Rattle.envy_memory.specs.Picture.{Picture}
use Rattle.envy_memory.specs.Rises.{RoseBy, RoseOver}
use Rattle.envy_mirror.specs.Asking.{Reckons, cut_by_hand}
use Rattle.envy_mirror.specs.Catching.{Wakes}
use Rattle.envy_mirror.specs.Reading.{IsLooked}
use Rattle.envy_pair.specs.Bills.{Toll, Charged}
use Rattle.envy_pair.specs.Restarting.{no_toll}

RoseBy-same : (a b : ℕ) → b ≡ a → RoseBy 0 a b
RoseBy-same a b e = λ lt. omega arith

RoseOver-none : (a b : ℕ) → a ≤ b → RoseOver 0 a b
RoseOver-none a b le = record { kept = le; rise = λ lt. omega arith }

RoseOver-one : (a b : ℕ) → a ≤ b → (a < 2 ^ 64 - 1 → a < b) → RoseOver 1 a b
RoseOver-one a b le rose = record { kept = le; rise = λ lt. let more = rose (omega arith) in omega arith }

RoseOver-up : (n : ℕ) → RoseOver 1 n (up n)
RoseOver-up n = record { kept = up-least n; rise = λ lt. let e = up-below n lt in omega arith }

Tally3-same : (a b c e a2 b2 c2 e2 : ℕ) → a2 ≡ a → b2 ≡ b → c2 ≡ c → e2 ≡ e → Tally3 a b c e a2 b2 c2 e2
Tally3-same a b c e a2 b2 c2 e2 ea eb ec ee = record { first = omega arith; second = omega arith; third = omega arith; fourth = omega arith; same = λ i j k l. omega arith }

abbrev pub add_tolls : Toll → Toll → Toll
add_tolls s t = record { pulls = s.pulls + t.pulls; plans = s.plans + t.plans; fails = s.fails + t.fails; bads = s.bads + t.bads }

pub Charged-trans : (s t : Toll) (a b c : Picture) → Charged s a b → Charged t b c → Charged (add_tolls s t) a c
Charged-trans s t a b c x y = record {
  shape = y.shape ∙ x.shape;
  given = y.given ∙ x.given;
  lives = let p = x.lives in let q = y.lives in omega arith;
  pulled = RoseBy-trans s.pulls t.pulls _ _ _ x.pulled y.pulled;
  plans = RoseBy-trans s.plans t.plans _ _ _ x.plans y.plans;
  cuts = let both = RoseOver-trans (s.pulls + s.fails) (t.pulls + t.fails) _ _ _ x.cuts y.cuts in record { kept = both.kept; rise = λ lt. let le = both.rise lt in omega arith };
  bads = RoseOver-trans s.bads t.bads _ _ _ x.bads y.bads;
  programs = Tally3-trans _ _ _ _ _ _ _ _ _ _ _ _ x.programs y.programs;
}

-- nothing that a toll is paid for came
pub Charged-still : (a b : Picture) → b.chart ≡ a.chart → b.parts.flushes ≡ a.parts.flushes → b.parts.reloc ≡ a.parts.reloc → Charged no_toll a b
Charged-still a b chart flushes reloc = record {
  shape = ap (λ (c : Chart). c.shape) chart;
  given = ap (λ (c : Chart). c.given) chart;
  lives = let e = ap (λ (c : Chart). c.lives) chart in omega arith;
  pulled = RoseBy-same _ _ (ap (λ (c : Chart). c.pulled) chart);
  plans = RoseBy-same _ _ (ap (λ (c : Chart). c.plans) chart);
  cuts = RoseOver-none _ _ (let e = ap (λ (c : Chart). c.cuts) chart in omega arith);
  bads = RoseOver-none _ _ (let e = ap (λ (c : Chart). c.bads) chart in omega arith);
  programs = Tally3-same _ _ _ _ _ _ _ _ flushes (ap (λ (r : _). r.copied) reloc) (ap (λ (r : _). r.moved) reloc) (ap (λ (c : Chart). c.begun) chart);
}

pub Charged-refl : (a : Picture) → Charged no_toll a a
Charged-refl a = Charged-still a a refl refl refl

pub Charged-same : (a b : Picture) → b ≡ a → Charged no_toll a b
Charged-same a b e = subst (λ (x : Picture). Charged no_toll a x) (sym e) (Charged-refl a)

-- an access alone
pub Charged-looked : (a b : Picture) → IsLooked a b → Charged no_toll a b
Charged-looked a b e = Charged-still a b (ap (λ (x : Picture). x.chart) e) (ap (λ (x : Picture). x.parts.flushes) e) (ap (λ (x : Picture). x.parts.reloc) e)

abbrev pub one_fail : Toll
one_fail = record { pulls = 0; plans = 0; fails = 1; bads = 0 }

abbrev pub one_bad : Toll
one_bad = record { pulls = 0; plans = 0; fails = 0; bads = 1 }

abbrev pub one_pull : Toll
one_pull = record { pulls = 1; plans = 0; fails = 0; bads = 0 }

abbrev pub one_plan : Toll
one_plan = record { pulls = 0; plans = 1; fails = 0; bads = 0 }

-- a call, with what is known of its failures
Charged-reckons-by : (fails bads : ℕ) (a b : Picture) → Reckons a b → RoseOver fails a.chart.cuts b.chart.cuts → RoseOver bads a.chart.bads b.chart.bads → Charged (record { pulls = 0; plans = 0; fails = fails; bads = bads }) a b
Charged-reckons-by fails bads a b r cuts worse = record {
  shape = r.shape;
  given = r.given;
  lives = let e = r.lives in omega arith;
  pulled = RoseBy-same _ _ r.pulled;
  plans = RoseBy-same _ _ r.plans;
  cuts = record { kept = cuts.kept; rise = λ lt. let le = cuts.rise lt in omega arith };
  bads = worse;
  programs = Tallies.programs r.tallies;
}

pub Charged-reckons : (a b : Picture) → Reckons a b → Charged no_toll a b
Charged-reckons a b r = Charged-reckons-by 0 0 a b r (RoseOver-none _ _ r.cuts) (RoseOver-none _ _ r.bads)

pub Charged-failed : (a b : Picture) → Reckons a b → (a.chart.cuts < 2 ^ 64 - 1 → a.chart.cuts < b.chart.cuts) → Charged one_fail a b
Charged-failed a b r rose = Charged-reckons-by 1 0 a b r (RoseOver-one _ _ r.cuts rose) (RoseOver-none _ _ r.bads)

pub Charged-bad : (a b : Picture) → Reckons a b → HasFailed a.chart b.chart → Charged one_bad a b
Charged-bad a b r rose = Charged-reckons-by 0 1 a b r (RoseOver-none _ _ r.cuts) (RoseOver-one _ _ r.bads rose)

-- power was asked for
Charged-woken-by : (fails : ℕ) (a b : Picture) → Wakes a b → RoseOver fails a.chart.cuts b.chart.cuts → Charged (record { pulls = 0; plans = 0; fails = fails; bads = 0 }) a b
Charged-woken-by fails a b w cuts =
    let c = Kept.counted w.kept in
    let low = Counted.begun c in
    let few = Counted.few c in
    record {
      shape = Kept.shape w.kept;
      given = Counted.given c;
      lives = let e = Counted.lives c in omega arith;
      pulled = RoseBy-same _ _ (Counted.pulled c);
      plans = RoseBy-same _ _ (Counted.plans c);
      cuts = record { kept = cuts.kept; rise = λ lt. let le = cuts.rise lt in omega arith };
      bads = RoseOver-none _ _ (Counted.bads c);
      programs = Tally3-same _ _ _ _ _ _ _ _ (ap (λ (n : Counts). n.flushes) w.counts) (ap (λ (n : Counts). n.copies) w.counts) (ap (λ (n : Counts). n.moves) w.counts) (omega arith);
    }

pub Charged-woken : (a b : Picture) → Wakes a b → Charged no_toll a b
Charged-woken a b w = Charged-woken-by 0 a b w (RoseOver-none _ _ (Counted.cuts (Kept.counted w.kept)))

pub Charged-slipped : (a b : Picture) → Wakes a b → (a.chart.cuts < 2 ^ 64 - 1 → a.chart.cuts < b.chart.cuts) → Charged one_fail a b
Charged-slipped a b w rose = Charged-woken-by 1 a b w (RoseOver-one _ _ (Counted.cuts (Kept.counted w.kept)) rose)

-- power was cut by hand
pub Charged-pulled : (a : Picture) → Charged one_pull a (cut_by_hand a)
Charged-pulled a = record {
  shape = refl;
  given = refl;
  lives = omega arith;
  pulled = λ lt. up-low a.chart.pulled lt;
  plans = RoseBy-same _ _ refl;
  cuts = RoseOver-up a.chart.cuts;
  bads = RoseOver-none _ _ (omega arith);
  programs = Tally3-same _ _ _ _ _ _ _ _ refl refl refl refl;
}

-- a failure was planned
pub Charged-planned : (fault : PlannedFault) (a : Picture) → Charged one_plan a (record a { chart = planned fault a.chart })
Charged-planned fault a = record {
  shape = refl;
  given = refl;
  lives = omega arith;
  pulled = RoseBy-same _ _ refl;
  plans = λ lt. up-low a.chart.plans lt;
  cuts = RoseOver-none _ _ (omega arith);
  bads = RoseOver-none _ _ (omega arith);
  programs = Tally3-same _ _ _ _ _ _ _ _ refl refl refl refl;
}

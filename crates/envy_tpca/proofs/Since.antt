-- What happened since: one thing after another.
use Rattle.std.proofs.Common.{◌≡◌, ◌⊎◌, inl, inr, ℕ, ◌+◌, ◌-◌, ◌^◌, ◌<◌, ◌≤◌, refl, sym, ◌∙◌, subst, arith}
use Rattle.std.proofs.lemmas.Bool.{cases_lt}
use Rattle.envy_base.specs.Counting.{up}
use Rattle.envy_base.specs.declared.faults.PlannedFault.{PlannedFault}
use Rattle.envy_engine.proofs.CountLemmas.{Tallies-trans}
use Rattle.envy_engine.specs.Counts.{Tallies}
use Rattle.envy_soundness.specs.Same.{Counted, Grows, Kept}
use Rattle.envy_memory.proofs.Counted.{Tallies-stay, begun-stay}
use Rattle.envy_memory.specs.Calls.{Works, lit, planned}
use Rattle.envy_memory.specs.Effects.{TicksOnce}
use Rattle.envy_memory.specs.Picture.{Picture, counts_of}
use Rattle.envy_table.specs.Entries.{Translations}
use Rattle.envy_tpca.specs.Since.{IsPast, Keeps, Rises, Since}

Rises-more : (n k a b c : ℕ) → Rises n a b → Rises k b c → Rises (n + k) a c
Rises-more n k a b c x y =
    let p = x.least in let q = y.least in let r = x.most in let s = y.most in
    record { least = omega arith; most = omega arith; exact = λ lt. let e = x.exact (omega arith) in let f = y.exact (omega arith) in omega arith }

Rises-same : (a b : ℕ) → b ≡ a → Rises 0 a b
Rises-same a b e = record { least = omega arith; most = omega arith; exact = λ lt. omega arith }

pub Keeps-trans : (a b c : Picture) → Keeps a b → Keeps b c → Keeps a c
Keeps-trans a b c x y =
    let p = x.lives in let q = y.lives in let r = x.cuts in let s = y.cuts in let t = x.bads in let u = y.bads in
    record {
      shape = y.shape ∙ x.shape;
      given = y.given ∙ x.given;
      pulled = y.pulled ∙ x.pulled;
      lives = omega arith;
      cuts = omega arith;
      bads = omega arith;
      tallies = Tallies-trans _ _ _ _ _ _ x.tallies y.tallies;
    }

pub Since-trans : (n k : ℕ) (a b c : Picture) → Since n a b → Since k b c → Since (n + k) a c
Since-trans n k a b c x y = record { keeps = Keeps-trans a b c x.keeps y.keeps; plans = Rises-more n k _ _ _ x.plans y.plans; unplanned = λ none. y.unplanned (omega arith) ∙ x.unplanned (omega arith) }

pub Since-more : (n : ℕ) (a b c : Picture) → Since n a b → Since 0 b c → Since n a c
Since-more n a b c x y = let z = Since-trans n 0 a b c x y in subst (λ (k : ℕ). Since k a c) (omega arith) z

pub Since-refl : (a : Picture) → Since 0 a a
Since-refl a = record {
  keeps = record { shape = refl; given = refl; pulled = refl; lives = omega arith; cuts = omega arith; bads = omega arith; tallies = Tallies-stay a a refl refl refl };
  plans = Rises-same _ _ refl;
  unplanned = λ none. refl;
}

-- a call
since-counted : (k j : ℕ) (old new : Picture) → new.chart.shape ≡ old.chart.shape → Counted k j old.chart new.chart → Tallies old.chart old.parts new.chart new.parts → Since 0 old new
since-counted k j old new shape counted tallies = record {
  keeps = record { shape = shape; given = counted.given; pulled = counted.pulled; lives = let e = counted.lives in omega arith; cuts = counted.cuts; bads = counted.bads; tallies = tallies };
  plans = Rises-same _ _ counted.plans;
  unplanned = λ none. counted.last_plan;
}

-- work counts and keeps what a run keeps
pub since-works : (k j : ℕ) (old new : Picture) → Works k j old.chart new.chart → Tallies old.chart old.parts new.chart new.parts → Since 0 old new
since-works k j old new works tallies = since-counted k j old new works.shape works.counted tallies

-- a call that begins nothing, and whose counters stay
pub since-quiet : (old new : Picture) → Works 0 0 old.chart new.chart → counts_of new.parts ≡ counts_of old.parts → Since 0 old new
since-quiet old new works counts = let b = begun-stay old new works.counted in since-works 0 0 old new works (Tallies-stay old new counts b.0 b.1)

-- and so do background steps
pub since-ticks : (old new : Picture) → TicksOnce old.chart new.chart → Tallies old.chart old.parts new.chart new.parts → Since 0 old new
since-ticks old new (inl works) tallies = since-works 1 0 old new works tallies
since-ticks old new (inr works) tallies = since-works 0 1 old new works tallies

-- a load: the cache alone changed
pub since-load : (old new : Picture) (cache : Translations) → new ≡ record old { parts = record old.parts { cache = cache } } → Since 0 old new
since-load old new cache same = subst (Since 0 old) (sym same) (record {
  keeps = record {
    shape = refl;
    given = refl;
    pulled = refl;
    lives = omega arith;
    cuts = omega arith;
    bads = omega arith;
    tallies = record {
      programs = record { first = omega arith; second = omega arith; third = omega arith; fourth = omega arith; same = λ i j k l. omega arith };
      erases = record { first = omega arith; second = omega arith; same = λ l m. omega arith };
    };
  };
  plans = Rises-same _ _ refl;
  unplanned = λ none. refl;
})

-- a plan
planned-rises : (n : ℕ) → Rises 1 n (up n)
unfolding up
planned-rises n = record { least = omega arith; most = omega arith; exact = λ lt. omega arith }

-- and a plan, which is one more
pub since-planned : (fault : PlannedFault) (old new : Picture) → new ≡ record old { chart = planned fault old.chart } → Since 1 old new
since-planned fault old new same = subst (Since 1 old) (sym same) (record {
  keeps = record {
    shape = refl;
    given = refl;
    pulled = refl;
    lives = omega arith;
    cuts = omega arith;
    bads = omega arith;
    tallies = record {
      programs = record { first = omega arith; second = omega arith; third = omega arith; fourth = omega arith; same = λ i j k l. omega arith };
      erases = record { first = omega arith; second = omega arith; same = λ l m. omega arith };
    };
  };
  plans = planned-rises old.chart.plans;
  unplanned = λ none. absurd (omega (arith, none));
})

-- power was asked for
pub since-lit : (old new : Picture) → Kept (lit old.chart) new.chart → counts_of new.parts ≡ counts_of old.parts → Since 0 old new
since-lit old new kept counts =
    let c = kept.counted in
    let lives = c.lives in
    let low = c.begun in let few = c.few in let least = Grows.least c.erases in let most = Grows.few c.erases in
    record {
      keeps = record { shape = kept.shape; given = c.given; pulled = c.pulled; lives = omega arith; cuts = c.cuts; bads = c.bads; tallies = Tallies-stay old new counts (omega arith) (omega arith) };
      plans = Rises-same _ _ c.plans;
      unplanned = λ none. c.last_plan;
    }

-- a count that rises after another that doesn't fall
pub past-later : (a b c : ℕ) → a ≤ b → IsPast b c → b ≤ c → IsPast a c
past-later a b c le past kept = λ lt. at (cases_lt b (2 ^ 64 - 1)) lt
  where
    at : (b < 2 ^ 64 - 1) ⊎ (2 ^ 64 - 1 ≤ b) → a < 2 ^ 64 - 1 → a < c
    at (inl low) lt = let e = past low in omega arith
    at (inr top) lt = omega arith

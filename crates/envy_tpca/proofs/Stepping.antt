-- One transfer more of a load that is driven.
use Rattle.std.proofs.Common.{◌≡◌, ◌⊎◌, inl, inr, ℕ, zero, suc, ◌<◌, ◌≤◌, ◌+◌, ◌*◌, List, [], ◌∷◌, Some, Result, Ok, Err, refl, sym, ◌∙◌, ap, subst, arith}
use Rattle.std.specs.Prelude.{◌++◌, ◌%◌, ◌/◌, ◌^◌, ℤ, if◌then◌else◌, replicate, IsErr, IsErrAnd}
use Rattle.envy_array.specs.Area.{Fits}
use Rattle.envy_array.specs.Array.{put_back}
use Rattle.envy_array.specs.declared.area.Area.{Area}
use Rattle.envy_base.specs.declared.shape.Shape.{Shape}
use Rattle.envy_meaning.specs.Stands.{Stands}
use Rattle.envy_soundness.specs.Words.{durable}
use Rattle.envy_memory.specs.Calls.{fresh}
use Rattle.envy_memory.specs.Picture.{Picture}
use Rattle.envy_tpca.specs.declared.fault.DriveFault.{DriveFault}
use Rattle.envy_tpca.specs.declared.places.Places.{Places}
use Rattle.envy_tpca.specs.declared.places.Spots.{Spots}
use Rattle.envy_tpca.specs.declared.transfer.Transfer.{Transfer}
use Rattle.envy_tpca.specs.Driving.{IsLoadOf, is_planned, plans_in, cut_before, last_cut}
use Rattle.envy_tpca.specs.Load.{Draws, next_transfer, after, first}
use Rattle.envy_tpca.specs.Running.{MayDrive, IsAt, IsWithin, AfterAll}
use Rattle.envy_tpca.specs.Since.{Since}
use Rattle.envy_tpca.specs.Tpc.{TpcAt, Tpc, places_of}
use Rattle.envy_tpca.specs.Trial.{AreSmall, AreSpots, InRange, IsTried, writes}
use Rattle.envy_tpca.specs.Trying.{Rests, IsEnd, AfterTransfer}
use Rattle.envy_tpca.proofs.Between.{cause-later, counted-tried}
use Rattle.envy_tpca.proofs.Calling.{durable-rests}
use Rattle.envy_tpca.proofs.Drawing.{length-first, first-more, first-none}
use Rattle.envy_tpca.proofs.Looking.{zeros-law}
use Rattle.envy_tpca.proofs.Planning.{plans-more, plans-none, last-after, last-none}
use Rattle.envy_tpca.proofs.Since.{Since-trans, Since-more}
use Rattle.envy_tpca.proofs.Totals.{IsDrawn, is-drawn, first-small}

pos-mul : (b a : ℕ) → 1 ≤ b → 1 ≤ a → 1 ≤ b * a
pos-mul zero a le la = absurd (omega arith)
pos-mul (suc b) a le la = omega arith

-- the sizes of the area are those of the load
pub sizes-drawn : (area : Area) (load : Draws) (pages i : ℕ) → Fits area pages → IsLoadOf area load → IsDrawn area.branches area.accounts (next_transfer (after i load)).0
sizes-drawn area load pages i fits sizes =
    let eb = sizes.branches in let ea = sizes.accounts in
    let some = fits.branches in let all = fits.accounts in
    subst (λ (b : ℕ). IsDrawn b area.accounts (next_transfer (after i load)).0) eb
    (subst (λ (a : ℕ). IsDrawn load.branches a (next_transfer (after i load)).0) ea
    (is-drawn i load (omega arith) (pos-mul load.branches load.accounts (omega arith) (omega arith))))

-- the transfers of a load have small deltas
pub load-small : (area : Area) (load : Draws) (pages n : ℕ) → Fits area pages → IsLoadOf area load → AreSmall (first n load)
load-small area load pages n fits sizes =
    let eb = sizes.branches in let ea = sizes.accounts in
    let some = fits.branches in let all = fits.accounts in
    first-small n load (omega arith) (pos-mul load.branches load.accounts (omega arith) (omega arith))

history-whole : (x : ℕ) → (x / 4 * 4) % 4 ≡ 0
history-whole x = omega arith

-- and lie within the array
pub range-of : (area : Area) (load : Draws) (pages i : ℕ) → Fits area pages → IsLoadOf area load → i < area.transfers → area.transfers < 2 ^ 32 → InRange (places_of area) (32 * pages) i (next_transfer (after i load)).0
range-of area load pages i fits sizes lt few =
    let drawn = sizes-drawn area load pages i fits sizes in
    let room = fits.room in
    record {
      branch = drawn.branch;
      teller = drawn.teller;
      account = drawn.account;
      delta = drawn.delta;
      history = omega arith;
      whole = history-whole (1 + 11 * area.branches + area.branches * area.accounts + 3);
      room = omega arith;
      few = omega arith;
    }

-- also in a larger one
pub range-wide : (l : Places) (size more i : ℕ) (t : Transfer) → size ≤ more → InRange l size i t → InRange l more i t
range-wide l size more i t le r = record {
  branch = r.branch;
  teller = r.teller;
  account = r.account;
  delta = r.delta;
  history = r.history;
  whole = r.whole;
  few = r.few;
  room = let room = r.room in omega arith;
}

-- each transfer of a run lies within it
pub step-range : (area : Area) (l : Places) (load : Draws) (p : Picture) (i : ℕ) (t : Transfer) → MayDrive area l load p → i < area.transfers → area.transfers < 2 ^ 32 → t ≡ (next_transfer (after i load)).0 → InRange l (32 * p.chart.shape.pages) i t
step-range area l load p i t may lt few is =
    subst (λ (u : Transfer). InRange l (32 * p.chart.shape.pages) i u) (sym is) (subst (λ (k : Places). InRange k (32 * p.chart.shape.pages) i (next_transfer (after i load)).0) (sym may.places) (range-of area load p.chart.shape.pages i may.fits may.sizes lt few))

-- and may be tried
pub step-tried : (area : Area) (l : Places) (load : Draws) (every i : ℕ) (old mid p : Picture) (t : Transfer) (spots : Spots) → MayDrive area l load old → IsAt area load every i old mid → durable p.chart ≡ durable mid.chart → p.chart.shape ≡ mid.chart.shape
    → i < area.transfers → area.transfers < 2 ^ 32 → t ≡ (next_transfer (after i load)).0 → AreSpots l i t spots → IsTried p.chart.shape.shadows l (32 * old.chart.shape.pages) (first i load) (durable p.chart) i t spots
step-tried area l load every i old mid p t spots may reached same shape lt few is are =
    let room = may.room in
    let shadows = ap (λ (sh : Shape). sh.shadows) (shape ∙ reached.since.keeps.shape) in
    record {
      tpc = subst (λ (ws : List ℕ). TpcAt l (32 * old.chart.shape.pages) (first i load) ws) (sym same) (subst (λ (k : Places). TpcAt k (32 * old.chart.shape.pages) (first i load) (durable mid.chart)) (sym may.places) reached.words);
      small = load-small area load old.chart.shape.pages i may.fits may.sizes;
      count = length-first i load;
      range = step-range area l load old i t may lt few is;
      spots = are;
      room = omega arith;
    }

-- the words after one transfer more
step-words : (area : Area) (l : Places) (load : Draws) (pages i shadows : ℕ) (before words : List ℕ) (t : Transfer) (spots : Spots) → l ≡ places_of area → IsTried shadows l (32 * pages) (first i load) before i t spots → t ≡ (next_transfer (after i load)).0
    → words ≡ put_back (writes l (first i load) t) before → Tpc area pages load (i + 1) words
step-words area l load pages i shadows before words t spots places tried is same =
    let now = counted-tried shadows l (32 * pages) (first i load) before i t spots tried in
    let more : first i load ++ (t ∷ []) ≡ first (i + 1) load = ap (λ (u : Transfer). first i load ++ (u ∷ [])) is ∙ sym (first-more i load) in
    subst (λ (ws : List ℕ). Tpc area pages load (i + 1) ws) (sym same)
    (subst (λ (ts : List Transfer). TpcAt (places_of area) (32 * pages) ts (put_back (writes l (first i load) t) before)) more
    (subst (λ (k : Places). TpcAt k (32 * pages) (first i load ++ (t ∷ [])) (put_back (writes l (first i load) t) before)) places now))

step-since : (every i : ℕ) (old mid p q : Picture) → Since (plans_in every i) old mid → Since (if is_planned every i then 1 else 0) mid p → Since 0 p q → Since (plans_in every (i + 1)) old q
step-since every i old mid p q before plan did =
    subst (λ (n : ℕ). Since n old q) (sym (plans-more every i)) (Since-more (plans_in every i + (if is_planned every i then 1 else 0)) old p q (Since-trans (plans_in every i) (if is_planned every i then 1 else 0) old mid p before plan) did)

step-last : (every i : ℕ) (old mid p q : Picture) → mid.chart.last_plan ≡ last_cut every i old.chart.last_plan → p.chart.last_plan ≡ (if is_planned every i then Some (cut_before i) else mid.chart.last_plan) → Since 0 p q → q.chart.last_plan ≡ last_cut every (i + 1) old.chart.last_plan
step-last every i old mid p q before plan did = did.unplanned refl ∙ last-after every i old.chart.last_plan mid.chart.last_plan p.chart.last_plan before plan

-- behind it one more is done
pub step-done : (area : Area) (l : Places) (load : Draws) (every i : ℕ) (old mid p q : Picture) (t : Transfer) (spots : Spots) (u : Unit) → MayDrive area l load old → IsAt area load every i old mid → Since (if is_planned every i then 1 else 0) mid p → p.chart.last_plan ≡ (if is_planned every i then Some (cut_before i) else mid.chart.last_plan)
    → IsTried p.chart.shape.shadows l (32 * old.chart.shape.pages) (first i load) (durable p.chart) i t spots → t ≡ (next_transfer (after i load)).0
    → AfterTransfer 0 p (durable p.chart) (put_back (writes l (first i load) t) (durable p.chart)) (Ok u) q → IsAt area load every (i + 1) old q × Rests (durable q.chart) q
step-done area l load every i old mid p q t spots u may reached plan last tried is (rests, did) =
    let now = put_back (writes l (first i load) t) (durable p.chart) in
    let same : durable q.chart ≡ now = durable-rests now q rests in (
      record {
        words = step-words area l load old.chart.shape.pages i p.chart.shape.shadows (durable p.chart) (durable q.chart) t spots may.places tried is same;
        since = step-since every i old mid p q reached.since plan did;
        last_plan = step-last every i old mid p q reached.last_plan last did;
      },
      subst (λ (ws : List ℕ). Rests ws q) (sym same) rests,
    )

-- or the run ends with it done or not
pub step-ended : (area : Area) (l : Places) (load : Draws) (every i : ℕ) (old mid p q : Picture) (t : Transfer) (spots : Spots) (fault : DriveFault) → MayDrive area l load old → IsAt area load every i old mid → Since (if is_planned every i then 1 else 0) mid p → p.chart.last_plan ≡ (if is_planned every i then Some (cut_before i) else mid.chart.last_plan)
    → durable p.chart ≡ durable mid.chart → i < area.transfers → IsTried p.chart.shape.shadows l (32 * old.chart.shape.pages) (first i load) (durable p.chart) i t spots → t ≡ (next_transfer (after i load)).0
    → AfterTransfer 0 p (durable p.chart) (put_back (writes l (first i load) t) (durable p.chart)) (Err fault) q → IsEnd fault old q × IsWithin area load every old q
step-ended area l load every i old mid p q t spots fault may reached plan last kept lt tried is (end, stopped) =
    let since = step-since every i old mid p q reached.since plan stopped.since in
    (cause-later (plans_in every i + (if is_planned every i then 1 else 0)) old p q fault (Since-trans (plans_in every i) (if is_planned every i then 1 else 0) old mid p reached.since plan) stopped.since end, within since (step-last every i old mid p q reached.last_plan last stopped.since) stopped.words)
  where
    within : Since (plans_in every (i + 1)) old q → q.chart.last_plan ≡ last_cut every (i + 1) old.chart.last_plan → (durable q.chart ≡ durable p.chart) ⊎ (durable q.chart ≡ put_back (writes l (first i load) t) (durable p.chart)) → IsWithin area load every old q
    within since last_is (inl same) = record {
      done = i;
      planned = i + 1;
      few = omega arith;
      few_planned = omega arith;
      words = subst (λ (ws : List ℕ). Tpc area old.chart.shape.pages load i ws) (sym (same ∙ kept)) reached.words;
      since = since;
      last_plan = last_is;
    }
    within since last_is (inr same) = record {
      done = i + 1;
      planned = i + 1;
      few = omega arith;
      few_planned = omega arith;
      words = step-words area l load old.chart.shape.pages i p.chart.shape.shadows (durable p.chart) (durable q.chart) t spots may.places tried is same;
      since = since;
      last_plan = last_is;
    }

-- before the first transfer
pub at-first : (area : Area) (l : Places) (load : Draws) (every : ℕ) (p : Picture) → MayDrive area l load p → Since 0 p p → IsAt area load every 0 p p
at-first area l load every p may since = record { words = may.words; since = subst (λ (n : ℕ). Since n p p) (sym (plans-none every)) since; last_plan = last-none every p.chart.last_plan }

-- words of zeros are those after no transfer
pub zeros-words : (area : Area) (load : Draws) (pages : ℕ) (words : List ℕ) → words ≡ replicate (32 * pages) 0 → Tpc area pages load 0 words
zeros-words area load pages words is = subst (λ (ws : List ℕ). Tpc area pages load 0 ws) (sym is) (subst (λ (ts : List Transfer). TpcAt (places_of area) (32 * pages) ts (replicate (32 * pages) 0)) (sym (first-none load)) (zeros-law (places_of area) (32 * pages)))

-- a plan changes neither the words nor the slots
pub rests-planned : (mid p : Picture) → Rests (durable mid.chart) mid → Stands p.chart (fresh mid.chart.shape.shadows (durable mid.chart)) → p.chart.shape ≡ mid.chart.shape → durable p.chart ≡ durable mid.chart → Rests (durable p.chart) p
rests-planned mid p rests stands shape same =
    subst (λ (ws : List ℕ). Stands p.chart (fresh p.chart.shape.shadows ws)) (sym same) (subst (λ (k : ℕ). Stands p.chart (fresh k (durable mid.chart))) (sym (ap (λ (sh : Shape). sh.shadows) shape)) stands)

-- a run that fails
pub all-fails : (area : Area) (load : Draws) (every : ℕ) (old q : Picture) (result : Result ℤ DriveFault) (then_load : Draws) (fault : DriveFault) → IsEnd fault old q × IsWithin area load every old q → IsErr result → IsErrAnd result (λ e. e ≡ fault) → AfterAll area load every old result then_load q
all-fails area load every old q (Ok sum) then_load fault ended is same = cc
all-fails area load every old q (Err e) then_load fault ended is same = subst (λ (f : DriveFault). IsEnd f old q × IsWithin area load every old q) (sym same) ended

-- what each transfer answers, at its answer
pub once-ok : (n : ℕ) (old : Picture) (before now : List ℕ) (result : Result Unit DriveFault) (p : Picture) (u : Unit) → AfterTransfer n old before now result p → result ≡ Ok u → AfterTransfer n old before now (Ok u) p
once-ok n old before now result p u a is = subst (λ (r : Result Unit DriveFault). AfterTransfer n old before now r p) is a

-- a transfer that fails, and its fault
pub once-err : (n : ℕ) (old : Picture) (before now : List ℕ) (result : Result Unit DriveFault) (p : Picture) (fault : DriveFault) → AfterTransfer n old before now result p → result ≡ Err fault → AfterTransfer n old before now (Err fault) p
once-err n old before now result p fault a is = subst (λ (r : Result Unit DriveFault). AfterTransfer n old before now r p) is a

-- what all transfers answer, at their answer
pub all-ok : (area : Area) (load : Draws) (every : ℕ) (old q : Picture) (result : Result ℤ DriveFault) (then_load : Draws) (sum : ℤ) → AfterAll area load every old result then_load q → result ≡ Ok sum → AfterAll area load every old (Ok sum) then_load q
all-ok area load every old q result then_load sum a is = subst (λ (r : Result ℤ DriveFault). AfterAll area load every old r then_load q) is a

pub all-err : (area : Area) (load : Draws) (every : ℕ) (old q : Picture) (result : Result ℤ DriveFault) (then_load : Draws) (fault : DriveFault) → AfterAll area load every old result then_load q → result ≡ Err fault → IsEnd fault old q × IsWithin area load every old q
all-err area load every old q result then_load fault a is = subst (λ (r : Result ℤ DriveFault). AfterAll area load every old r then_load q) is a

-- A load that was driven to its end, and its sums.
use Rattle.std.proofs.Common.{◌≡◌, ℕ, ◌<◌, ◌≤◌, ◌+◌, ◌*◌, List, length, refl, sym, ◌∙◌, ap, subst, arith}
use Rattle.std.specs.Prelude.{◌^◌, slice_index, ℤ}
use Rattle.std.proofs.Common.{w64}
use Rattle.std.proofs.lemmas.Int.{to_z-of_z}
use Rattle.std.specs.Int.{cast_signed, cast_unsigned}
use Rattle.std.specs.List.{All}
use Rattle.envy_array.specs.Area.{Fits}
use Rattle.envy_array.specs.declared.area.Area.{Area}
use Rattle.envy_array.specs.declared.counts.Counts.{Counts}
use Rattle.envy_base.specs.declared.shape.Shape.{Shape}
use Rattle.envy_soundness.specs.Words.{durable}
use Rattle.envy_memory.specs.Picture.{Picture, counts_of}
use Rattle.envy_tpca.specs.declared.places.Places.{Places}
use Rattle.envy_tpca.specs.Driving.{IsLoadOf, HasCounted, IsToldBefore, plans_in}
use Rattle.envy_tpca.specs.Load.{Draws, first}
use Rattle.envy_tpca.specs.Loading.{Loaded}
use Rattle.envy_tpca.specs.Running.{IsWithin}
use Rattle.envy_tpca.specs.Since.{RisesWithin}
use Rattle.envy_tpca.specs.Summing.{Small, balances_in, history_in}
use Rattle.envy_tpca.specs.Tpc.{TpcAt, Tpc, deltas, places_of}
use Rattle.envy_tpca.specs.Trial.{AreSmall}
use Rattle.envy_tpca.proofs.Drawing.{length-first}
use Rattle.envy_tpca.proofs.Planning.{plans-within}
use Rattle.envy_tpca.proofs.Stepping.{load-small, sizes-drawn}
use Rattle.envy_tpca.proofs.Totals.{All-first, balances-small, balances-total, history-are, small-deltas}

-- word 0 says how many transfers are counted
pub has-counted : (area : Area) (load : Draws) (pages done : ℕ) (words : List ℕ) (p : Picture) → p.chart.shape.pages ≡ pages → durable p.chart ≡ words → done ≤ area.transfers → Tpc area pages load done words → HasCounted area load p
has-counted area load pages done words p size same few tpc =
    let is : slice_index (durable p.chart) 0 ≡ done = ap (λ (ws : List ℕ). slice_index ws 0) same ∙ tpc.count ∙ length-first done load in
    record {
      few = omega arith;
      words = subst (λ (k : ℕ). Tpc area p.chart.shape.pages load k (durable p.chart)) (sym is)
          (subst (λ (n : ℕ). Tpc area n load done (durable p.chart)) (sym size) (subst (λ (ws : List ℕ). Tpc area pages load done ws) (sym same) tpc));
    }

pub counted-within : (area : Area) (load : Draws) (every : ℕ) (old p : Picture) → IsWithin area load every old p → HasCounted area load p
counted-within area load every old p w = has-counted area load old.chart.shape.pages w.done (durable p.chart) p (ap (λ (sh : Shape). sh.pages) w.since.keeps.shape) refl w.few w.words

pub few-plans : (area : Area) (load : Draws) (every : ℕ) (old p : Picture) → IsWithin area load every old p → RisesWithin (plans_in every area.transfers) old.chart.plans p.chart.plans
few-plans area load every old p w = let e = w.since.plans.most in let f = plans-within every w.planned area.transfers w.few_planned in (w.since.plans.least, omega arith)

-- all that is known of the words of an area whose transfers are done
pub record Sized (area : Area) (l : Places) (load : Draws) (pages : ℕ) : Type 0 where
  pub fits : Fits area pages
  pub low : pages ≤ 2 ^ 24
  pub sizes : IsLoadOf area load
  pub places : l ≡ places_of area

-- the words behind all transfers
pub all-words : (area : Area) (l : Places) (load : Draws) (pages : ℕ) (words : List ℕ) → Sized area l load pages → Tpc area pages load area.transfers words → TpcAt l (32 * pages) (first area.transfers load) words
all-words area l load pages words s tpc = subst (λ (k : Places). TpcAt k (32 * pages) (first area.transfers load) words) (sym s.places) tpc

transfers-few : (area : Area) (l : Places) (load : Draws) (pages : ℕ) → Sized area l load pages → length (first area.transfers load) < 2 ^ 32
transfers-few area l load pages s = let e = length-first area.transfers load in let room = s.fits.room in let low = s.low in omega arith

all-small : (area : Area) (l : Places) (load : Draws) (pages n : ℕ) → Sized area l load pages → AreSmall (first n load)
all-small area l load pages n s = load-small area load pages n s.fits s.sizes

pub branches-small : (area : Area) (l : Places) (load : Draws) (pages : ℕ) (words : List ℕ) → Sized area l load pages → Tpc area pages load area.transfers words → (n : ℕ) → n ≤ l.branches → Small (balances_in words 1 n)
branches-small area l load pages words s tpc = balances-small words 1 l.branches (λ t. t.branch) (first area.transfers load) (all-words area l load pages words s tpc).branches (all-small area l load pages area.transfers s) (transfers-few area l load pages s)

pub tellers-small : (area : Area) (l : Places) (load : Draws) (pages : ℕ) (words : List ℕ) → Sized area l load pages → Tpc area pages load area.transfers words → (n : ℕ) → n ≤ 10 * l.branches → Small (balances_in words (1 + l.branches) n)
tellers-small area l load pages words s tpc = balances-small words (1 + l.branches) (10 * l.branches) (λ t. t.teller) (first area.transfers load) (all-words area l load pages words s tpc).tellers (all-small area l load pages area.transfers s) (transfers-few area l load pages s)

pub accounts-small : (area : Area) (l : Places) (load : Draws) (pages : ℕ) (words : List ℕ) → Sized area l load pages → Tpc area pages load area.transfers words → (n : ℕ) → n ≤ l.accounts → Small (balances_in words (1 + 11 * l.branches) n)
accounts-small area l load pages words s tpc = balances-small words (1 + 11 * l.branches) l.accounts (λ t. t.account) (first area.transfers load) (all-words area l load pages words s tpc).accounts (all-small area l load pages area.transfers s) (transfers-few area l load pages s)

pub history-small : (area : Area) (l : Places) (load : Draws) (pages : ℕ) (words : List ℕ) → Sized area l load pages → Tpc area pages load area.transfers words → (n : ℕ) → n ≤ area.transfers → Small (history_in words l.history n)
history-small area l load pages words s tpc n le =
    subst Small (sym (history-are l (32 * pages) area.transfers load words (all-words area l load pages words s tpc) (all-small area l load pages area.transfers s) n le))
    (small-deltas (first n load) (all-small area l load pages n s) (let e = length-first n load in let room = s.fits.room in let low = s.low in omega arith))

branch-below : (area : Area) (l : Places) (load : Draws) (pages : ℕ) → Sized area l load pages → All (λ t. t.branch < l.branches) (first area.transfers load)
branch-below area l load pages s = let e = ap (λ (k : Places). k.branches) s.places in All-first (λ t. t.branch < l.branches) area.transfers load (λ i. let d = (sizes-drawn area load pages i s.fits s.sizes).branch in omega arith)

teller-below : (area : Area) (l : Places) (load : Draws) (pages : ℕ) → Sized area l load pages → All (λ t. t.teller < 10 * l.branches) (first area.transfers load)
teller-below area l load pages s = let e = ap (λ (k : Places). k.branches) s.places in All-first (λ t. t.teller < 10 * l.branches) area.transfers load (λ i. let d = (sizes-drawn area load pages i s.fits s.sizes).teller in omega arith)

account-below : (area : Area) (l : Places) (load : Draws) (pages : ℕ) → Sized area l load pages → All (λ t. t.account < l.accounts) (first area.transfers load)
account-below area l load pages s = let e = ap (λ (k : Places). k.accounts) s.places in All-first (λ t. t.account < l.accounts) area.transfers load (λ i. let d = (sizes-drawn area load pages i s.fits s.sizes).account in omega arith)

pub branches-total : (area : Area) (l : Places) (load : Draws) (pages : ℕ) (words : List ℕ) → Sized area l load pages → Tpc area pages load area.transfers words → balances_in words 1 l.branches ≡ deltas (first area.transfers load)
branches-total area l load pages words s tpc = balances-total words 1 l.branches (λ t. t.branch) (first area.transfers load) (all-words area l load pages words s tpc).branches (all-small area l load pages area.transfers s) (transfers-few area l load pages s) (branch-below area l load pages s)

pub tellers-total : (area : Area) (l : Places) (load : Draws) (pages : ℕ) (words : List ℕ) → Sized area l load pages → Tpc area pages load area.transfers words → balances_in words (1 + l.branches) (10 * l.branches) ≡ deltas (first area.transfers load)
tellers-total area l load pages words s tpc = balances-total words (1 + l.branches) (10 * l.branches) (λ t. t.teller) (first area.transfers load) (all-words area l load pages words s tpc).tellers (all-small area l load pages area.transfers s) (transfers-few area l load pages s) (teller-below area l load pages s)

pub accounts-total : (area : Area) (l : Places) (load : Draws) (pages : ℕ) (words : List ℕ) → Sized area l load pages → Tpc area pages load area.transfers words → balances_in words (1 + 11 * l.branches) l.accounts ≡ deltas (first area.transfers load)
accounts-total area l load pages words s tpc = balances-total words (1 + 11 * l.branches) l.accounts (λ t. t.account) (first area.transfers load) (all-words area l load pages words s tpc).accounts (all-small area l load pages area.transfers s) (transfers-few area l load pages s) (account-below area l load pages s)

pub history-total : (area : Area) (l : Places) (load : Draws) (pages : ℕ) (words : List ℕ) → Sized area l load pages → Tpc area pages load area.transfers words → history_in words l.history area.transfers ≡ deltas (first area.transfers load)
history-total area l load pages words s tpc = history-are l (32 * pages) area.transfers load words (all-words area l load pages words s tpc) (all-small area l load pages area.transfers s) area.transfers (omega arith)

-- the counters before so many loads
pub told-before : (n loads : ℕ) (old new : Picture) (told : Counts) → told ≡ counts_of old.parts → Loaded n old new → n ≡ loads → IsToldBefore loads told (counts_of new.parts)
told-before n loads old new told is loaded all =
    let hits = ap (λ (c : Counts). c.hits) is in
    let misses = ap (λ (c : Counts). c.misses) is in
    let more = loaded.accessed.hits in
    let missed = loaded.accessed.misses in
    record {
      others = subst (λ (c : Counts). c ≡ record (counts_of new.parts) { hits = c.hits; misses = c.misses }) (sym is)
          (subst (λ (p : Picture). counts_of old.parts ≡ record (counts_of p.parts) { hits = (counts_of old.parts).hits; misses = (counts_of old.parts).misses }) (sym loaded.same) refl);
      hits = omega arith;
      misses = omega arith;
      accesses = λ lh lm. let e = loaded.accessed.sum lh lm in omega arith;
    }

-- the sum of all deltas is far from the end of its type
pub total-small : (area : Area) (l : Places) (load : Draws) (pages : ℕ) → Sized area l load pages → Small (deltas (first area.transfers load))
total-small area l load pages s = small-deltas (first area.transfers load) (all-small area l load pages area.transfers s) (transfers-few area l load pages s)

-- a signed number reads the same after it was kept in a field
pub kept-signed : (x y : ℤ) → x ≡ y → Small y → cast_signed w64 (cast_unsigned w64 x) ≡ y
kept-signed x y is small = ap (λ (z : ℤ). cast_signed w64 (cast_unsigned w64 z)) is ∙ to_z-of_z w64 y small

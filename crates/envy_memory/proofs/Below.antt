-- What an accepted store or put does below the array, and one that a failure ended.
use Rattle.std.proofs.Common.{◌≡◌, ◌/◌, inl, inr, false, ℕ, List, ◌++◌, ◌∷◌, [], Some, None, Ok, Err, refl, subst}
use Rattle.std.specs.Prelude.{◌<◌, IsTrue, IsErrOf, IfOk, MatchResult, length, Result}
use Rattle.envy_base.specs.declared.board.Trouble.{Trouble}
use Rattle.envy_base.specs.declared.board.Trouble.TheVariants.{Off as TroubleOff, Bad as TroubleBad}
use Rattle.envy_base.specs.declared.fields.Job.TheVariants.{Idle as IdleJob}
use Rattle.envy_map.specs.Fields.{Chart}
use Rattle.envy_reloc.specs.Phases.{SameOnce}
use Rattle.envy_table.specs.Hits.{Accesses, Rests}
use Rattle.envy_txn.specs.Owners.{Ownership, owner_of}
use Rattle.envy_engine.specs.Agreement.{Fits}
use Rattle.envy_engine.specs.Counts.{Counting}
use Rattle.envy_engine.specs.Flushing.{Stops}
use Rattle.envy_engine.specs.Putting.{PutsBy}
use Rattle.envy_engine.specs.Storing.{StoresBy}
use Rattle.envy_engine.specs.Ticks.{TicksBy, TicksBad, CountsTick, IsNoneDue}
use Rattle.envy_engine.specs.declared.did.Did.{Did}
use Rattle.envy_engine.specs.declared.did.Did.TheVariants.{Idle}
use Rattle.envy_engine.specs.declared.parts.Parts.{Parts}
use Rattle.envy_memory.specs.Below.{StoresBelow, PutsBelow, TicksBelow, flush_programs, flush_erases}
use Rattle.envy_memory.specs.Calls.{Works}
use Rattle.envy_memory.specs.Faults.{store_fault, put_fault}
use Rattle.envy_memory.specs.declared.faults.PutFault.TheVariants.{Off as PutOff, Bad as PutBad}
use Rattle.envy_memory.specs.declared.faults.StoreFault.TheVariants.{Off as StoreOff, Bad as StoreBad}
use Rattle.envy_memory.specs.Picture.{Picture}
use Rattle.envy_memory.proofs.TickLemmas.{TicksOnce-all, idle-found}
use Rattle.envy_memory.proofs.Effects.{Ends-stored, Ends-put, flushes-stored, flushes-put}

-- what a worker of a store or a first put does at every exit
pub record Worked (page : ℕ) (p : Picture) (new : Chart) (now : Parts) : Type 0 where
  pub on : IsTrue p.chart.on
  pub works : Works (flush_programs p.chart.shape.rows) flush_erases p.chart new
  pub counts : Counting p.chart p.parts new now
  pub visits : Accesses page p.parts.cache now.cache

powered : (p q : Picture) → IsTrue p.chart.on → p.chart.on ≡ false → q ≡ p
powered p q on off = absurd (let clash : IsTrue false = subst IsTrue off on in cc)

pub below-stored : {sram : List ℕ} (a : ℕ) (p : Picture) (new : Chart) (now : Parts) → Worked (a / 32) p new now → Fits p.chart.shape p.parts
    → StoresBy (a / 32) p.chart p.parts new now → StoresBelow a (Ok tt) p (record p { sram = sram; chart = new; parts = now })
below-stored {sram} a p new now worked fits stores = record {
  unpowered = powered p (record p { sram = sram; chart = new; parts = now }) worked.on;
  works = worked.works;
  counts = worked.counts;
  visits = worked.visits;
  flushes = flushes-stored (a / 32) p new now fits stores;
  does = stores;
  ends = Ends-stored (a / 32) p.chart p.parts new now stores;
  stops = λ is. absurd (let clash : Ok tt ≡ Err StoreBad = is in cc);
  kept = refl;
}

pub below-store_ended : {sram : List ℕ} (a : ℕ) (p : Picture) (new : Chart) (now : Parts) (e : Trouble) → Worked (a / 32) p new now
    → (IsErrOf {T = Unit {0}} {E = Trouble} (Err e) TroubleBad → Stops (a / 32) p.chart p.parts new now) → StoresBelow a (Err (store_fault e)) p (record p { sram = sram; chart = new; parts = now })
below-store_ended {sram} a p new now TroubleOff worked stops = record {
  unpowered = powered p (record p { sram = sram; chart = new; parts = now }) worked.on;
  works = worked.works;
  counts = worked.counts;
  visits = inl (worked.on, worked.visits);
  flushes = tt;
  does = tt;
  ends = tt;
  stops = λ is. absurd (let clash : Err StoreOff ≡ Err StoreBad = is in cc);
  kept = refl;
}
below-store_ended {sram} a p new now TroubleBad worked stops = record {
  unpowered = powered p (record p { sram = sram; chart = new; parts = now }) worked.on;
  works = worked.works;
  counts = worked.counts;
  visits = worked.visits;
  flushes = tt;
  does = tt;
  ends = tt;
  stops = λ is. stops refl;
  kept = refl;
}

-- a put to a page that its slot owns
pub below-put_again : {sram : List ℕ} (t a : ℕ) (p : Picture) (new : Chart) (now : Parts) → Worked (a / 32) p new now → Fits p.chart.shape p.parts
    → owner_of p.owned.pairs (a / 32) ≡ Some t → StoresBy (a / 32) p.chart p.parts new now → PutsBelow t a (Ok tt) p (record p { sram = sram; chart = new; parts = now })
below-put_again {sram} t a p new now worked fits own stores = record {
  unpowered = powered p (record p { sram = sram; chart = new; parts = now }) worked.on;
  works = worked.works;
  counts = worked.counts;
  visits = worked.visits;
  flushes = rw own (flushes-stored (a / 32) p new now fits stores);
  does = inl (own, stores, refl);
  ends = Ends-stored (a / 32) p.chart p.parts new now stores;
  stops = λ is. absurd (let clash : Ok tt ≡ Err PutBad = is in cc);
  kept = refl;
}

-- the first put to a page
pub below-put_first : {sram : List ℕ} (t a : ℕ) (p : Picture) (new : Chart) (now : Parts) (then_owned : Ownership) → Worked (a / 32) p new now → Fits p.chart.shape p.parts
    → owner_of p.owned.pairs (a / 32) ≡ None → PutsBy t (a / 32) p.chart p.parts new now
    → then_owned ≡ record p.owned { pairs = p.owned.pairs ++ (record { page = a / 32; slot = t }) ∷ [] }
    → PutsBelow t a (Ok tt) p (record p { sram = sram; chart = new; parts = now; owned = then_owned })
below-put_first {sram} t a p new now then_owned worked fits none puts gives = record {
  unpowered = powered p (record p { sram = sram; chart = new; parts = now; owned = then_owned }) worked.on;
  works = worked.works;
  counts = worked.counts;
  visits = worked.visits;
  flushes = rw none (flushes-put t (a / 32) p new now fits puts);
  does = inr (none, puts, gives);
  ends = Ends-put t (a / 32) p.chart p.parts new now puts;
  stops = λ is. absurd (let clash : Ok tt ≡ Err PutBad = is in cc);
  kept = refl;
}

pub below-put_ended : {sram : List ℕ} (t a : ℕ) (p : Picture) (new : Chart) (now : Parts) (then_owned : Ownership) (e : Trouble) → Worked (a / 32) p new now
    → (IsErrOf {T = Unit {0}} {E = Trouble} (Err e) TroubleBad → Stops (a / 32) p.chart p.parts new now) → (IsErrOf {T = Unit {0}} {E = Trouble} (Err e) TroubleBad → then_owned ≡ p.owned)
    → PutsBelow t a (Err (put_fault e)) p (record p { sram = sram; chart = new; parts = now; owned = then_owned })
below-put_ended {sram} t a p new now then_owned TroubleOff worked stops stays = record {
  unpowered = powered p (record p { sram = sram; chart = new; parts = now; owned = then_owned }) worked.on;
  works = worked.works;
  counts = worked.counts;
  visits = inl (worked.on, worked.visits);
  flushes = tt;
  does = tt;
  ends = tt;
  stops = λ is. absurd (let clash : Err PutOff ≡ Err PutBad = is in cc);
  kept = refl;
}
below-put_ended {sram} t a p new now then_owned TroubleBad worked stops stays = record {
  unpowered = powered p (record p { sram = sram; chart = new; parts = now; owned = then_owned }) worked.on;
  works = worked.works;
  counts = worked.counts;
  visits = worked.visits;
  flushes = tt;
  does = tt;
  ends = tt;
  stops = λ is. (stops refl, stays refl);
  kept = refl;
}

-- what a worker of a background step does
pub record Ticked (answer : Result Did Trouble) (p : Picture) (new : Chart) (now : Parts) : Type 0 where
  pub on : IsTrue p.chart.on
  pub step : SameOnce p.chart new
  pub does : IfOk answer (λ did. TicksBy p.limit p.mark did p.chart p.parts new now)
  pub idle : p.chart.fields.job ≡ Some IdleJob → p.parts.stages ≡ [] → length p.parts.frames.held < p.mark → IsNoneDue p.limit p.chart p.parts.reloc.since → answer ≡ Ok Idle
  pub stops : IsErrOf answer TroubleBad → TicksBad p.mark p.chart p.parts new now
  pub counts : MatchResult answer (λ _. CountsTick p.chart p.parts new now) (λ _. Counting p.chart p.parts new now)
  pub rests : Rests p.parts.cache now.cache

pub below-ticked : {sram : List ℕ} (answer : Result Did Trouble) (p : Picture) (new : Chart) (now : Parts) → Ticked answer p new now → TicksBelow answer p (record p { sram = sram; chart = new; parts = now })
below-ticked {sram} answer p new now t = record {
  unpowered = powered p (record p { sram = sram; chart = new; parts = now }) t.on;
  works = TicksOnce-all p.chart new t.on t.step;
  does = t.does;
  idle = (
    λ is. idle-found p new now t.on (subst (λ (x : Result Did Trouble). IfOk x (λ did. TicksBy p.limit p.mark did p.chart p.parts new now)) is t.does),
    λ i. t.idle i.job i.stages i.few i.none,
  );
  stops = t.stops;
  counts = t.counts;
  rests = t.rests;
  kept = refl;
}

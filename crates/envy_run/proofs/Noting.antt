-- What a line does to all that a memory counts, from what its call does.
use Rattle.std.proofs.Common.{◌≡◌, ◌⊎◌, inl, inr, ℕ, ◌≤◌, false, List, [], refl, sym, ap, subst, arith}
use Rattle.std.specs.Prelude.{IsTrue, Option, None, Some, IfSome, sum}
use Rattle.envy_base.proofs.Counting.{up-least}
use Rattle.envy_base.specs.Counting.{up, Tally}
use Rattle.envy_array.specs.declared.counts.Counts.{Counts}
use Rattle.envy_engine.specs.Counts.{Counting, Tallies}
use Rattle.envy_engine.specs.declared.parts.Parts.{Parts}
use Rattle.envy_engine.specs.Ticks.{CountsTick}
use Rattle.envy_soundness.specs.Same.{Counted}
use Rattle.envy_memory.proofs.Counted.{Tallies-stay, begun-stay}
use Rattle.envy_memory.specs.Effects.{Visits}
use Rattle.envy_memory.specs.Picture.{Picture, counts_of}
use Rattle.envy_table.proofs.HitLemmas.{Rests-refl}
use Rattle.envy_table.specs.Entries.{Translations}
use Rattle.envy_table.specs.Hits.{Accesses, Rests}
use Rattle.envy_trace.specs.declared.line.Line.{Line}
use Rattle.envy_trace.specs.declared.line.Line.TheVariants.{Empty}
use Rattle.envy_trace.specs.declared.reply.Reply.{Reply}
use Rattle.envy_run.specs.Counters.{is_empty, told_in}
use Rattle.envy_run.specs.Hits.{accessed, is_restarted}
use Rattle.envy_run.specs.Tells.{Notes, Translates}

pub swaps-stay : (old new : Picture) → counts_of new.parts ≡ counts_of old.parts → old.parts.swaps ≤ new.parts.swaps
swaps-stay old new counts = let same = ap (λ (c : Counts). c.swaps) counts in omega arith

-- Translations

pub Translates-rest : (line : Line) (replies : List Reply) (old new : Translations) → accessed line replies ≡ None → is_restarted replies ≡ false → Rests old new → Translates line replies old new
Translates-rest line replies old new is alive r = record {
  size = r.size;
  pages = λ i. rw (alive, is) (r.pages i);
  hits = rw is r.hits;
  misses = rw is r.misses;
}

-- Notes

-- the line isn't empty, and its replies neither tell counters nor that power came
abbrev pub IsQuiet : Line → List Reply → Type 0
IsQuiet line replies = (is_restarted replies ≡ false) × (told_in replies ≡ None) × (is_empty line ≡ false)

silent-so : (replies : List Reply) (P : Counts → Type 0) → told_in replies ≡ None → IfSome (told_in replies) P
silent-so replies P none = subst (λ (o : Option Counts). IfSome o P) (sym none) tt

-- no access
pub notes-rest : (line : Line) (replies : List Reply) (old new : Picture) → accessed line replies ≡ None → IsQuiet line replies → Rests old.parts.cache new.parts.cache → Tallies old.chart old.parts new.chart new.parts → old.parts.swaps ≤ new.parts.swaps → Notes line replies old new
notes-rest line replies old new is (alive, silent, full) rests tallies swaps = record {
  cache = Translates-rest line replies old.parts.cache new.parts.cache is alive rests;
  tallies = tallies;
  swaps = swaps;
  tells = silent-so replies _ silent;
  empty = λ e. absurd (let never = full in cc);
}

pub notes-counted : (line : Line) (replies : List Reply) (old new : Picture) → accessed line replies ≡ None → IsQuiet line replies → Rests old.parts.cache new.parts.cache → Counting old.chart old.parts new.chart new.parts → Notes line replies old new
notes-counted line replies old new is quiet rests counting =
    notes-rest line replies old new is quiet rests counting.tallies (let same = counting.swaps in omega arith)

-- nor any work, and the parts stay
pub notes-still : (line : Line) (replies : List Reply) (old new : Picture) → accessed line replies ≡ None → IsQuiet line replies → new.parts ≡ old.parts → Counted 0 0 old.chart new.chart → Notes line replies old new
notes-still line replies old new is quiet same c =
    let counts = ap counts_of same in
    let (begun, erases) = begun-stay old new c in
    notes-rest line replies old new is quiet (subst (λ (x : Parts). Rests old.parts.cache x.cache) (sym same) (Rests-refl old.parts.cache)) (Tallies-stay old new counts begun erases) (swaps-stay old new counts)

-- a refused line
pub notes-refused : (line : Line) (replies : List Reply) (old new : Picture) → accessed line replies ≡ None → IsQuiet line replies → new ≡ old → Notes line replies old new
notes-refused line replies old new is quiet same =
    subst (λ (p : Picture). Notes line replies old p) (sym same) (notes-rest line replies old old is quiet (Rests-refl old.parts.cache) (Tallies-stay old old refl refl refl) (omega arith))

-- power was on at entry
pub visits-on : (page : ℕ) (old new : Picture) → IsTrue old.chart.on → (IsTrue old.chart.on × Visits page old new) ⊎ ((old.chart.on ≡ false) × (new ≡ old)) → Visits page old new
visits-on page old new on (inl (lit, visits)) = visits
visits-on page old new on (inr (off, same)) = absurd (cc)

-- one access
pub notes-visit : (line : Line) (replies : List Reply) (page : ℕ) (old new : Picture) → accessed line replies ≡ Some page → IsQuiet line replies → Accesses page old.parts.cache new.parts.cache → Counting old.chart old.parts new.chart new.parts → Notes line replies old new
notes-visit line replies page old new is (alive, silent, full) a counting = record {
  cache = record {
    size = a.size;
    pages = λ i. rw (alive, is) (a.pages i);
    hits = rw is a.hits;
    misses = rw is a.misses;
  };
  tallies = counting.tallies;
  swaps = let same = counting.swaps in omega arith;
  tells = silent-so replies _ silent;
  empty = λ e. absurd (let never = full in cc);
}

pub notes-empty : (p : Picture) → Notes Empty [] p p
notes-empty p = record {
  cache = Translates-rest Empty [] p.parts.cache p.parts.cache refl refl (Rests-refl p.parts.cache);
  tallies = Tallies-stay p p refl refl refl;
  swaps = omega arith;
  tells = tt;
  empty = λ e. refl;
}

-- a tick begins one swap at most
pub tick-swaps : (old new : Picture) → CountsTick old.chart old.parts new.chart new.parts → old.parts.swaps ≤ new.parts.swaps
tick-swaps old new counts = at counts.since
  where
    at : ((new.parts.swaps ≡ old.parts.swaps) × Tally (sum old.chart.erases) old.parts.reloc.since (sum new.chart.erases) new.parts.reloc.since) ⊎ ((new.parts.swaps ≡ up old.parts.swaps) × (new.parts.reloc.since ≡ 0)) → old.parts.swaps ≤ new.parts.swaps
    at (inl (same, since)) = omega arith
    at (inr (more, since)) = let least = up-least old.parts.swaps in omega arith

-- Loads of a memory that rests.
use Rattle.std.proofs.Common.{◌≡◌, ℕ, ◌<◌, ◌≤◌, ◌+◌, Bool, true, false, cond, List, length, Result, Ok, Err, refl, sym, ◌∙◌, ap, subst, arith}
use Rattle.std.specs.Prelude.{◌^◌, ◌-◌, OnOk, slice_index}
use Rattle.envy_base.proofs.Counting.{up-least, up-below}
use Rattle.envy_base.specs.Counting.{up}
use Rattle.envy_array.specs.Step.{Load, Word}
use Rattle.envy_meaning.specs.Stands.{Stands, Steps}
use Rattle.envy_soundness.specs.Words.{durable}
use Rattle.envy_map.specs.Fields.{Chart}
use Rattle.envy_memory.specs.Calls.{Loads, fresh}
use Rattle.envy_memory.specs.Picture.{Picture}
use Rattle.envy_memory.specs.declared.faults.LoadFault.{LoadFault}
use Rattle.envy_memory.specs.declared.faults.LoadFault.TheVariants.{Off as LoadOff, Range as LoadRange}
use Rattle.envy_table.specs.Entries.{Translations, is_hit}
use Rattle.envy_table.specs.Hits.{Accesses}
use Rattle.envy_tpca.specs.Loading.{Accessed, Loaded}
use Rattle.envy_tpca.specs.Trying.{Rests}

-- an address within the array is never refused
pub load-none-refused : (words : List ℕ) (old new : Picture) (a : ℕ) → a < length words → (fault : LoadFault) → Loads (fresh old.chart.shape.shadows words) a (Err fault) new.chart → ⊥
load-none-refused words old new a lt LoadOff never = never
load-none-refused words old new a lt LoadRange (k, (le, same), stands) = omega arith

-- what is loaded is the word there
pub word-loaded : (words : List ℕ) (old new : Picture) (a w : ℕ) → Steps (fresh old.chart.shape.shadows words) (Load a) (Word w) new.chart → w ≡ slice_index words a
word-loaded words old new a w (k, (room, is, same), stands) = is

accessed-of : (b : Bool) (h m h2 m2 : ℕ) → h2 ≡ cond b (up h) h → m2 ≡ cond b m (up m) → (h ≤ h2) × (m ≤ m2) × (h2 < 2 ^ 64 - 1 → m2 < 2 ^ 64 - 1 → h + m + 1 ≡ h2 + m2)
accessed-of true h m h2 m2 eh em = let least = up-least h in (omega arith, omega arith, λ lh lm. let e = up-below h (omega arith) in omega arith)
accessed-of false h m h2 m2 eh em = let least = up-least m in (omega arith, omega arith, λ lh lm. let e = up-below m (omega arith) in omega arith)

pub accessed-one : (p : ℕ) (old new : Translations) → Accesses p old new → Accessed 1 old new
accessed-one p old new a = let d = accessed-of (is_hit old.entries p) old.hits old.misses new.hits new.misses a.hits a.misses in record { hits = d.0; misses = d.1; sum = d.2 }

pub loaded-none : (p : Picture) → Loaded 0 p p
loaded-none p = record { same = refl; accessed = record { hits = omega arith; misses = omega arith; sum = λ lh lm. omega arith } }

-- some loads and some more
pub loaded-more : (n k : ℕ) (a b c : Picture) → Loaded n a b → Loaded k b c → Loaded (n + k) a c
loaded-more n k a b c x y = record {
  same = y.same ∙ ap (λ (q : Picture). record q { parts = record q.parts { cache = c.parts.cache } }) x.same;
  accessed =
      let p = x.accessed.hits in let q = y.accessed.hits in let r = x.accessed.misses in let s = y.accessed.misses in
      record { hits = omega arith; misses = omega arith; sum = λ lh lm. let e = x.accessed.sum (omega arith) (omega arith) in let f = y.accessed.sum lh lm in omega arith };
}

-- loads leave the chart
pub loaded-chart : (n : ℕ) (old new : Picture) → Loaded n old new → new.chart ≡ old.chart
loaded-chart n old new loaded = ap (λ (p : Picture). p.chart) loaded.same

-- and what rests
pub rests-same : (old new : Picture) → new.chart ≡ old.chart → Rests (durable old.chart) old → Rests (durable new.chart) new
rests-same old new same rests = subst (λ (ch : Chart). Stands ch (fresh ch.shape.shadows (durable ch))) (sym same) rests

pub accessed-none : (old new : Translations) → new.hits ≡ old.hits → new.misses ≡ old.misses → Accessed 0 old new
accessed-none old new hits misses = record { hits = omega arith; misses = omega arith; sum = λ lh lm. omega arith }

pub accessed-same : (old new : Translations) → new ≡ old → Accessed 0 old new
accessed-same old new same = accessed-none old new (ap (λ (t : Translations). t.hits) same) (ap (λ (t : Translations). t.misses) same)

-- some accesses and some more
pub accessed-more : (n k : ℕ) (a b c : Translations) → Accessed n a b → Accessed k b c → Accessed (n + k) a c
accessed-more n k a b c x y =
    let p = x.hits in let q = y.hits in let r = x.misses in let s = y.misses in
    record { hits = omega arith; misses = omega arith; sum = λ lh lm. let e = x.sum (omega arith) (omega arith) in let f = y.sum lh lm in omega arith }

-- what holds where a call is done, and what follows from it there
pub where-done : {T E : Type 0} {P Q : Type 0} (r : Result T E) → (P → Q) → OnOk r P → OnOk r Q
where-done (Ok x) f p = f p
where-done (Err e) f p = p

pub done-always : {T E : Type 0} {P : Type 0} (r : Result T E) → P → OnOk r P
done-always (Ok x) p = p
done-always (Err e) p = tt

-- Several puts or stores, one after another, and what they make of the array.
use Rattle.std.proofs.Common.{refl, sym, subst, ℕ, zero, suc, ◌+◌, Bool, true, false, List, get_or, Ok}
use Rattle.envy_array.specs.Array.{Array}
use Rattle.envy_array.specs.Step.{Put, Store, Done as DoneOf}
use Rattle.envy_meaning.specs.Stands.{Stands, Steps}
use Rattle.envy_memory.specs.Picture.{Picture}
use Rattle.envy_memory.specs.PutRuns.{PutsBy, PutsRun}
use Rattle.envy_memory.specs.Runs.{is_more}
use Rattle.envy_memory.specs.StoreRuns.{StoresOne, StoresRun}
use Rattle.envy_calls.specs.Bulk.{Stored, Written}

stepped : (b : Bool) (t a w : ℕ) (p q : Picture) → PutsBy b t a w (Ok tt) p q → (m : Array) → Stands p.chart m → Steps m (Put t a w) DoneOf q.chart
stepped false t a w p q puts m stands = puts.step m stands
stepped true t a w p q puts m stands = puts.step m stands

pub PutsRun-written : (k t a : ℕ) (words : List ℕ) (p q : Picture) → PutsRun k words t a p q
    → (m : Array) → Stands p.chart m → (n : Array) × Written k words t a m n × Stands q.chart n
PutsRun-written zero t a words p q e m stands = (m, refl, subst (λ (x : Picture). Stands x.chart m) (sym e) stands)
PutsRun-written (suc k) t a words p q (r, puts, last) m stands =
    let before = PutsRun-written k t a words p r puts m stands in
    let then_put = stepped (is_more a k) t (a + k) (get_or words k 0) r q last before.0 before.2 in
    (then_put.0, (before.0, before.1, then_put.1), then_put.2)

kept : (b : Bool) (a w : ℕ) (p q : Picture) → StoresOne b a w (Ok tt) p q → (m : Array) → Stands p.chart m → Steps m (Store a w) DoneOf q.chart
kept false a w p q stores m stands = stores.step m stands
kept true a w p q stores m stands = stores.step m stands

pub StoresRun-stored : (k a : ℕ) (words : List ℕ) (p q : Picture) → StoresRun k words a p q
    → (m : Array) → Stands p.chart m → (n : Array) × Stored k words a m n × Stands q.chart n
StoresRun-stored zero a words p q e m stands = (m, refl, subst (λ (x : Picture). Stands x.chart m) (sym e) stands)
StoresRun-stored (suc k) a words p q (r, stores, last) m stands =
    let before = StoresRun-stored k a words p r stores m stands in
    let then_store = kept (is_more a k) (a + k) (get_or words k 0) r q last before.0 before.2 in
    (then_store.0, (before.0, before.1, then_store.1), then_store.2)

-- Accesses that are counted where power never failed.
use Rattle.std.proofs.Common.{◌≡◌, ℕ, ◌+◌, ◌-◌, ◌*◌, List, Result, Ok, Err, ap, subst, arith}
use Rattle.std.specs.Prelude.{OnOk}
use Rattle.envy_map.specs.Fields.{Chart}
use Rattle.envy_array.specs.declared.area.Area.{Area}
use Rattle.envy_array.specs.declared.counts.Counts.{Counts}
use Rattle.envy_memory.specs.Picture.{Picture, counts_of}
use Rattle.envy_tpca.specs.declared.fault.DriveFault.{DriveFault}
use Rattle.envy_tpca.specs.Driving.{CountsAccesses}
use Rattle.envy_tpca.specs.Loading.{Accessed, CountsUncut}
use Rattle.envy_tpca.specs.Since.{IsPast, Since}
use Rattle.envy_tpca.specs.Trying.{AfterTransfer}
use Rattle.envy_tpca.proofs.Loading.{accessed-more, accessed-same}

-- power failed in between
pub cut-off : (n : ℕ) (first mid back p : Picture) → IsPast first.chart.cuts mid.chart.cuts → Since 0 mid back → p.chart ≡ back.chart → CountsUncut n first p
cut-off n first mid back p past since same =
    λ low still. absurd (let more = past low in let kept = since.keeps.cuts in let e = ap (λ (c : Chart). c.cuts) same in omega arith)

-- power failed in between, so that nothing is said of a run without a cut
pub ticked-cut : (n : ℕ) (first mid back at p : Picture) (words : List ℕ) (r : Result Unit DriveFault) → IsPast first.chart.cuts mid.chart.cuts → Since 0 mid back → at.chart ≡ back.chart → AfterTransfer 0 at words words r p → OnOk r (CountsUncut n first p)
ticked-cut n first mid back at p words (Ok done) past since same (rests, did) =
    λ low still. absurd (let more = past low in let kept = since.keeps.cuts in let e = ap (λ (c : Chart). c.cuts) same in let last = did.keeps.cuts in omega arith)
ticked-cut n first mid back at p words (Err fault) past since same after = tt

-- a transfer was done, and the ticks behind it
pub done-uncut : (first head mid p : Picture) (words : List ℕ) (r : Result Unit DriveFault) → Since 0 first head → CountsUncut 0 first head → Since 0 head mid → Accessed 11 head.parts.cache mid.parts.cache → AfterTransfer 0 mid words words r p → OnOk r (Accessed 0 mid.parts.cache p.parts.cache) → OnOk r (CountsUncut 11 first p)
done-uncut first head mid p words (Ok done) before uncut tried eleven (rests, did) none =
    λ low still.
    let a = before.keeps.cuts in let b = tried.keeps.cuts in let d = did.keeps.cuts in
    let unmoved : head.chart.cuts ≡ first.chart.cuts = omega arith in
    accessed-more 11 0 first.parts.cache mid.parts.cache p.parts.cache (accessed-more 0 11 first.parts.cache head.parts.cache mid.parts.cache (uncut low unmoved) eleven) none
done-uncut first head mid p words (Err fault) before uncut tried eleven after none = tt

-- one transfer more, behind its plan
pub next-uncut : (n m i : ℕ) (first mid planned p : Picture) → Since n first mid → CountsUncut (11 * i) first mid → Since m mid planned → planned.parts ≡ mid.parts → Since 0 planned p → CountsUncut 11 planned p → CountsUncut (11 * (i + 1)) first p
next-uncut n m i first mid planned p before uncut plan same did one =
    λ low still.
    let a = before.keeps.cuts in let b = plan.keeps.cuts in let d = did.keeps.cuts in
    let unmoved : mid.chart.cuts ≡ first.chart.cuts = omega arith in
    let level : p.chart.cuts ≡ planned.chart.cuts = omega arith in
    let eleven = one (omega arith) level in
    let so_far = accessed-more (11 * i) 0 first.parts.cache mid.parts.cache planned.parts.cache (uncut low unmoved) (accessed-same mid.parts.cache planned.parts.cache (ap (λ x. x.cache) same)) in
    let all = accessed-more (11 * i + 0) 11 first.parts.cache planned.parts.cache p.parts.cache so_far eleven in
    subst (λ (k : ℕ). Accessed k first.parts.cache p.parts.cache) (omega arith) all

-- the counters that were told behind the last transfer, before the sums were added up
pub told-uncut : (area : Area) (old one last : Picture) (told : Counts) → told ≡ counts_of one.parts → last.chart ≡ one.chart → CountsUncut (11 * area.transfers) old one → CountsAccesses area old told last
told-uncut area old one last told is same uncut =
    λ low still few_hits few_misses.
    let cuts = ap (λ (c : Chart). c.cuts) same in
    let hits = ap (λ (c : Counts). c.hits) is in
    let misses = ap (λ (c : Counts). c.misses) is in
    let a = uncut low (omega arith) in
    let e = a.sum (omega arith) (omega arith) in
    omega arith

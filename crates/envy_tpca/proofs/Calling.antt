-- One transaction on a memory.
use Rattle.std.proofs.Common.{◌≡◌, ◌⊎◌, inl, inr, ℕ, ◌<◌, ◌+◌, false, List, length, Some, Result, Ok, Err, refl, sym, ◌∙◌, ap, subst, arith}
use Rattle.std.specs.Prelude.{◌%◌, ◌^◌, slice_index, slice_set, ℤ, pos, negsuc, ◌+ℤ◌, IsTrue}
use Rattle.std.specs.Int.{cast_unsigned, cast_signed, int_wrap}
use Rattle.std.proofs.Common.{w64}
use Rattle.std.proofs.lemmas.Int.{to_z-of_z, wrapping_add_onto, int_wrap_fits}
use Rattle.envy_array.specs.Array.{Array, owner, page_of}
use Rattle.envy_base.specs.declared.shape.Shape.{Shape}
use Rattle.envy_array.specs.Step.{Answer, Load, Begin, Put, Commit, Word, Done, Started, Range, Held, Closed as ClosedAnswer, Full, Busy, Step, Lost}
use Rattle.envy_meaning.specs.Stands.{Stands, Steps}
use Rattle.envy_soundness.specs.Words.{durable}
use Rattle.envy_memory.specs.Calls.{Loads, Begins, Puts, Commits, IsCut, HasFailed, fresh}
use Rattle.envy_memory.specs.Picture.{Picture}
use Rattle.envy_memory.specs.declared.faults.LoadFault.{LoadFault}
use Rattle.envy_memory.specs.declared.faults.LoadFault.TheVariants.{Off as LoadOff, Range as LoadRange}
use Rattle.envy_memory.specs.declared.faults.BeginFault.{BeginFault}
use Rattle.envy_memory.specs.declared.faults.BeginFault.TheVariants.{Off as BeginOff, Busy as BeginBusy}
use Rattle.envy_memory.specs.declared.faults.PutFault.{PutFault}
use Rattle.envy_memory.specs.declared.faults.PutFault.TheVariants.{Off as PutOff, Range as PutRange, Closed as PutClosed, Held as PutHeld, Full as PutFull, Bad as PutBad}
use Rattle.envy_memory.specs.declared.faults.EndFault.{EndFault}
use Rattle.envy_memory.specs.declared.faults.EndFault.TheVariants.{Off as EndOff, Closed as EndClosed}
use Rattle.envy_tpca.specs.Since.{Since}
use Rattle.envy_tpca.specs.Stops.{begin_stop, put_stop, end_stop}
use Rattle.envy_tpca.specs.Tpc.{as_word}
use Rattle.envy_tpca.specs.Summing.{Small}
use Rattle.envy_tpca.specs.Trying.{Rests, Open, Running, Widens, Undone, Stopped, IsCause, AfterBegin, AfterLoad, AfterPut}
use Rattle.envy_tpca.specs.declared.fault.Fault.{Fault}
use Rattle.envy_tpca.specs.declared.fault.Fault.TheVariants.{Off, Bad}
use Rattle.envy_tpca.proofs.Since.{Since-more, past-later}
use Rattle.envy_tpca.proofs.Totals.{as_word-is}
use Rattle.envy_tpca.proofs.Trying.{Closed, Grows, begin-law, put-law, commit-law, closed-fresh, fresh-closed, undone-closed}

-- power failed, or a flash operation did
off-cause : (n : ℕ) (first old new : Picture) → Since n first old → Since 0 old new → IsTrue old.chart.on → new.chart.on ≡ false → IsCut old.chart new.chart → IsCause Off first new
off-cause n first old new since did on off cut = (off, past-later _ _ _ since.keeps.cuts (cut on off) did.keeps.cuts)

bad-cause : (n : ℕ) (first old new : Picture) → Since n first old → Since 0 old new → IsTrue new.chart.on → HasFailed old.chart new.chart → IsCause Bad first new
bad-cause n first old new since did on failed = (on, past-later _ _ _ since.keeps.bads failed did.keeps.bads)

-- a memory that stands for an array with no slot open rests
rests-closed : (words : List ℕ) (p : Picture) (m : Array) → Stands p.chart m → Closed words m → Rests words p
rests-closed words p m stands closed =
    let is : m ≡ fresh p.chart.shape.shadows words = fresh-closed words m closed ∙ ap (λ (s : ℕ). fresh s words) stands.holds.shadows in
    subst (Stands p.chart) is stands

-- at rest no transaction is open
pub closed-rests : (words : List ℕ) (p : Picture) → Rests words p → Closed words (fresh p.chart.shape.shadows words)
closed-rests words p rests = closed-fresh p.chart.shape.shadows words rests.holds.array

-- the words at rest are the durable ones
pub durable-rests : (words : List ℕ) (p : Picture) → Rests words p → durable p.chart ≡ words
durable-rests words p rests = rests.holds.durable ∙ undone-closed (fresh p.chart.shape.shadows words) (Closed.slots (closed-rests words p rests))

-- and rest on the durable ones
pub rests-durable : (words : List ℕ) (p : Picture) → Rests words p → Rests (durable p.chart) p
rests-durable words p rests = subst (λ (ws : List ℕ). Rests ws p) (sym (durable-rests words p rests)) rests

grows : (n : ℕ) (first : Picture) (before now : List ℕ) (t most more last p : ℕ) (c : Picture) (r : Running n first before now t most last c) → Widens first.chart.shape.shadows last p most more → Grows r.array t p most more
grows n first before now t most more last p c r (inl (same, some, is)) = by r.own
  where
    by : (most ≡ 0) ⊎ (owner r.array last ≡ Some t) → Grows r.array t p most more
    by (inl none) = absurd (some none)
    by (inr mine) = inl (ap (owner r.array) same ∙ mine, is)
grows n first before now t most more last p c r (inr (room, is)) =
    let e : r.array.shadows ≡ first.chart.shape.shadows = r.stands.holds.shadows ∙ ap (λ (sh : Shape). sh.shadows) r.since.keeps.shape in
    inr (omega arith, is)

put-so : (n : ℕ) (first : Picture) (before now : List ℕ) (t most more last a w : ℕ) (old : Picture) (r : Running n first before now t most last old) → a < length now → Widens first.chart.shape.shadows last (page_of a) most more
    → ((answer : Answer) (k : Array) → Step r.array (Put t a w) answer k → (answer ≡ Done) × Open before (slice_set now a w) t more k × (k.shadows ≡ r.array.shadows) × (owner k (page_of a) ≡ Some t)) × ((k : Array) → Lost r.array (Put t a w) k → k.words ≡ before)
put-so n first before now t most more last a w old r lt widens = put-law before now t most more a w r.array r.state lt (grows n first before now t most more last (page_of a) old r widens)

-- a put that is done goes on with the transaction
pub put-done : (n : ℕ) (first : Picture) (before now : List ℕ) (t most more last a w : ℕ) (old new : Picture) (r : Running n first before now t most last old) → a < length now → Widens first.chart.shape.shadows last (page_of a) most more → Since 0 old new → Steps r.array (Put t a w) Done new.chart → Running n first before (slice_set now a w) t more (page_of a) new
put-done n first before now t most more last a w old new r lt widens did (k, step, stands) =
    let d = (put-so n first before now t most more last a w old r lt widens).0 Done k step in
    record { array = k; stands = stands; state = d.1; own = inr d.3; since = Since-more n first old new r.since did }

put-refused : (n : ℕ) (first : Picture) (before now : List ℕ) (t most more last a w : ℕ) (old new : Picture) (r : Running n first before now t most last old) → a < length now → Widens first.chart.shape.shadows last (page_of a) most more → (answer : Answer) → Steps r.array (Put t a w) answer new.chart → answer ≡ Done
put-refused n first before now t most more last a w old new r lt widens answer (k, step, stands) = ((put-so n first before now t most more last a w old r lt widens).0 answer k step).0

-- one that power ends leaves the words of before
pub put-stopped : (n : ℕ) (first : Picture) (before now : List ℕ) (t most more last a w : ℕ) (old new : Picture) (r : Running n first before now t most last old) → a < length now → Widens first.chart.shape.shadows last (page_of a) most more → Since 0 old new → IsCut old.chart new.chart
    → (fault : PutFault) → (fault ≡ PutBad → HasFailed old.chart new.chart) → Puts r.array t a w (Err fault) new.chart → Undone n first before (put_stop fault) new
put-stopped n first before now t most more last a w old new r lt widens did cut PutOff bad lost = record {
  cause = off-cause n first old new r.since did r.stands.on lost.off cut;
  words = lost.words.2 ∙ (put-so n first before now t most more last a w old r lt widens).1 lost.words.0 lost.words.1;
  since = Since-more n first old new r.since did;
}
put-stopped n first before now t most more last a w old new r lt widens did cut PutBad bad (k, accepts, stands) = record {
  cause = bad-cause n first old new r.since did stands.on (bad refl);
  words = stands.holds.durable ∙ r.state.undone;
  since = Since-more n first old new r.since did;
}
put-stopped n first before now t most more last a w old new r lt widens did cut PutRange bad steps = let e = put-refused n first before now t most more last a w old new r lt widens Range steps in cc
put-stopped n first before now t most more last a w old new r lt widens did cut PutClosed bad steps = let e = put-refused n first before now t most more last a w old new r lt widens ClosedAnswer steps in cc
put-stopped n first before now t most more last a w old new r lt widens did cut (PutHeld u) bad steps = let e = put-refused n first before now t most more last a w old new r lt widens (Held u) steps in cc
put-stopped n first before now t most more last a w old new r lt widens did cut PutFull bad steps = let e = put-refused n first before now t most more last a w old new r lt widens Full steps in cc

-- a load within a transaction reads its words
pub load-done : (n : ℕ) (first : Picture) (before now : List ℕ) (t most last a w : ℕ) (old new : Picture) (r : Running n first before now t most last old) → Since 0 old new → Steps r.array (Load a) (Word w) new.chart → (w ≡ slice_index now a) × Running n first before now t most last new
load-done n first before now t most last a w old new r did (k, (room, is, same), stands) =
    (is ∙ ap (λ (ws : List ℕ). slice_index ws a) r.state.words, record { array = r.array; stands = subst (Stands new.chart) same stands; state = r.state; own = r.own; since = Since-more n first old new r.since did })

-- and is never refused
pub load-never : (n : ℕ) (first : Picture) (before now : List ℕ) (t most last a : ℕ) (old new : Picture) (r : Running n first before now t most last old) → a < length now → (fault : LoadFault) → Loads r.array a (Err fault) new.chart → ⊥
load-never n first before now t most last a old new r lt LoadOff never = never
load-never n first before now t most last a old new r lt LoadRange (k, (le, same), stands) = let e = ap (λ (ws : List ℕ). length ws) r.state.words in omega arith

begin-so : (before : List ℕ) (old : Picture) → Rests before old → ((answer : Answer) (k : Array) → Step (fresh old.chart.shape.shadows before) Begin answer k → (t : ℕ) × (answer ≡ Started t) × Open before before t 0 k) × ((k : Array) → Lost (fresh old.chart.shape.shadows before) Begin k → k.words ≡ before)
begin-so before old rests = begin-law before (fresh old.chart.shape.shadows before) (closed-rests before old rests)

-- a transaction begins at rest
pub begin-done : (n : ℕ) (first : Picture) (before : List ℕ) (t : ℕ) (old new : Picture) → Rests before old → Since n first old → Since 0 old new → Steps (fresh old.chart.shape.shadows before) Begin (Started t) new.chart → Running n first before before t 0 0 new
begin-done n first before t old new rests since did (k, step, stands) =
    let d = (begin-so before old rests).0 (Started t) k step in
    let same : d.0 ≡ t = cc in
    record { array = k; stands = stands; state = subst (λ (u : ℕ). Open before before u 0 k) same d.2; own = inl refl; since = Since-more n first old new since did }

-- or power ends it before
pub begin-stopped : (n : ℕ) (first : Picture) (before : List ℕ) (old new : Picture) → Rests before old → Since n first old → Since 0 old new → IsCut old.chart new.chart → (fault : BeginFault) → Begins (fresh old.chart.shape.shadows before) (Err fault) new.chart → Undone n first before (begin_stop fault) new
begin-stopped n first before old new rests since did cut BeginOff lost = record {
  cause = off-cause n first old new since did rests.on lost.off cut;
  words = lost.words.2 ∙ (begin-so before old rests).1 lost.words.0 lost.words.1;
  since = Since-more n first old new since did;
}
begin-stopped n first before old new rests since did cut BeginBusy (k, step, stands) = let d = (begin-so before old rests).0 Busy k step in let e = d.1 in cc

commit-so : (n : ℕ) (first : Picture) (before now : List ℕ) (t most last : ℕ) (old : Picture) (r : Running n first before now t most last old) → ((answer : Answer) (k : Array) → Step r.array (Commit t) answer k → (answer ≡ Done) × Closed now k) × ((k : Array) → Lost r.array (Commit t) k → (k.words ≡ before) ⊎ (k.words ≡ now))
commit-so n first before now t most last old r = commit-law before now t most r.array r.state

-- a commit leaves the words of the transaction at rest
pub commit-done : (n : ℕ) (first : Picture) (before now : List ℕ) (t most last : ℕ) (old new : Picture) (r : Running n first before now t most last old) → Since 0 old new → Steps r.array (Commit t) Done new.chart → Rests now new × Since n first new
commit-done n first before now t most last old new r did (k, step, stands) =
    (rests-closed now new k stands ((commit-so n first before now t most last old r).0 Done k step).1, Since-more n first old new r.since did)

either : (before now : List ℕ) (p : Picture) (k : Array) → durable p.chart ≡ k.words → (k.words ≡ before) ⊎ (k.words ≡ now) → (durable p.chart ≡ before) ⊎ (durable p.chart ≡ now)
either before now p k is (inl e) = inl (is ∙ e)
either before now p k is (inr e) = inr (is ∙ e)

-- or, where power ends it, these or those of before
pub commit-stopped : (n : ℕ) (first : Picture) (before now : List ℕ) (t most last : ℕ) (old new : Picture) (r : Running n first before now t most last old) → Since 0 old new → IsCut old.chart new.chart → (fault : EndFault) → Commits r.array t (Err fault) new.chart → IsCause (end_stop fault) first new × Stopped n first before now new
commit-stopped n first before now t most last old new r did cut EndOff lost = (
  off-cause n first old new r.since did r.stands.on lost.off cut,
  record { words = either before now new lost.words.0 lost.words.2 ((commit-so n first before now t most last old r).1 lost.words.0 lost.words.1); since = Since-more n first old new r.since did },
)
commit-stopped n first before now t most last old new r did cut EndClosed (k, step, stands) = let d = (commit-so n first before now t most last old r).0 ClosedAnswer k step in let e = d.0 in cc

-- ---- words in two's complement

below : (x : ℤ) → Small x → cast_unsigned w64 x < 2 ^ 64
below (pos n) small = let e = small.sfits in omega arith
below (negsuc n) small = omega arith

-- what `wrapping_add` gives, where nothing wraps
pub added : (n : ℕ) (balance x d : ℤ) → balance ≡ cast_signed w64 n → n ≡ as_word x → Small x → Small d → Small (x +ℤ d) → cast_unsigned w64 (cast_signed w64 ((cast_unsigned w64 balance + cast_unsigned w64 d) % 2 ^ 64)) ≡ as_word (x +ℤ d)
added n balance x d e is sx sd sum =
    ap (λ (b : ℤ). cast_unsigned w64 (cast_signed w64 ((cast_unsigned w64 b + cast_unsigned w64 d) % 2 ^ 64))) (e ∙ ap (cast_signed w64) (is ∙ as_word-is x) ∙ to_z-of_z w64 x sx)
    ∙ ap (cast_unsigned w64) (wrapping_add_onto w64 (cast_unsigned w64 x) d (below x sx) sd)
    ∙ ap (λ (y : ℤ). cast_unsigned w64 (int_wrap w64 (y +ℤ d))) (to_z-of_z w64 x sx)
    ∙ ap (cast_unsigned w64) (int_wrap_fits w64 (x +ℤ d) sum)
    ∙ sym (as_word-is (x +ℤ d))

-- ---- what comes after a call

pub put-ok : (n : ℕ) (first : Picture) (before now : List ℕ) (t more page : ℕ) (result : Result Unit Fault) (p : Picture) (u : Unit) → AfterPut n first before now t more page result p → result ≡ Ok u → Running n first before now t more page p
put-ok n first before now t more page result p u b is = subst (λ (r : Result Unit Fault). AfterPut n first before now t more page r p) is b

pub put-err : (n : ℕ) (first : Picture) (before now : List ℕ) (t more page : ℕ) (result : Result Unit Fault) (p : Picture) (fault : Fault) → AfterPut n first before now t more page result p → result ≡ Err fault → Undone n first before fault p
put-err n first before now t more page result p fault b is = subst (λ (r : Result Unit Fault). AfterPut n first before now t more page r p) is b

pub load-none : (n : ℕ) (first : Picture) (before now : List ℕ) (t most last a : ℕ) (result : Result ℕ Fault) (p : Picture) (fault : Fault) → AfterLoad n first before now t most last a result p → result ≡ Err fault → ⊥
load-none n first before now t most last a result p fault l is = subst (λ (r : Result ℕ Fault). AfterLoad n first before now t most last a r p) is l

pub load-ok : (n : ℕ) (first : Picture) (before now : List ℕ) (t most last a : ℕ) (result : Result ℕ Fault) (p : Picture) (w : ℕ) → AfterLoad n first before now t most last a result p → result ≡ Ok w → (w ≡ slice_index now a) × Running n first before now t most last p
load-ok n first before now t most last a result p w l is = subst (λ (r : Result ℕ Fault). AfterLoad n first before now t most last a r p) is l

pub begin-ok : (n : ℕ) (first : Picture) (before : List ℕ) (t : ℕ) (result : Result ℕ Fault) (p : Picture) → AfterBegin n first before result p → result ≡ Ok t → Running n first before before t 0 0 p
begin-ok n first before t result p b is = subst (λ (r : Result ℕ Fault). AfterBegin n first before r p) is b

pub begin-err : (n : ℕ) (first : Picture) (before : List ℕ) (result : Result ℕ Fault) (p : Picture) (fault : Fault) → AfterBegin n first before result p → result ≡ Err fault → Undone n first before fault p
begin-err n first before result p fault b is = subst (λ (r : Result ℕ Fault). AfterBegin n first before r p) is b

-- What happens between tries: ticks, restarts, and the word that tells whether a transfer is done.
use Rattle.std.proofs.Common.{◌≡◌, ◌⊎◌, inl, inr, ℕ, ◌<◌, ◌+◌, false, List, [], ◌∷◌, length, Result, Ok, Err, refl, sym, ◌∙◌, ap, subst, arith}
use Rattle.std.specs.Prelude.{◌++◌, slice_index, IsErr, IsErrAnd}
use Rattle.std.proofs.lemmas.List.{length_push}
use Rattle.envy_array.specs.Array.{Array, put_back, undone}
use Rattle.envy_array.specs.Step.{Tick, Done, Lost}
use Rattle.envy_base.specs.declared.shape.Shape.{Shape}
use Rattle.envy_soundness.specs.Same.{Counted, Kept}
use Rattle.envy_meaning.specs.Stands.{Stands, Steps, IsLost, Fails}
use Rattle.envy_soundness.specs.Words.{durable}
use Rattle.envy_map.specs.Fields.{Chart}
use Rattle.envy_memory.specs.Calls.{IsCut, HasFailed, fresh, lit}
use Rattle.envy_memory.specs.Picture.{Picture, counts_of}
use Rattle.envy_tpca.specs.declared.fault.DriveFault.{DriveFault}
use Rattle.envy_tpca.specs.declared.fault.DriveFault.TheVariants.{Dead, Bad as DriveBad}
use Rattle.envy_tpca.specs.declared.fault.Fault.TheVariants.{Off}
use Rattle.envy_tpca.specs.declared.places.Places.{Places}
use Rattle.envy_tpca.specs.declared.places.Spots.{Spots}
use Rattle.envy_tpca.specs.declared.transfer.Transfer.{Transfer}
use Rattle.envy_tpca.specs.Since.{Since}
use Rattle.envy_tpca.specs.Tpc.{TpcAt}
use Rattle.envy_tpca.specs.Trial.{InRange, IsTried, writes}
use Rattle.envy_tpca.specs.Trying.{Rests, Stopped, IsCause, IsEnd, Returns, AfterTransfer}
use Rattle.envy_tpca.proofs.Calling.{durable-rests, closed-rests}
use Rattle.envy_tpca.proofs.Counted.{counted}
use Rattle.envy_tpca.proofs.Since.{Since-more, Since-refl, since-lit, past-later}
use Rattle.envy_tpca.proofs.Trying.{Closed, undone-closed}

-- ---- causes, from an earlier moment on

-- how a later part of a run ends is how the run ends
pub cause-later : (n : ℕ) (first mid p : Picture) (fault : DriveFault) → Since n first mid → Since 0 mid p → IsEnd fault mid p → IsEnd fault first p
cause-later n first mid p Dead since did (off, lives, past) = (off, lives, past-later _ _ _ since.keeps.cuts past did.keeps.cuts)
cause-later n first mid p DriveBad since did (on, past) = (on, past-later _ _ _ since.keeps.bads past did.keeps.bads)

-- ticks after a transfer that is done
pub ticked : (n : ℕ) (first : Picture) (before now : List ℕ) (mid p : Picture) (result : Result Unit DriveFault) → Rests now mid → Since n first mid → AfterTransfer 0 mid (durable mid.chart) (durable mid.chart) result p → AfterTransfer n first before now result p
ticked n first before now mid p (Ok done) rests since (then_rests, did) =
    (subst (λ (ws : List ℕ). Rests ws p) (durable-rests now mid rests) then_rests, Since-more n first mid p since did)
ticked n first before now mid p (Err fault) rests since (end, stopped) =
    (cause-later n first mid p fault since stopped.since end, record { words = inr (at stopped.words ∙ durable-rests now mid rests); since = Since-more n first mid p since stopped.since })
  where
    at : (durable p.chart ≡ durable mid.chart) ⊎ (durable p.chart ≡ durable mid.chart) → durable p.chart ≡ durable mid.chart
    at (inl e) = e
    at (inr e) = e

-- ---- a restart

-- power is off, and a restart would find these words
pub record Waits (first p : Picture) : Type 0 where
  pub off : p.chart.on ≡ false
  pub words : durable p.chart ≡ durable first.chart
  pub since : Since 0 first p

-- power is off, and nothing happened yet
pub waits-first : (p : Picture) → p.chart.on ≡ false → Waits p p
waits-first p off = record { off = off; words = refl; since = Since-refl p }

-- a restart that leaves power off
pub waits-more : {E : Type 0} (first mid p : Picture) → Waits first mid → (E × (p ≡ mid)) ⊎ (Kept (lit mid.chart) p.chart × (p.chart.on ≡ false)) → counts_of p.parts ≡ counts_of mid.parts → Waits first p
waits-more first mid p waits (inl (never, same)) counts = subst (Waits first) (sym same) waits
waits-more first mid p waits (inr (kept, off)) counts = record { off = off; words = kept.durable ∙ waits.words; since = Since-more 0 first mid p waits.since (since-lit mid p kept counts) }

-- power that doesn't return is the end
pub dead-returns : {E : Type 0} (first mid p : Picture) → Waits first mid → (E × (p ≡ mid)) ⊎ (Kept (lit mid.chart) p.chart × (p.chart.on ≡ false)) → counts_of p.parts ≡ counts_of mid.parts → mid.chart.lives ≡ 0 → Returns first (Err Dead) p
dead-returns first mid p waits asked counts none =
    let w = waits-more first mid p waits asked counts in
    (w.off, lives asked, w.words, w.since)
  where
    lives : {E : Type 0} → (E × (p ≡ mid)) ⊎ (Kept (lit mid.chart) p.chart × (p.chart.on ≡ false)) → p.chart.lives ≡ 0
    lives (inl (never, same)) = ap (λ (x : Picture). x.chart.lives) same ∙ none
    lives (inr (kept, off)) = let e = Counted.lives kept.counted in omega arith

-- each restart takes a life
pub lives-fewer : {E : Type 0} (mid p : Picture) → (E × (p ≡ mid)) ⊎ (Kept (lit mid.chart) p.chart × (p.chart.on ≡ false)) → (E → ⊥) → 0 < mid.chart.lives → p.chart.lives < mid.chart.lives
lives-fewer mid p (inl (e, same)) never some = absurd (never e)
lives-fewer mid p (inr (kept, off)) never some = let e = Counted.lives kept.counted in omega arith

-- power that returns finds the words
pub back-returns : (first mid p : Picture) → Waits first mid → Kept (lit mid.chart) p.chart → Stands p.chart (fresh mid.chart.shape.shadows (durable mid.chart)) → counts_of p.parts ≡ counts_of mid.parts → 0 < mid.chart.lives → Returns first (Ok tt) p
back-returns first mid p waits kept stands counts some =
    let did = since-lit mid p kept counts in
    let fewer : p.chart.lives < mid.chart.lives = let e = Counted.lives kept.counted in omega arith in
    let low = waits.since.keeps.lives in
    let shape = ap (λ (sh : Shape). sh.shadows) kept.shape in (
      subst (λ (ws : List ℕ). Stands p.chart (fresh p.chart.shape.shadows ws)) waits.words (subst (λ (k : ℕ). Stands p.chart (fresh k (durable mid.chart))) (sym shape) stands),
      Since-more 0 first mid p waits.since did,
      omega arith,
    )

-- ---- ticks

tick-words : (words : List ℕ) (p : Picture) → Rests words p → (k : Array) → Lost (fresh p.chart.shape.shadows words) Tick k → k.words ≡ words
tick-words words p rests k (n, (answer, step, accepted), inl same) = ap (λ (a : Array). a.words) same ∙ undone-closed (fresh p.chart.shape.shadows words) (Closed.slots (closed-rests words p rests))
tick-words words p rests k (n, (Done, step, accepted), inr same) = ap (λ (a : Array). a.words) same ∙ ap undone step ∙ undone-closed (fresh p.chart.shape.shadows words) (Closed.slots (closed-rests words p rests))
tick-words words p rests k (n, (answer, step, accepted), inr same) = absurd step

-- a tick that is done keeps the words
pub tick-done : (first mid p : Picture) → Rests (durable first.chart) mid → Since 0 first mid → Since 0 mid p → Steps (fresh mid.chart.shape.shadows (durable first.chart)) Tick Done p.chart → Rests (durable first.chart) p × Since 0 first p
tick-done first mid p rests since did (n, step, stands) =
    (subst (λ (k : ℕ). Stands p.chart (fresh k (durable first.chart))) (sym (ap (λ (sh : Shape). sh.shadows) did.keeps.shape)) (subst (Stands p.chart) step stands), Since-more 0 first mid p since did)

-- a background step whose operation fails
pub tick-bad : (first mid p : Picture) → Rests (durable first.chart) mid → Since 0 first mid → Since 0 mid p → HasFailed mid.chart p.chart → Fails (fresh mid.chart.shape.shadows (durable first.chart)) Tick p.chart → AfterTransfer 0 first (durable first.chart) (durable first.chart) (Err DriveBad) p
tick-bad first mid p rests since did failed (n, accepts, stands) = (
  (stands.on, past-later _ _ _ since.keeps.bads failed did.keeps.bads),
  record { words = inl (stands.holds.durable ∙ undone-closed (fresh mid.chart.shape.shadows (durable first.chart)) (Closed.slots (closed-rests (durable first.chart) mid rests))); since = Since-more 0 first mid p since did },
)

-- one in which power fails, and the restart behind it
pub tick-off : (first mid off p : Picture) (result : Result Unit DriveFault) → Rests (durable first.chart) mid → Since 0 first mid → Since 0 mid off → IsCut mid.chart off.chart → IsLost (fresh mid.chart.shape.shadows (durable first.chart)) Tick off.chart → Returns off result p → AfterTransfer 0 first (durable first.chart) (durable first.chart) result p
tick-off first mid off p (Ok done) rests since did cut lost (then_rests, then_did, fewer) =
    let words : durable off.chart ≡ durable first.chart = lost.words.2 ∙ tick-words (durable first.chart) mid rests lost.words.0 lost.words.1 in
    (subst (λ (ws : List ℕ). Rests ws p) words then_rests, Since-more 0 first off p (Since-more 0 first mid off since did) then_did)
tick-off first mid off p (Err Dead) rests since did cut lost (dark, none, same, then_did) =
    let words : durable off.chart ≡ durable first.chart = lost.words.2 ∙ tick-words (durable first.chart) mid rests lost.words.0 lost.words.1 in
    let before = Since-more 0 first mid off since did in
    let past = past-later _ _ _ since.keeps.cuts (cut rests.on lost.off) did.keeps.cuts in
    ((dark, none, λ low. let e = past low in let f = then_did.keeps.cuts in omega arith), record { words = inl (same ∙ words); since = Since-more 0 first off p before then_did })
tick-off first mid off p (Err DriveBad) rests since did cut lost never = absurd never

-- ---- one transfer

-- the words after a transfer are those of one transfer more
pub counted-tried : (shadows : ℕ) (l : Places) (size : ℕ) (ts : List Transfer) (before : List ℕ) (i : ℕ) (t : Transfer) (spots : Spots) → IsTried shadows l size ts before i t spots → TpcAt l size (ts ++ (t ∷ [])) (put_back (writes l ts t) before)
counted-tried shadows l size ts before i t spots tried = counted l size ts t before tried.tpc (subst (λ (k : ℕ). InRange l size k t) (sym tried.count) tried.range)

-- word 0 tells whether the transfer is done
pub told : (shadows : ℕ) (l : Places) (size : ℕ) (ts : List Transfer) (before : List ℕ) (i : ℕ) (t : Transfer) (spots : Spots) → IsTried shadows l size ts before i t spots
    → (words : List ℕ) → (words ≡ before) ⊎ (words ≡ put_back (writes l ts t) before) → (w : ℕ) → w ≡ slice_index words 0
    → (w ≡ i + 1 → words ≡ put_back (writes l ts t) before) × ((w ≡ i + 1 → ⊥) → words ≡ before)
told shadows l size ts before i t spots tried words (inl same) w is =
    let c = tried.tpc.count in let k = tried.count in let e = ap (λ (ws : List ℕ). slice_index ws 0) same in
    ((λ more. absurd (omega arith)), λ less. same)
told shadows l size ts before i t spots tried words (inr same) w is =
    let c = (counted-tried shadows l size ts before i t spots tried).count in let k = tried.count in let e = ap (λ (ws : List ℕ). slice_index ws 0) same in let f = length_push ts t in
    ((λ more. same), λ less. absurd (less (omega arith)))

-- there is a word 0
pub has-count : (shadows : ℕ) (l : Places) (size : ℕ) (ts : List Transfer) (before : List ℕ) (i : ℕ) (t : Transfer) (spots : Spots) → IsTried shadows l size ts before i t spots
    → (words : List ℕ) → (words ≡ before) ⊎ (words ≡ put_back (writes l ts t) before) → 0 < length words
has-count shadows l size ts before i t spots tried words (inl same) =
    let long = tried.tpc.long in let room = tried.range.room in let e = ap (λ (ws : List ℕ). length ws) same in omega arith
has-count shadows l size ts before i t spots tried words (inr same) =
    let long = (counted-tried shadows l size ts before i t spots tried).long in let room = tried.range.room in let e = ap (λ (ws : List ℕ). length ws) same in omega arith

-- the same words, and the same board
pub rests-at : (old new : Picture) (words then_words : List ℕ) → Rests words old → new.chart ≡ old.chart → words ≡ then_words → Rests then_words new
rests-at old new words then_words rests same is =
    subst (λ (ws : List ℕ). Rests ws new) is (subst (λ (ch : Chart). Stands ch (fresh ch.shape.shadows words)) (sym same) rests)

-- power doesn't return
pub dead-ends : (n : ℕ) (first : Picture) (before now : List ℕ) (mid p : Picture) (result back : Result Unit DriveFault) (fault : DriveFault) → IsCause Off first mid → Stopped n first before now mid → Returns mid back p → back ≡ Err fault → IsErr result → IsErrAnd result (λ e. e ≡ fault) → AfterTransfer n first before now result p
dead-ends n first before now mid p (Ok done) back fault cause stopped returns was is same = cc
dead-ends n first before now mid p (Err e) back fault cause stopped returns was is same = at fault same (subst (λ (r : Result Unit DriveFault). Returns mid r p) was returns)
  where
    words : (durable p.chart ≡ durable mid.chart) → (durable mid.chart ≡ before) ⊎ (durable mid.chart ≡ now) → (durable p.chart ≡ before) ⊎ (durable p.chart ≡ now)
    words w (inl e) = inl (w ∙ e)
    words w (inr e) = inr (w ∙ e)

    at : (f : DriveFault) → e ≡ f → Returns mid (Err f) p → IsEnd e first p × Stopped n first before now p
    at Dead is (off, none, w, did) = subst (λ (k : DriveFault). IsEnd k first p × Stopped n first before now p) (sym is)
        ((off, none, λ low. let d = cause.1 low in let k = did.keeps.cuts in omega arith), record { words = words w stopped.words; since = Since-more n first mid p stopped.since did })
    at DriveBad is never = absurd never

-- what a restart that succeeds says
pub returns-ok : (old p : Picture) (result : Result Unit DriveFault) (u : Unit) → Returns old result p → result ≡ Ok u → Rests (durable old.chart) p × Since 0 old p × (p.chart.lives < old.chart.lives)
returns-ok old p result u returns was = subst (λ (r : Result Unit DriveFault). Returns old r p) was returns

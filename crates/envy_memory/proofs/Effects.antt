-- What the accepted stores and puts say of flushes, of the job and of the stages.
use Rattle.std.proofs.Common.{◌≡◌, ◌≢◌, ◌⊎◌, inl, inr, Bool, true, false, ℕ, [], length, Option, None, Some, refl, sym, ◌∙◌, ap, arith}
use Rattle.std.proofs.lemmas.Bool.{eq-eqb, ne_eqb}
use Rattle.envy_base.specs.Counting.{up}
use Rattle.envy_base.specs.declared.fields.Place.{Place}
use Rattle.envy_base.specs.declared.fields.Place.TheVariants.{Absent, Row, Frame}
use Rattle.envy_frames.specs.Agreement.{IsElsewhere}
use Rattle.envy_map.specs.Fields.{Chart, place}
use Rattle.envy_engine.specs.Agreement.{Fits}
use Rattle.envy_engine.specs.Flushing.{MakesRoom, FlushesOldest, GetsRow, Ends}
use Rattle.envy_engine.specs.Putting.{PutsBy, ShadesFramed, ShadesElsewhere}
use Rattle.envy_engine.specs.Storing.{StoresBy, StaysFramed, Fetches, Brings, Rows}
use Rattle.envy_engine.specs.declared.parts.Parts.{Parts}
use Rattle.envy_engine.proofs.FlushLemmas.{Ends-after}
use Rattle.envy_memory.specs.Effects.{is_frame, flushes_after}
use Rattle.envy_memory.specs.Picture.{Picture}

-- the same where the entries of the cache alone were other before
Ends-looked : (old : Chart) (was looked : Parts) (new : Chart) (now : Parts) → looked.stages ≡ was.stages → Ends old looked new now → Ends old was new now
Ends-looked old was looked new now same (job, stages) = (job, at stages)
  where
    at : (now.stages ≡ looked.stages) ⊎ (now.stages ≡ []) → (now.stages ≡ was.stages) ⊎ (now.stages ≡ [])
    at (inl e) = inl (e ∙ same)
    at (inr e) = inr e

Ends-fetched : (p : ℕ) (old : Chart) (was : Parts) (new : Chart) (now : Parts) → Fetches p old was new now → Ends old was new now
Ends-fetched p old was new now f = at f.room
  where
    looked : f.looked.stages ≡ was.stages
    looked = ap (λ (z : Parts). z.stages) f.after_look

    at : MakesRoom old f.looked f.mid f.between → Ends old was new now
    at (inl (lt, same, none)) = (inl (Rows.job (Brings.rows f.brings) ∙ ap (λ (z : Chart). z.fields.job) same), inl (ap (λ (z : Parts). z.stages) (Brings.parts f.brings) ∙ ap (λ (z : Parts). z.stages) none ∙ looked))
    at (inr (full, flush)) = Ends-looked old was f.looked new now looked (Ends-after old f.looked f.mid f.between new now (Rows.job (Brings.rows f.brings)) (ap (λ (z : Parts). z.stages) (Brings.parts f.brings)) (GetsRow.ends (FlushesOldest.gets flush)))

pub Ends-stored : (p : ℕ) (old : Chart) (was : Parts) (new : Chart) (now : Parts) → StoresBy p old was new now → Ends old was new now
Ends-stored p old was new now (inl s) = (inl (Rows.job s.rows), inl (ap (λ (z : Parts). z.stages) s.parts))
Ends-stored p old was new now (inr f) = Ends-fetched p old was new now f

pub Ends-put : (t p : ℕ) (old : Chart) (was : Parts) (new : Chart) (now : Parts) → PutsBy t p old was new now → Ends old was new now
Ends-put t p old was new now (inl s) = Ends-looked old was s.looked new now (ap (λ (z : Parts). z.stages) s.after_look) (GetsRow.ends s.gets)
Ends-put t p old was new now (inr e) = Ends-fetched p old was new now e.fetches

elsewhere-frame : (x : Option Place) → IsElsewhere x → is_frame x ≡ false
elsewhere-frame None e = refl
elsewhere-frame (Some Absent) e = refl
elsewhere-frame (Some (Row q)) e = refl
elsewhere-frame (Some (Frame k)) e = absurd (e k refl)

-- the flushes of a page that was elsewhere
flushes-fetched : (first : Bool) (p : ℕ) (old : Picture) (new : Chart) (now : Parts) → Fits old.chart.shape old.parts → Fetches p old.chart old.parts new now → now.flushes ≡ flushes_after first p old
flushes-fetched first p old new now fits f = at f.room
  where
    looked : f.looked.flushes ≡ old.parts.flushes
    looked = ap (λ (z : Parts). z.flushes) f.after_look

    held : f.looked.frames.held ≡ old.parts.frames.held
    held = ap (λ (z : Parts). z.frames.held) f.after_look

    count : f.looked.frames.count ≡ old.chart.shape.frames
    count = ap (λ (z : Parts). z.frames.count) f.after_look ∙ fits.frames

    brought : now.flushes ≡ f.between.flushes
    brought = ap (λ (z : Parts). z.flushes) (Brings.parts f.brings)

    long : length f.looked.frames.held ≡ length old.parts.frames.held
    long = ap (λ (xs : _). length xs) held

    at : MakesRoom old.chart f.looked f.mid f.between → now.flushes ≡ flushes_after first p old
    at (inl (lt, same, none)) =
        let few : length old.parts.frames.held ≢ old.chart.shape.frames = λ is. let a = long in let b = count in omega arith in
        rw (elsewhere-frame (place old.chart.fields p) f.elsewhere, ne_eqb (length old.parts.frames.held) old.chart.shape.frames few) (brought ∙ ap (λ (z : Parts). z.flushes) none ∙ looked)
    at (inr (full, flush)) =
        let all : length old.parts.frames.held ≡ old.chart.shape.frames = sym long ∙ full ∙ count in
        rw (elsewhere-frame (place old.chart.fields p) f.elsewhere, eq-eqb (length old.parts.frames.held) old.chart.shape.frames all) (brought ∙ FlushesOldest.flushes flush ∙ ap up looked)

pub flushes-stored : (p : ℕ) (old : Picture) (new : Chart) (now : Parts) → Fits old.chart.shape old.parts → StoresBy p old.chart old.parts new now → now.flushes ≡ flushes_after false p old
flushes-stored p old new now fits (inl s) = rw (StaysFramed.here s) (ap (λ (z : Parts). z.flushes) (StaysFramed.parts s))
flushes-stored p old new now fits (inr f) = flushes-fetched false p old new now fits f

pub flushes-put : (t p : ℕ) (old : Picture) (new : Chart) (now : Parts) → Fits old.chart.shape old.parts → PutsBy t p old.chart old.parts new now → now.flushes ≡ flushes_after true p old
flushes-put t p old new now fits (inl s) = rw (ShadesFramed.here s) (ShadesFramed.flushes s)
flushes-put t p old new now fits (inr e) = flushes-fetched true p old new now fits (ShadesElsewhere.fetches e)

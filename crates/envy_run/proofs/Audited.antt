-- What is told of bytes that begin with an image is done to its end, where nothing fails.
use Rattle.std.proofs.Common.{◌≡◌, ◌*◌, ◌≤◌, inl, inr, ℕ, List, refl, subst, sym, ◌∙◌, arith}
use Rattle.envy_base.specs.declared.shape.Shape.{Shape}
use Rattle.envy_image.specs.Image.{head_of}
use Rattle.envy_image.proofs.Backwards.{fit-numbers}
use Rattle.envy_map.specs.Fields.{Chart}
use Rattle.envy_serve.specs.Streams.{Streams}
use Rattle.envy_serve.proofs.GoodTraces.{still-low, still-written}
use Rattle.envy_audit.specs.declared.verdict.Verdict.{Verdict}
use Rattle.envy_run.specs.Audits.{Judged, Refused, TooLarge, Judging, IsJudged, Tells, judging}
use Rattle.envy_run.specs.Complete.{HoldsImage, IsSmall, NeverFailed, IsComplete}
use Rattle.envy_run.specs.Loading.{HasFailed, IsTooLarge, RefusesImage, TookOnly}
use Rattle.envy_run.specs.Meaning.{Does}
use Rattle.envy_run.specs.Outcome.{Outcome, EndsBy}
use Rattle.envy_run.specs.Writing.{WritesTrace}
use Rattle.envy_run.specs.declared.endings.Ending.TheVariants.{NotInstalled, OutOfMemory}
use Rattle.envy_run.specs.declared.image_input.Refusal.{Refusal}
use Rattle.envy_run.specs.declared.image_input.Refusal.TheVariants.{Failed, Memory, Early, Unmarked, Misshapen, Upset}
use Rattle.envy_run.proofs.Checked.{shape-is}
use Rattle.envy_run.proofs.Imaged.{never-early, never-unmarked, never-misshapen, shape-told}

-- an image that is there isn't refused
pub image-taken : (refusal : Refusal) (bytes : List ℕ) (o : Outcome) (io : Streams) → HoldsImage io → (EndsBy NotInstalled o → NeverFailed o) → RefusesImage refusal bytes o io → EndsBy OutOfMemory o
image-taken Failed bytes o io holds calm r = absurd (still-low io.from.faults io.feed.faults holds.reads r.cause.0)
image-taken Memory bytes o io holds calm r = r.ending
image-taken Early bytes o io holds calm r =
    let (dry, stops) = r.cause in
    absurd (never-early holds.image holds.rest holds.whole bytes io.feed (sym holds.told ∙ TookOnly.source r.took) dry o.board stops)
image-taken Unmarked bytes o io holds calm r =
    let (none, eight, other) = r.cause in
    absurd (never-unmarked holds.image holds.rest holds.whole bytes io.feed (sym holds.told ∙ TookOnly.source r.took) eight other)
image-taken Misshapen bytes o io holds calm r =
    let (none, fault, misshapen) = r.cause in
    absurd (never-misshapen holds.image holds.rest holds.whole bytes io.feed (sym holds.told ∙ TookOnly.source r.took) fault misshapen)
image-taken Upset bytes o io holds calm r =
    let (now, is, reach, either) = r.cause in
    absurd (at now (calm r.ending now is) either)
  where
    at : (now : Chart) → (now.cuts ≡ 0) × (now.bads ≡ 0) → HasFailed now → ⊥
    at now (cuts, bads) (inl (off, some, none)) = omega arith
    at now (cuts, bads) (inr (on, none, some)) = omega arith

-- a board that isn't too large is not told as one
pub never-large : (most : ℕ) (sh : Shape) (o : Outcome) (io : Streams) (holds : HoldsImage io) → IsSmall most holds → IsTooLarge most sh o io → ⊥
never-large most sh o io holds small large =
    let one = shape-told holds.image holds.rest holds.whole (head_of sh) io.feed (sym holds.told ∙ TookOnly.source large.took) sh refl (fit-numbers sh (shape-is sh large.shape)) in
    let few = subst (λ (x : Shape). x.segments * x.rows ≤ most) one small in
    let many = large.rows in
    omega arith

pub completes-judging : (most : ℕ) (Says : Verdict → Chart → List ℕ → Type 0) (o : Outcome) (io : Streams) → Does (judging most Says) o io → (holds : HoldsImage io) → IsSmall most holds → NeverFailed o → IsComplete o
completes-judging most Says o io d holds small calm = at d.account d.printed
  where
    told : (text : List ℕ) → WritesTrace text o io.to io.sink → IsComplete o
    told text (inl (done, written, flushed)) = inl done
    told text (inr (failed, front)) = absurd (still-written text io.to io.to io.sink holds.writes (omega arith) front)

    at : (account : Judging) → Tells most Says account o io → IsComplete o
    at (Judged found verdict text) judged = told text (IsJudged.writes judged)
    at (Refused refusal bytes) (refuses, within) = inr (image-taken refusal bytes o io holds (λ upset. calm) refuses)
    at (TooLarge sh) large = absurd (never-large most sh o io holds small large)

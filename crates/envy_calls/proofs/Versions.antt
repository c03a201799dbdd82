-- Which version the map of a formatted board has, and when a board is one in a setup's shape.
use Rattle.std.proofs.Common.{◌≡◌, ◌⊎◌, inl, inr, ◌∙◌, ℕ, Bool, true, false, true≢false, ◌==◌, ◌&&◌, not, List, min, refl, sym, ap, arith}
use Rattle.std.specs.Prelude.{if◌then◌else◌}
use Rattle.std.proofs.lemmas.Bool.{and_parts, eqb-true}
use Rattle.envy_base.specs.declared.shape.Shape.{Shape}
use Rattle.envy_base.specs.Shape.{version_of}
use Rattle.envy_base.proofs.Versions.{version-known, plain-version}
use Rattle.envy_map.specs.Fields.{Fields, Chart, IsFormatted, IsVersion, narrowed, shape_in, shape_of}
use Rattle.envy_soundness.specs.Sound.{IsSound}
use Rattle.envy_policy.specs.declared.setup.Setup.{Setup as OfSetup}
use Rattle.envy_calls.specs.Making.{IsAlike, IsWhole}

low : (w : ℕ) → narrowed w ≡ 0 → w ≡ 0
low w none = omega (arith, none)

third : (sizes : List ℕ) (reserves sums : ℕ) → ((reserves ≡ 0) × (sums ≡ 0) → ⊥) → 3 ≡ version_of (shape_in 3 sizes reserves sums)
third sizes reserves sums some =
    let sh = shape_in 3 sizes reserves sums in
    elim (version-known sh) [ inl two ↦ absurd (let none = plain-version sh two in some (low reserves none.0, low sums none.1)) | inr three ↦ sym three ]

second : (sizes : List ℕ) (reserves sums : ℕ) → 2 ≡ version_of (shape_in 2 sizes reserves sums)
unfolding version_of
second sizes reserves sums = refl

kept-version : (version : ℕ) (sizes : List ℕ) (reserves sums : ℕ) → IsVersion version reserves sums → (version ≡ 1 → ⊥) → version ≡ version_of (shape_in version sizes reserves sums)
kept-version version sizes reserves sums (inl one) other = absurd (other one)
kept-version version sizes reserves sums (inr (inl two)) other = rw two (second sizes reserves sums)
kept-version version sizes reserves sums (inr (inr (three, some))) other = rw three (third sizes reserves sums some)

pub alike : (c : Chart) (setup : OfSetup) → IsFormatted c.fields → (c.fields.version ≡ 1 → ⊥) → shape_of c.fields ≡ setup.shape → IsAlike c setup
alike c setup formatted other same = record {
  magic = formatted.0;
  version = kept-version c.fields.version c.fields.sizes c.fields.reserves c.fields.sums formatted.1 other ∙ ap (λ (sh : Shape). version_of sh) same;
  shape = same;
}

pub whole : (c : Chart) (setup : OfSetup) → IsAlike c setup → IsSound c → IsWhole c setup
whole c setup is sound = record { magic = is.magic; version = is.version; shape = is.shape; sound = sound }

-- ---- shapes that compare as equal

abbrev of_sizes : ℕ → ℕ → ℕ → ℕ → ℕ → ℕ → ℕ → ℕ → Shape
of_sizes segments rows pages shadows frames entries reserves sums = record { segments = segments; rows = rows; pages = pages; shadows = shadows; frames = frames; entries = entries; reserves = reserves; sums = sums }

holds : (x : Bool) → false ≡ not x → x ≡ true
holds true e = refl
holds false e = absurd (true≢false (sym e))

pub same-shape : (a b : Shape) → false ≡ not ((a.segments == b.segments) && ((a.rows == b.rows) && ((a.pages == b.pages) && ((a.shadows == b.shadows) && ((a.frames == b.frames) && ((a.entries == b.entries) && ((a.reserves == b.reserves) && (a.sums == b.sums)))))))) → a ≡ b
same-shape a b equal =
    let p0 = and_parts _ _ (holds _ equal) in
    let p1 = and_parts _ _ p0.1 in
    let p2 = and_parts _ _ p1.1 in
    let p3 = and_parts _ _ p2.1 in
    let p4 = and_parts _ _ p3.1 in
    let p5 = and_parts _ _ p4.1 in
    let p6 = and_parts _ _ p5.1 in
    ap (λ (n : ℕ). of_sizes n a.rows a.pages a.shadows a.frames a.entries a.reserves a.sums) (eqb-true _ _ p0.0)
    ∙ ap (λ (n : ℕ). of_sizes b.segments n a.pages a.shadows a.frames a.entries a.reserves a.sums) (eqb-true _ _ p1.0)
    ∙ ap (λ (n : ℕ). of_sizes b.segments b.rows n a.shadows a.frames a.entries a.reserves a.sums) (eqb-true _ _ p2.0)
    ∙ ap (λ (n : ℕ). of_sizes b.segments b.rows b.pages n a.frames a.entries a.reserves a.sums) (eqb-true _ _ p3.0)
    ∙ ap (λ (n : ℕ). of_sizes b.segments b.rows b.pages b.shadows n a.entries a.reserves a.sums) (eqb-true _ _ p4.0)
    ∙ ap (λ (n : ℕ). of_sizes b.segments b.rows b.pages b.shadows b.frames n a.reserves a.sums) (eqb-true _ _ p5.0)
    ∙ ap (λ (n : ℕ). of_sizes b.segments b.rows b.pages b.shadows b.frames b.entries n a.sums) (eqb-true _ _ p6.0)
    ∙ ap (λ (n : ℕ). of_sizes b.segments b.rows b.pages b.shadows b.frames b.entries b.reserves n) (eqb-true _ _ p6.1)

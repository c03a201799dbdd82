-- Pages stay in their frames.
use Rattle.std.proofs.Common.{◌≡◌, ◌≢◌, ◌⊎◌, inl, inr, ℕ, ◌<◌, ◌≤◌, List, length, get_or, set, Option, None, Some, sym, ◌∙◌, ap}
use Rattle.std.proofs.lemmas.Bool.{cases_eq, cases_lt}
use Rattle.std.proofs.lemmas.List.{get_or-set_same, get_or-set_other, set_past}
use Rattle.envy_base.specs.declared.fields.Place.{Place}
use Rattle.envy_base.specs.declared.fields.Place.TheVariants.{Frame}
use Rattle.envy_soundness.specs.Frames.{FramesStay}

pub FramesStay-refl : (places : List (Option Place)) → FramesStay places places
FramesStay-refl places p k = (λ is. is, λ is. is)

pub FramesStay-trans : (a b c : List (Option Place)) → FramesStay a b → FramesStay b c → FramesStay a c
FramesStay-trans a b c x y p k = (λ is. (x p k).0 ((y p k).0 is), λ is. (y p k).1 ((x p k).1 is))

-- a page outside frames goes to a place that is none
pub FramesStay-placed : (places : List (Option Place)) (p : ℕ) (x : Option Place) → ((k : ℕ) → get_or places p None ≢ Some (Frame k)) → ((k : ℕ) → x ≢ Some (Frame k)) → FramesStay places (set places p x)
FramesStay-placed places p x before after r k = at (cases_eq r p)
  where
    there : (p < length places) ⊎ (length places ≤ p) → get_or (set places p x) p None ≡ Some (Frame k) → ⊥
    there (inl lt) is = after k (sym (get_or-set_same places p x None lt) ∙ is)
    there (inr le) is = before k (sym (ap (λ (xs : List (Option Place)). get_or xs p None) (set_past places p x le)) ∙ is)

    at : (r ≡ p) ⊎ (r ≡ p → ⊥) → (get_or (set places p x) r None ≡ Some (Frame k) → get_or places r None ≡ Some (Frame k)) × (get_or places r None ≡ Some (Frame k) → get_or (set places p x) r None ≡ Some (Frame k))
    at (inl same) = (
      λ is. absurd (there (cases_lt p (length places)) (ap (λ (n : ℕ). get_or (set places p x) n None) (sym same) ∙ is)),
      λ is. absurd (before k (ap (λ (n : ℕ). get_or places n None) (sym same) ∙ is)),
    )
    at (inr other) = let e = get_or-set_other places p r x None other in (λ is. sym e ∙ is, λ is. e ∙ is)

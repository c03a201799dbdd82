-- Segments that are erased one after another.
use Rattle.std.proofs.Common.{◌≡◌, ◌⊎◌, inl, inr, ℕ, ◌+◌, ◌/◌, ◌<◌, [], length, get_or, set, refl, sym, ◌∙◌, ap, subst, arith}
use Rattle.std.specs.Prelude.{Ok}
use Rattle.std.proofs.lemmas.Bool.{cases_eq}
use Rattle.std.proofs.lemmas.List.{get_or-set_same, get_or-set_other, length-set}
use Rattle.envy_base.specs.Counting.{up}
use Rattle.envy_base.specs.State.{State, Only, Erases, with_segment, IsOnes, ones}
use Rattle.envy_base.specs.declared.shape.Shape.{Shape}
use Rattle.envy_image.specs.Installing.{Goes, Blanked}

-- blanking segments keeps power on and the sizes
pub blanked-goes : (n : ℕ) (old new : State) → Blanked n old new → Goes old new
blanked-goes n old new b = subst (λ (s : State). Goes old s) (sym b.same) (record { on = b.on; same = refl })

-- one segment more is erased
pub blanked-more : (n : ℕ) (old mid new : State) → n < length old.erases → Blanked n old mid → Erases mid n (Ok tt) new → Blanked (n + 1) old new
blanked-more n old mid new lt b (on, rows, erased, is) =
    subst (λ (s : State). Blanked (n + 1) old s) (sym (is ∙ ap (λ (s : State). with_segment s n rows) b.same)) (record {
      on = b.on;
      same = refl;
      long = Only.long only ∙ b.long;
      blank = λ q within below. at q within below (cases_eq (q / old.shape.rows) n);
      segments = length-set mid.erases n _ ∙ b.segments;
      once = λ e below. once-at e below (cases_eq e n);
      others = λ e le. get_or-set_other mid.erases n e _ 0 (omega arith) ∙ b.others e (omega arith);
    })
  where
    only : Only old.shape.rows n IsOnes mid.flash rows
    only = subst (λ (sh : Shape). Only sh.rows n IsOnes mid.flash rows) (ap (λ (s : State). s.shape) b.same) erased

    at : (q : ℕ) → q < length old.flash → q / old.shape.rows < n + 1 → (q / old.shape.rows ≡ n) ⊎ (q / old.shape.rows ≡ n → ⊥) → get_or rows q [] ≡ ones
    at q within below (inl here) = let long = b.long in Only.inside only q (omega arith) here
    at q within below (inr other) = Only.others only q other ∙ b.blank q within (omega arith)

    once-at : (e : ℕ) → e < n + 1 → (e ≡ n) ⊎ (e ≡ n → ⊥) → get_or (set mid.erases n (up (get_or mid.erases n 0))) e 0 ≡ up (get_or old.erases e 0)
    once-at e below (inl here) =
        let long = b.segments in
        ap (λ (i : ℕ). get_or (set mid.erases n (up (get_or mid.erases n 0))) i 0) here ∙ get_or-set_same mid.erases n (up (get_or mid.erases n 0)) 0 (omega arith) ∙ ap up (b.others n (omega arith)) ∙ ap (λ (i : ℕ). up (get_or old.erases i 0)) (sym here)
    once-at e below (inr other) = get_or-set_other mid.erases n e (up (get_or mid.erases n 0)) 0 other ∙ b.once e (omega arith)

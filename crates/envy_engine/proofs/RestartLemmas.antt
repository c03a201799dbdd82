-- Parts that are read anew agree with a settled board, which stands for what power left.
use Rattle.std.proofs.Common.{◌≡◌, ◌≢◌, ◌⊎◌, inl, inr, ℕ, ◌<◌, ◌≤◌, Option, None, Some, sym, ◌∙◌, ap}
use Rattle.std.proofs.lemmas.Bool.{cases_lt}
use Rattle.std.proofs.lemmas.List.{get_or_past}
use Rattle.envy_base.specs.declared.fields.Job.{Job}
use Rattle.envy_base.specs.declared.fields.Job.TheVariants.{Idle, Copy, Switch, Erase}
use Rattle.envy_base.specs.declared.fields.Undo.{Undo}
use Rattle.envy_base.specs.declared.fields.Undo.TheVariants.{Clear, Shadow}
use Rattle.envy_map.specs.Fields.{Chart, place}
use Rattle.envy_soundness.specs.Sound.{Sound, Slots, IsSound}
use Rattle.envy_soundness.specs.Words.{live, durable, live_word, durable_word, word_at, kept_by}
use Rattle.envy_soundness.proofs.WordLists.{words-within}
use Rattle.envy_soundness.specs.Naming.{AreParted}
use Rattle.envy_reloc.specs.Plan.{Plan, IsPlanOf}
use Rattle.envy_engine.specs.Restarts.{IsSettled}

-- neither a copy nor a switch
not_copy : (job : Option Job) (v : ℕ) → (job ≡ Some Idle) ⊎ (job ≡ Some Erase) → job ≢ Some (Copy v)
not_copy job v (inl is) e = let clash : Some Idle ≡ Some (Copy v) = sym is ∙ e in cc
not_copy job v (inr is) e = let clash : Some Erase ≡ Some (Copy v) = sym is ∙ e in cc

not_switch : (job : Option Job) (v : ℕ) → (job ≡ Some Idle) ⊎ (job ≡ Some Erase) → job ≢ Some (Switch v)
not_switch job v (inl is) e = let clash : Some Idle ≡ Some (Switch v) = sym is ∙ e in cc
not_switch job v (inr is) e = let clash : Some Erase ≡ Some (Switch v) = sym is ∙ e in cc

pub IsPlanOf-settled : (c : Chart) (t : Plan) → IsSettled c → IsPlanOf c.shape c.fields c.flash t
IsPlanOf-settled c t s = record {
  prepared = record {
    moves = λ v e. absurd (not_copy c.fields.job v s.job e);
    aside = λ v first last e some. absurd (not_copy c.fields.job v s.job e);
    copies = λ v x e spare. absurd (not_copy c.fields.job v s.job e);
  };
  marked = record {
    kept = λ v x p q e spare names own less. absurd (not_copy c.fields.job v s.job e);
    copied = λ v x i e spare lt. absurd (not_copy c.fields.job v s.job e);
  };
  switched = record {
    placed = λ v e. absurd (not_switch c.fields.job v s.job e);
    clear = λ v p q e names. absurd (not_switch c.fields.job v s.job e);
  };
}

pub AreParted-settled : (c : Chart) → IsSound c → IsSettled c → AreParted c.fields.slots c.fields.undos c.fields.places
AreParted-settled c sound s p t q shadow active row = at (cases_lt p c.shape.pages)
  where
    at : (p < c.shape.pages) ⊎ (c.shape.pages ≤ p) → ⊥
    at (inl lt) = let clash : Some Clear ≡ Some (Shadow t q) = sym (s.undos p lt) ∙ shadow in cc
    at (inr past) = let none : None ≡ Some (Shadow t q) = sym (get_or_past c.fields.undos p None (rw (Slots.undos_long (Sound.slots sound)) past)) ∙ shadow in cc

-- loads read what a restart leaves
pub live-settled : (c : Chart) → IsSettled c → live c ≡ durable c
live-settled c s = words-within c.shape.pages (durable_word c.fields c.flash) (live_word c.fields c.flash)
    (λ p j lt lj. ap (λ (u : Option Undo). word_at c.fields.frames c.flash (kept_by c.fields.slots u (place c.fields p)) j) (sym (s.undos p lt)))

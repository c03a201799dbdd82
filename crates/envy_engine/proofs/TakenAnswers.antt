-- The segment that the job relocates.
use Rattle.std.proofs.Common.{◌≡◌, ◌≢◌, ◌∙◌, ◌⊎◌, inl, inr, ℕ, Option, None, Some, sym, ap, subst}
use Rattle.envy_base.specs.declared.fields.Job.{Job}
use Rattle.envy_base.specs.declared.fields.Job.TheVariants.{Copy, Switch}
use Rattle.envy_reloc.specs.Plan.{IsFreeOf}

-- the job copies or switches it
abbrev pub IsTaken : Option Job → ℕ → Type 0
IsTaken job v = (job ≡ Some (Copy v)) ⊎ (job ≡ Some (Switch v))

pub taken : (job : Option Job) (j : Job) (v : ℕ) → job ≡ Some j → (j ≡ Copy v) ⊎ (j ≡ Switch v) → IsTaken job v
taken job j v is (inl copy) = inl (is ∙ ap (λ (x : Job). Some x) copy)
taken job j v is (inr switch) = inr (is ∙ ap (λ (x : Job). Some x) switch)

pub others-free : (job : Option Job) (v s : ℕ) → IsTaken job v → ◌≢◌ {A = Option ℕ} (Some v) (Some s) → IsFreeOf job s
others-free job v s (inl is) other =
    (λ e. other (let same : Some (Copy v) ≡ Some (Copy s) = sym is ∙ e in cc), λ e. let clash : Some (Copy v) ≡ Some (Switch s) = sym is ∙ e in cc)
others-free job v s (inr is) other =
    (λ e. let clash : Some (Switch v) ≡ Some (Copy s) = sym is ∙ e in cc, λ e. other (let same : Some (Switch v) ≡ Some (Switch s) = sym is ∙ e in cc))

pub taken-named : (job : Option Job) (v s : ℕ) → IsTaken job v → ◌≡◌ {A = Option ℕ} (Some v) (Some s) → IsTaken job s
taken-named job v s takes same = let at : v ≡ s = cc in subst (λ (n : ℕ). IsTaken job n) at takes

pub not-free : (job : Option Job) (s : ℕ) → IsTaken job s → IsFreeOf job s → ⊥
not-free job s (inl is) free = free.0 is
not-free job s (inr is) free = free.1 is

-- no segment is
pub all-free : (job : Option Job) (j : Job) (s : ℕ) → job ≡ Some j → ((v : ℕ) → j ≢ Copy v) → ((v : ℕ) → j ≢ Switch v) → IsFreeOf job s
all-free job j s is copies switches =
    (λ e. copies s (let same : Some j ≡ Some (Copy s) = sym is ∙ e in cc), λ e. switches s (let same : Some j ≡ Some (Switch s) = sym is ∙ e in cc))

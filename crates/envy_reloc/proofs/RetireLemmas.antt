-- An erase of the spare that was bad, and what a retirement after it leaves.
use Rattle.std.proofs.Common.{◌≡◌, ◌≢◌, ◌⊎◌, inr, ℕ, ◌/◌, [], get_or, sym, ◌∙◌, ap, subst}
use Rattle.std.specs.Prelude.{Some, Result, Ok, Err, OnOk}
use Rattle.envy_base.specs.Counting.{up}
use Rattle.envy_base.specs.declared.board.Trouble.{Trouble}
use Rattle.envy_base.specs.declared.fields.Job.TheVariants.{Idle}
use Rattle.envy_base.specs.declared.shape.Shape.{Shape}
use Rattle.envy_map.specs.Fields.{Fields, Chart, with_fields}
use Rattle.envy_map.specs.Writes.{with_fill, with_job, with_position, with_wear}
use Rattle.envy_soundness.specs.Sound.{IsSpare, IsSound}
use Rattle.envy_soundness.proofs.SpareLemmas.{one-spare}
use Rattle.envy_space.specs.Retiring.{LowestFresh}
use Rattle.envy_reloc.specs.Phases.{Empties, Retires}

-- the board after the erase of spare s, which was bad
pub record Spoilt (old : Chart) (s : ℕ) (mid : Chart) : Type 0 where
  pub shape : mid.shape ≡ old.shape
  pub fields : mid.fields ≡ with_wear s (up (get_or old.fields.wears s 0)) old.fields
  pub spare : IsSpare old.shape old.fields.positions s
  pub others : (q : ℕ) → q / old.shape.rows ≢ s → get_or mid.flash q [] ≡ get_or old.flash q []
  pub bad : mid.bads ≡ up old.bads

retired : (old mid new : Chart) (s k e : ℕ) → e ≡ s → Spoilt old s mid → LowestFresh mid.shape mid.fields.fills mid.fields.positions (Some k) → new ≡ with_fields mid (with_job (Some Idle) (with_position k e (with_fill e mid.shape.rows mid.fields))) → Retires old e new
retired old mid new s k e same spoilt fresh is = record {
  k = k;
  fresh = subst (λ (f : Fields). LowestFresh old.shape f.fills f.positions (Some k)) spoilt.fields (subst (λ (sh : Shape). LowestFresh sh mid.fields.fills mid.fields.positions (Some k)) spoilt.shape fresh);
  fields = ap (λ (x : Chart). x.fields) is
      ∙ ap (λ (sh : Shape). with_job (Some Idle) (with_position k e (with_fill e sh.rows mid.fields))) spoilt.shape
      ∙ ap (λ (f : Fields). with_job (Some Idle) (with_position k e (with_fill e old.shape.rows f))) spoilt.fields
      ∙ ap (λ (n : ℕ). with_job (Some Idle) (with_position k e (with_fill e old.shape.rows (with_wear n (up (get_or old.fields.wears n 0)) old.fields)))) (sym same);
  others = λ r elsewhere. ap (λ (x : Chart). get_or x.flash r []) is ∙ spoilt.others r (λ at. elsewhere (at ∙ sym same));
  bad = ap (λ (x : Chart). x.bads) is ∙ spoilt.bad;
}

pub ends-retired : (old mid new : Chart) (s : ℕ) (r : Result Unit Trouble) → IsSound old → Spoilt old s mid → OnOk r ((k e : ℕ) × IsSpare mid.shape mid.fields.positions e × LowestFresh mid.shape mid.fields.fills mid.fields.positions (Some k) × (new ≡ with_fields mid (with_job (Some Idle) (with_position k e (with_fill e mid.shape.rows mid.fields))))) → OnOk r ((e : ℕ) × IsSpare old.shape old.fields.positions e × (Empties old e new ⊎ Retires old e new))
ends-retired old mid new s (Err trouble) sound spoilt done = tt
ends-retired old mid new s (Ok unit) sound spoilt (k, e, spare, fresh, is) =
    let there : IsSpare old.shape old.fields.positions e = subst (λ (f : Fields). IsSpare old.shape f.positions e) spoilt.fields (subst (λ (sh : Shape). IsSpare sh mid.fields.positions e) spoilt.shape spare) in
    (e, there, inr (retired old mid new s k e (one-spare old.shape old.fields old.flash e s sound there spoilt.spare) spoilt fresh is))

-- Which rule a tick went by.
use Rattle.std.proofs.Common.{◌≡◌, ◌≢◌, ◌⊎◌, inl, inr, ℕ, ◌<◌, ◌≤◌, List, [], ◌∷◌, length, refl, arith}
use Rattle.std.specs.Prelude.{false, IsTrue, Result, Ok, Err, Some, IfOk}
use Rattle.envy_base.specs.declared.board.Trouble.{Trouble}
use Rattle.envy_base.specs.declared.fields.Job.TheVariants.{Idle}
use Rattle.envy_map.specs.Fields.{Chart}
use Rattle.envy_engine.specs.declared.did.Did.{Did}
use Rattle.envy_engine.specs.declared.parts.Parts.{Parts}
use Rattle.envy_engine.specs.Steps.{TicksJob, TicksStage}
use Rattle.envy_engine.specs.Ticks.{TicksBy, TicksFlush, TicksSwap, TicksNone}

pub none_left : {A : Type 0} (xs : List A) → (0 < length xs → IsTrue false) → xs ≡ []
none_left [] is = refl
none_left (x ∷ xs) is = absurd (let so = is (omega arith) in cc)

module _ (limit mark : ℕ) (old new : Chart) (was now : Parts) where
  pub by_job : (r : Result Did Trouble) → old.fields.job ≢ Some Idle → IfOk r (λ did. TicksJob did old was new now) → IfOk r (λ did. TicksBy limit mark did old was new now)
  by_job (Ok did) busy does = inl (busy, does)
  by_job (Err fault) busy does = tt

  module _ (idle : old.fields.job ≡ Some Idle) where
    pub by_stage : (r : Result Did Trouble) → 0 < length was.stages → IfOk r (λ did. TicksStage did old was new now) → IfOk r (λ did. TicksBy limit mark did old was new now)
    by_stage (Ok did) some does = inr (idle, inl (some, does))
    by_stage (Err fault) some does = tt

    module _ (none : was.stages ≡ []) where
      pub by_flush : (r : Result Did Trouble) → mark ≤ length was.frames.held → IfOk r (λ did. TicksFlush did old was new now) → IfOk r (λ did. TicksBy limit mark did old was new now)
      by_flush (Ok did) some does = inr (idle, inr (none, inl (some, does)))
      by_flush (Err fault) some does = tt

      pub by_swap : (r : Result Did Trouble) → length was.frames.held < mark → IfOk r (λ did. TicksSwap limit did old was new now ⊎ TicksNone limit did old was new now) → IfOk r (λ did. TicksBy limit mark did old was new now)
      by_swap (Ok did) few does = inr (idle, inr (none, inr (few, does)))
      by_swap (Err fault) few does = tt

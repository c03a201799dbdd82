-- Steps of a job, one after another.
use Rattle.std.proofs.Common.{◌≡◌, ℕ, ◌+◌, sym, subst, add-one}
use Rattle.envy_map.specs.Fields.{Chart}
use Rattle.envy_engine.specs.Steps.{StepsOnce, StepsBy}
use Rattle.envy_engine.specs.declared.parts.Parts.{Parts}

-- one more step
pub StepsBy-more : (n : ℕ) (old : Chart) (was : Parts) (mid : Chart) (between : Parts) (new : Chart) (now : Parts) → StepsBy n old was mid between → StepsOnce mid between new now → StepsBy (n + 1) old was new now
StepsBy-more n old was mid between new now made once = subst (λ (k : ℕ). StepsBy k old was new now) (sym (add-one n)) (mid, between, made, once)

-- the same steps, where nothing changed after them
pub StepsBy-still : (n : ℕ) (old : Chart) (was : Parts) (mid : Chart) (between : Parts) (new : Chart) (now : Parts) → StepsBy n old was mid between → new ≡ mid → now ≡ between → StepsBy n old was new now
StepsBy-still n old was mid between new now made is parts = subst (λ (c : Chart). StepsBy n old was c now) (sym is) (subst (λ (x : Parts). StepsBy n old was mid x) (sym parts) made)

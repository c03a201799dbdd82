-- A swap that begins, and its next stage.
use Rattle.std.proofs.Common.{◌≡◌, ◌∙◌, inr, ℕ, ◌≤◌, false, List, [], ◌∷◌, length, drop, get_or, Option, None, Some, refl, ap, subst, arith}
use Rattle.std.specs.Prelude.{IfSome, MatchOption, slice_get}
use Rattle.envy_base.specs.Counting.{up}
use Rattle.envy_base.specs.declared.fields.Job.TheVariants.{Copy}
use Rattle.envy_map.specs.Fields.{Chart, with_fields}
use Rattle.envy_map.specs.Writes.{with_job}
use Rattle.envy_soundness.specs.Same.{Same, Stays, Counted}
use Rattle.envy_reloc.specs.Plan.{Plan}
use Rattle.envy_wear.specs.Swaps.{IsDue, stages_of}
use Rattle.envy_wear.specs.declared.swap.Swap.{Swap}
use Rattle.envy_engine.specs.Budgets.{StageBegins}
use Rattle.envy_engine.specs.Counts.{Counting}
use Rattle.envy_engine.specs.Steps.{TicksStage}
use Rattle.envy_engine.specs.Ticks.{IsNoneDue, TicksSwap, CountsTick}
use Rattle.envy_engine.specs.declared.did.Did.TheVariants.{Began}
use Rattle.envy_engine.specs.declared.parts.Parts.{Parts}
use Rattle.envy_reloc.proofs.Exits.{unpowered}
use Rattle.envy_engine.proofs.CountLemmas.{Counting-quiet, Tallies-quiet}

-- the job, and what is counted anew
pub plan-anew : (x m r : Plan) (moves : List ℕ) → m ≡ record x { moves = moves; aside = None; mark = 0 } → moves ≡ [] → r ≡ record m { since = 0 } → r ≡ record x { moves = []; aside = None; mark = 0; since = 0 }
plan-anew x m r moves is none anew = anew ∙ ap (λ (p : Plan). record p { since = 0 }) (is ∙ ap (λ (ms : List ℕ). record x { moves = ms; aside = None; mark = 0 }) none)

-- the stages that are left once the first has begun
pub stages-left : (a b : List ℕ) (s : Swap) → a ≡ stages_of s → b ≡ drop 1 a → b ≡ s.young ∷ s.worn ∷ []
stages-left a b s is rest = rest ∙ ap (λ (xs : List ℕ). drop 1 xs) is

pub two-left : (left : List ℕ) (s : Swap) → left ≡ s.young ∷ s.worn ∷ [] → length left ≤ 2
two-left left s is = let two : length left ≡ 2 = ap length is in omega arith

pub TicksSwap-began : (limit : ℕ) (old new : Chart) (x : Parts) (s : Swap) (left : List ℕ) (swaps : ℕ) (plan : Plan) → IsDue old.shape old.fields limit x.reloc.since s → x.space.positions ≡ old.fields.positions → new ≡ with_fields old (with_job (Some (Copy (get_or x.space.positions s.worn 0))) old.fields) → left ≡ s.young ∷ s.worn ∷ [] → swaps ≡ up x.swaps → plan ≡ record x.reloc { moves = []; aside = None; mark = 0; since = 0 } → TicksSwap limit Began old x new (record x { stages = left; swaps = swaps; reloc = plan })
TicksSwap-began limit old new x s left swaps plan due order is stages more task = record {
  began = refl;
  swap = s;
  due = due;
  fields = is ∙ ap (λ (ps : List ℕ). with_fields old (with_job (Some (Copy (get_or ps s.worn 0))) old.fields)) order;
  parts =
      ap (λ (ls : List ℕ). record x { stages = ls; swaps = swaps; reloc = plan }) stages
      ∙ ap (λ (n : ℕ). record x { stages = s.young ∷ s.worn ∷ []; swaps = n; reloc = plan }) more
      ∙ ap (λ (t : Plan). record x { stages = s.young ∷ s.worn ∷ []; swaps = up x.swaps; reloc = t }) task;
}

pub CountsTick-began : (old new : Chart) (x : Parts) (left : List ℕ) (swaps : ℕ) (plan : Plan) → Counted 0 0 old new → swaps ≡ up x.swaps → plan ≡ record x.reloc { moves = []; aside = None; mark = 0; since = 0 } → CountsTick old x new (record x { stages = left; swaps = swaps; reloc = plan })
CountsTick-began old new x left swaps plan counted more task = record {
  tallies = Tallies-quiet old new x (record x { stages = left; swaps = swaps; reloc = plan }) counted refl (record { copied = ap (λ (t : Plan). t.copied) task; moved = ap (λ (t : Plan). t.moved) task; erased = ap (λ (t : Plan). t.erased) task });
  since = inr (more, ap (λ (t : Plan). t.since) task);
}

-- power failed in it
pub Counting-lost : (old new : Chart) (x : Parts) (moves : List ℕ) (plan : Plan) → Same 0 0 old new → new.on ≡ false → plan ≡ record x.reloc { moves = moves; aside = None; mark = 0 } → Counting old x new (record x { reloc = plan })
Counting-lost old new x moves plan same off task =
    Counting-quiet old new x (record x { reloc = plan }) (Stays.counted (Same.stays same)) refl refl (record { copied = ap (λ (t : Plan). t.copied) task; moved = ap (λ (t : Plan). t.moved) task; erased = ap (λ (t : Plan). t.erased) task }) (ap (λ (t : Plan). t.since) task) (λ on. unpowered new.on off on)

-- what is due
pub due-some : (limit : ℕ) (c : Chart) (since : ℕ) (found : Option Swap) (s : Swap) → found ≡ Some s → MatchOption found (IsNoneDue limit c since) (IsDue c.shape c.fields limit since) → IsDue c.shape c.fields limit since s
due-some limit c since found s is due = subst (λ (o : Option Swap). MatchOption o (IsNoneDue limit c since) (IsDue c.shape c.fields limit since)) is due

pub due-none : (limit : ℕ) (c : Chart) (since : ℕ) (found : Option Swap) → found ≡ None → MatchOption found (IsNoneDue limit c since) (IsDue c.shape c.fields limit since) → IsNoneDue limit c since
due-none limit c since found is due = subst (λ (o : Option Swap). MatchOption o (IsNoneDue limit c since) (IsDue c.shape c.fields limit since)) is due

pub anew-some : (found : Option Swap) (s : Swap) (quiet : ℕ) → found ≡ Some s → IfSome found (λ _. quiet ≡ 0) → quiet ≡ 0
anew-some found s quiet is anew = subst (λ (o : Option Swap). IfSome o (λ _. quiet ≡ 0)) is anew

-- the next stage of a swap begins
pub TicksStage-began : (old new : Chart) (x : Parts) (k : ℕ) (left moves : List ℕ) (plan : Plan) → x.space.positions ≡ old.fields.positions → slice_get x.stages 0 ≡ Some k → new ≡ with_fields old (with_job (Some (Copy (get_or x.space.positions k 0))) old.fields) → left ≡ drop 1 x.stages → plan ≡ record x.reloc { moves = moves; aside = None; mark = 0 } → moves ≡ [] → TicksStage Began old x new (record x { reloc = plan; stages = left })
TicksStage-began old new x k left moves plan order next is rest task none =
    let fields = is ∙ ap (λ (ps : List ℕ). with_fields old (with_job (Some (Copy (get_or ps k 0))) old.fields)) order in
    record {
      began = refl;
      position = k;
      next = next;
      begins = ap (λ (c : Chart). c.fields.job) fields;
      fields = fields;
      rest = rest;
      moves = ap (λ (t : Plan). t.moves) task ∙ none;
      none = record { copied = ap (λ (t : Plan). t.copied) task; moved = ap (λ (t : Plan). t.moved) task; erased = ap (λ (t : Plan). t.erased) task };
      idles = record { flushes = refl; swaps = refl; chooser = refl; frames = refl };
    }

pub StageBegins-began : (old new : Chart) (x t : Plan) (v : ℕ) (moves : List ℕ) → new ≡ with_fields old (with_job (Some (Copy v)) old.fields) → t ≡ record x { moves = moves; aside = None; mark = 0 } → moves ≡ [] → StageBegins old new t
StageBegins-began old new x t v moves is task none = (v, is, ap (λ (p : Plan). p.moves) task ∙ none)

-- nothing goes aside
pub none-pair : {P : Type 0} (x : ℕ × ℕ) → None ≡ Some x → P
none-pair x is = absurd (let no : None ≡ Some x = is in cc)

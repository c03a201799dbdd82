-- What holds of a memory after a background step.
use Rattle.std.proofs.Common.{◌≡◌, inl, inr, false, ℕ, refl, arith}
use Rattle.std.specs.Prelude.{IsTrue, Result, Ok, Err, IsErrOf, ◌↔◌}
use Rattle.envy_array.specs.Array.{Array}
use Rattle.envy_array.specs.Step.{Tick, Done}
use Rattle.envy_base.specs.declared.board.Trouble.{Trouble}
use Rattle.envy_base.specs.declared.board.Trouble.TheVariants.{Off as TroubleOff, Bad as TroubleBad}
use Rattle.envy_map.specs.Fields.{Chart}
use Rattle.envy_soundness.specs.Same.{Same, Stays, Counted}
use Rattle.envy_meaning.specs.Stands.{Stands, IsLost}
use Rattle.envy_meaning.proofs.Standing.{Stands-same, IsLost-same}
use Rattle.envy_soundness.proofs.Composition.{Counted-more}
use Rattle.envy_policy.specs.declared.choice.Choice.{Choice}
use Rattle.envy_policy.specs.declared.choice.Choice.TheVariants.{Free, Clean}
use Rattle.envy_reloc.specs.Phases.{SameOnce}
use Rattle.envy_reloc.specs.declared.step.Phase.{Phase}
use Rattle.envy_reloc.specs.declared.step.Phase.TheVariants.{Moved as MovedPhase, Copied as CopiedPhase, Switched as SwitchedPhase, Placed as PlacedPhase, Erased as ErasedPhase}
use Rattle.envy_engine.specs.Agreement.{Steady}
use Rattle.envy_engine.specs.Storing.{Leaves}
use Rattle.envy_engine.specs.Steps.{did_of, TicksStage}
use Rattle.envy_engine.specs.Ticks.{TicksBy, TicksFlush, TicksChoice, TicksSwap}
use Rattle.envy_engine.specs.declared.did.Did.{Did}
use Rattle.envy_engine.specs.declared.did.Did.TheVariants.{Idle, Flushed, Began, Moved, Copied, Switched, Placed, Erased}
use Rattle.envy_engine.specs.declared.parts.Parts.{Parts}
use Rattle.envy_memory.specs.Calls.{Ticks, IsCut, HasFailed, Undisturbed}
use Rattle.envy_memory.proofs.EndLemmas.{undisturbed-on}
use Rattle.envy_memory.specs.Effects.{IsIdle, TicksOnce}
use Rattle.envy_memory.specs.Picture.{Picture, IsMemory}
use Rattle.envy_memory.proofs.Facts.{on-from}
use Rattle.envy_memory.proofs.Owning.{IsMemory-left, Works-left}
use Rattle.envy_txn.specs.Owners.{Ownership}

stands : (c new : Chart) (m : Array) → Stands c m → SameOnce c new → IsTrue new.on → Stands new m
stands c new m s (inl same) on = Stands-same 1 0 c new m s same on
stands c new m s (inr same) on = Stands-same 0 1 c new m s same on

lost : (c new : Chart) (m : Array) → Stands c m → SameOnce c new → new.on ≡ false → IsLost m Tick new
lost c new m s (inl same) off = IsLost-same 1 0 c new m Tick m s (Done, refl, refl) same off
lost c new m s (inr same) off = IsLost-same 0 1 c new m Tick m s (Done, refl, refl) same off

pub Ticks-all : (c new : Chart) (m : Array) (r : Result Did Trouble) → Stands c m → SameOnce c new → ((r ≡ Err TroubleOff) ↔ (new.on ≡ false)) → Ticks m r new
Ticks-all c new m (Ok did) s step off = (m, refl, stands c new m s step (on-from new.on (λ is. let no = off.1 is in cc)))
Ticks-all c new m (Err TroubleBad) s step off = (m, (Done, refl, refl), stands c new m s step (on-from new.on (λ is. let no = off.1 is in cc)))
Ticks-all c new m (Err TroubleOff) s step off = lost c new m s step (off.0 refl)

pub counted-once : (c new : Chart) → SameOnce c new → Counted 1 1 c new
counted-once c new (inl same) = Counted-more 1 0 1 1 c new (omega arith) (omega arith) (Stays.counted (Same.stays same))
counted-once c new (inr same) = Counted-more 0 1 1 1 c new (omega arith) (omega arith) (Stays.counted (Same.stays same))

leaves : (k j : ℕ) (c new : Chart) → Same k j c new → Leaves k j c new
leaves k j c new same = let s = Same.stays same in record { framed = s.framed; sound = s.sound; counted = s.counted; worn = same.worn }

pub TicksOnce-all : (c new : Chart) → IsTrue c.on → SameOnce c new → TicksOnce c new
TicksOnce-all c new on (inl same) = inl (Works-left 1 0 1 0 c new (omega arith) (omega arith) on (leaves 1 0 c new same))
TicksOnce-all c new on (inr same) = inr (Works-left 0 1 0 1 c new (omega arith) (omega arith) on (leaves 0 1 c new same))

pub IsMemory-ticked : (limit mark : ℕ) (c new : Chart) (x y : Parts) (o : Ownership) → IsTrue c.on → IsMemory c x o limit mark → SameOnce c new → Steady new y → IsMemory new y o limit mark
IsMemory-ticked limit mark c new x y o on m (inl same) steady = IsMemory-left 1 0 limit mark c new x y o on m (leaves 1 0 c new same) steady
IsMemory-ticked limit mark c new x y o on m (inr same) steady = IsMemory-left 0 1 limit mark c new x y o on m (leaves 0 1 c new same) steady

-- ---- a tick that found nothing to do

no-phase : (p : Phase) → Idle ≡ did_of p → ⊥
no-phase MovedPhase is = let no : Idle ≡ Moved = is in cc
no-phase CopiedPhase is = let no : Idle ≡ Copied = is in cc
no-phase SwitchedPhase is = let no : Idle ≡ Switched = is in cc
no-phase PlacedPhase is = let no : Idle ≡ Placed = is in cc
no-phase ErasedPhase is = let no : Idle ≡ Erased = is in cc

no-choice : (choice : Choice) (c new : Chart) (x y : Parts) → TicksChoice choice Idle c x new y → ⊥
no-choice (Free k) c new x y (is, a, b, d) = let no : Idle ≡ Flushed = is in cc
no-choice (Clean k aside) c new x y (is, a, b, d, e, f, h, begins) = let no : Idle ≡ Began = is in cc

pub idle-found : (p : Picture) (new : Chart) (y : Parts) → IsTrue p.chart.on → TicksBy p.limit p.mark Idle p.chart p.parts new y → IsIdle p
idle-found p new y on (inl (busy, j)) = absurd (no-phase j.phase j.named)
idle-found p new y on (inr (idle, inl (some, s))) = absurd (let no : Idle ≡ Began = TicksStage.began s in cc)
idle-found p new y on (inr (idle, inr (none, inl (some, f)))) = absurd (no-choice (TicksFlush.choice f) p.chart new p.parts y (TicksFlush.does f))
idle-found p new y on (inr (idle, inr (none, inr (few, inl s)))) = absurd (let no : Idle ≡ Began = TicksSwap.began s in cc)
idle-found p new y on (inr (idle, inr (none, inr (few, inr nothing)))) = record { on = on; job = idle; stages = none; few = few; none = nothing.0 }

-- ---- causes

pub undisturbed-bad : (c new : Chart) → HasFailed c new → Undisturbed c new → ⊥
undisturbed-bad c new failed calm = let rose = failed calm.low_bads in let same = calm.bads in omega arith

-- a call that power or a flash operation ended wasn't undisturbed
pub never-ended : (c new : Chart) (e : Trouble) → (IsErrOf {T = Unit {0}} {E = Trouble} (Err e) TroubleOff → new.on ≡ false) → (IsErrOf {T = Unit {0}} {E = Trouble} (Err e) TroubleBad → HasFailed c new) → IsCut c new → Undisturbed c new → ⊥
never-ended c new TroubleOff off bad cut calm = undisturbed-on c new cut (off refl) calm
never-ended c new TroubleBad off bad cut calm = undisturbed-bad c new (bad refl) calm

use Rattle.std.proofs.Common.{◌∙◌, sym, ap, refl, Some, []}
use Rattle.std.specs.Prelude.{position}
use Rattle.envy_array.specs.Array.{Array, is_closed, with_slot}
use Rattle.envy_plain.proofs.Machine.{array-begun, saved_by-closed, IsPlain-begun}
use Rattle.envy_plain.proofs.Moves.{first-found, first-none}
use Rattle.envy_plain.proofs.plain.Plain.begin.Goals as goal

pub returns-in_default : goal.returns-in_default
returns-in_default c =
    let a = c.self.inside in
    (ap (λ (m : Array). position is_closed m.slots) (sym c.self.view_is) ∙ first-none a.active a.saved.items c.self.invariant.slots c.in_default.ensures, refl)

pub invariant_of-self : goal.invariant_of-self
invariant_of-self c =
    let a = c.self.inside in
    let found = first-found a.active a.saved.items c.in-Some.slot c.self.invariant.slots c.in-Some.ensures in
    IsPlain-begun _ _ _ _ _ _ _ c.in-Some.slot found.0 found.1 c.self.invariant

pub returns : goal.returns
returns c =
    let a = c.self.inside in
    let i = c.self.invariant in
    let t = c.in-Some.slot in
    let found = first-found a.active a.saved.items t i.slots c.in-Some.ensures in (
      ap (λ (m : Array). position is_closed m.slots) (sym c.self.view_is) ∙ found.2,
      array-begun a.words.items a.active a.saved.items a.shadows t i.slots found.0 (saved_by-closed a.active a.saved.items t i.open_slots found.1) ∙ ap (λ (m : Array). with_slot m t (Some [])) c.self.view_is,
    )

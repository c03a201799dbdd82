-- Each region of a new map, written from its first entry.
use Rattle.std.proofs.Common.{◌≡◌, ℕ, ◌+◌, ◌*◌, sym, ◌∙◌, ap, arith}
use Rattle.std.specs.Prelude.{Some}
use Rattle.envy_base.specs.declared.fields.Place.TheVariants.{Absent}
use Rattle.envy_base.specs.declared.fields.Slot.TheVariants.{Vacant}
use Rattle.envy_base.specs.declared.fields.Undo.TheVariants.{Clear}
use Rattle.envy_map.specs.Fields.{Fields}
use Rattle.envy_map.specs.Writes.{with_slot, with_places_clear, with_undos_clear, with_back, with_origin}
use Rattle.envy_soundness.specs.Formatting.{filled, with_slots_laid, with_places_laid, with_undos_laid, with_backs_laid, with_origins_laid}
use Rattle.envy_soundness.proofs.Laying.{filled-zero, filled-step, filled-steps}

pub slots-none : (f : Fields) → f ≡ with_slots_laid 0 f
slots-none f = ap (λ xs. record f { slots = xs }) (sym (filled-zero f.slots (Some Vacant)))

pub slots-next : (f : Fields) (t : ℕ) → with_slot t (Some Vacant) (with_slots_laid t f) ≡ with_slots_laid (t + 1) f
slots-next f t = ap (λ xs. record f { slots = xs }) (filled-step f.slots (Some Vacant) t)

pub places-none : (f : Fields) → f ≡ with_places_laid 0 f
places-none f = ap (λ xs. record f { places = xs }) (sym (filled-zero f.places (Some Absent)))

pub places-next : (f : Fields) (i : ℕ) → with_places_clear i (with_places_laid (2 * i) f) ≡ with_places_laid (2 * (i + 1)) f
places-next f i = ap (λ xs. record f { places = xs }) (filled-steps f.places (Some Absent) (2 * i) ∙ ap (filled f.places (Some Absent)) (omega arith))

pub undos-none : (f : Fields) → f ≡ with_undos_laid 0 f
undos-none f = ap (λ xs. record f { undos = xs }) (sym (filled-zero f.undos (Some Clear)))

pub undos-next : (f : Fields) (i : ℕ) → with_undos_clear i (with_undos_laid (2 * i) f) ≡ with_undos_laid (2 * (i + 1)) f
undos-next f i = ap (λ xs. record f { undos = xs }) (filled-steps f.undos (Some Clear) (2 * i) ∙ ap (filled f.undos (Some Clear)) (omega arith))

pub backs-none : (f : Fields) → f ≡ with_backs_laid 0 f
backs-none f = ap (λ xs. record f { backs = xs }) (sym (filled-zero f.backs 0))

pub backs-next : (f : Fields) (row : ℕ) → with_back row 0 (with_backs_laid row f) ≡ with_backs_laid (row + 1) f
backs-next f row = ap (λ xs. record f { backs = xs }) (filled-step f.backs 0 row)

pub origins-none : (f : Fields) → f ≡ with_origins_laid 0 f
origins-none f = ap (λ xs. record f { origins = xs }) (sym (filled-zero f.origins 0))

pub origins-next : (f : Fields) (i : ℕ) → with_origin i 0 (with_origins_laid i f) ≡ with_origins_laid (i + 1) f
origins-next f i = ap (λ xs. record f { origins = xs }) (filled-step f.origins 0 i)

-- What is encoded is read back, and fits its word or half.
use Rattle.std.proofs.Common.{◌≡◌, ◌+◌, ◌*◌, ◌/◌, ◌%◌, ◌^◌, ◌<◌, Some, refl, arith}
use Rattle.std.proofs.lemmas.Bool.Decides.{nat_tests}
use Rattle.envy_base.specs.declared.fields.Job.{Job}
use Rattle.envy_base.specs.declared.fields.Job.TheVariants.{Idle, Copy, Switch, Erase}
use Rattle.envy_base.specs.declared.fields.Place.{Place}
use Rattle.envy_base.specs.declared.fields.Place.TheVariants.{Absent, Row, Frame}
use Rattle.envy_base.specs.declared.fields.Slot.{Slot}
use Rattle.envy_base.specs.declared.fields.Slot.TheVariants.{Vacant, Active, Committed}
use Rattle.envy_base.specs.declared.fields.Undo.{Undo}
use Rattle.envy_base.specs.declared.fields.Undo.TheVariants.{Clear, Blank, Shadow}
use Rattle.envy_map.specs.Codes.{job_of, job_code, IsJob, slot_of, slot_code, place_of, place_code, IsPlace, undo_of, undo_code, IsUndo}

pub job_of-job_code : (x : Job) → IsJob x → job_of (job_code x) ≡ Some x
unfolding job_of
job_of-job_code Idle fits = refl
job_of-job_code (Copy v) fits = grind (arith, nat_tests)
job_of-job_code (Switch v) fits = grind (arith, nat_tests)
job_of-job_code Erase fits = refl

pub slot_of-slot_code : (x : Slot) → slot_of (slot_code x) ≡ Some x
unfolding slot_of
slot_of-slot_code Vacant = refl
slot_of-slot_code Active = refl
slot_of-slot_code Committed = refl

pub place_of-place_code : (x : Place) → IsPlace x → place_of (place_code x) ≡ Some x
unfolding place_of
place_of-place_code Absent fits = refl
place_of-place_code (Row q) fits = grind (arith, nat_tests)
place_of-place_code (Frame f) fits = grind (arith, nat_tests)

pub place_code-fits : (x : Place) → IsPlace x → place_code x < 2 ^ 32
place_code-fits Absent fits = omega arith
place_code-fits (Row q) fits = omega arith
place_code-fits (Frame f) fits = omega arith

pub undo_of-undo_code : (x : Undo) → IsUndo x → undo_of (undo_code x) ≡ Some x
unfolding undo_of
undo_of-undo_code Clear fits = refl
undo_of-undo_code (Blank t) fits = grind (arith, nat_tests)
undo_of-undo_code (Shadow t q) fits =
    let row : (2 + 4 * t + 256 * q) / 256 ≡ q = omega arith in
    let slot : (2 + 4 * t + 256 * q) % 256 / 4 ≡ t = omega arith in
    rw (row, slot) (grind (arith, nat_tests))

pub undo_code-fits : (x : Undo) → IsUndo x → undo_code x < 2 ^ 32
undo_code-fits Clear fits = omega arith
undo_code-fits (Blank t) fits = omega arith
undo_code-fits (Shadow t q) fits = omega arith

use Rattle.std.proofs.Common.{arith}
use Rattle.envy_soundness.specs.Sound.{Sound, Slots, Places}
use Rattle.envy_soundness.proofs.KeptCounts.{kept_in-le-fill, kept_in-none, none-kept_in}
use Rattle.envy_soundness.proofs.laws.kept_rows_are_filled.Goals as goal

pub returns-clause-filled : goal.returns-clause-filled
returns-clause-filled c = λ m s sound. kept_in-le-fill m.shape m.fields.slots m.fields.undos m.fields.places m.fields.fills m.fields.backs s (Sound.rows sound)

pub returns-clause-none : goal.returns-clause-none
returns-clause-none c = λ m s sound.
    let places = Places.long (Sound.places sound) in
    let undos = Slots.undos_long (Sound.slots sound) in (
      λ none p q. none-kept_in m.shape m.fields.slots m.fields.undos m.fields.places s (omega arith) (omega arith) none p q,
      λ none. kept_in-none m.shape m.fields.slots m.fields.undos m.fields.places s none,
    )

use Rattle.envy_soundness.specs.Sound.{Sound}
use Rattle.envy_soundness.proofs.KeptCounts.{rows-left}
use Rattle.envy_soundness.proofs.laws.enough_rows_are_left.Goals as goal

pub returns : goal.returns
returns c = λ m shape sound. rows-left m.shape m.fields.slots m.fields.undos m.fields.places m.fields.wears m.fields.fills m.fields.positions m.fields.backs m.fields.origins m.fields.frames m.fields.version shape (Sound.slots sound) (Sound.rows sound) (Sound.numbers sound)

use Rattle.envy_soundness.proofs.KeptRows.{names-page, is_kept-named, named-is_kept, kept_in-rows, dead-row_at}
use Rattle.envy_soundness.proofs.laws.kept_rows_are_those_that_pages_name.Goals as goal

pub returns-clause-kept : goal.returns-clause-kept
returns-clause-kept c = λ m q sound. (
  λ found. let named = named-is_kept m.shape m.fields.slots m.fields.undos m.fields.places q found in (named.0, named.2),
  λ named. is_kept-named m.shape m.fields.slots m.fields.undos m.fields.places named.0 q (names-page m.shape m.fields m.flash named.0 q sound named.1) named.1,
)

pub returns-clause-rows : goal.returns-clause-rows
returns-clause-rows c = λ m s sound. kept_in-rows m.shape m.fields m.flash s sound

pub returns-clause-dead : goal.returns-clause-dead
returns-clause-dead c = λ m s sound few. dead-row_at m.shape m.fields m.flash s sound few

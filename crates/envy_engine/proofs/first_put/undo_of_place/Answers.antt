use Rattle.std.proofs.Common.{ap, Some}
use Rattle.envy_base.specs.declared.fields.Place.{Place}
use Rattle.envy_engine.proofs.first_put.undo_of_place.Goals as goal

pub unreachable-requires : goal.unreachable-requires
unreachable-requires g = g.requires g.in-Frame.field-0 (ap (λ (x : Place). Some x) g.in-Frame.is)

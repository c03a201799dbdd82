use Rattle.std.proofs.Common.{inl, refl}
use Rattle.envy_places.specs.Places.{held}
use Rattle.envy_openings.proofs.Filling.{was_empty}
use Rattle.envy_openings.proofs.regions.attach_regions.Goals as goal

pub returns-in-Ok : goal.returns-in-Ok
returns-in-Ok c = inl (refl, was_empty (held c.args.place.now) c.is_open.result c.is_open.ensures c.if-is_open.false, c.in-Ok.memory, c.replace.ensures.after, c.in-Ok.ensures)

use Rattle.envy_map.specs.Fields.{map_fields}
use Rattle.envy_map.proofs.header.version.Goals as goal

pub returns : goal.returns
unfolding map_fields
returns g c = c.get.ensures

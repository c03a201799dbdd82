use Rattle.envy_places.proofs.map_calls.map_insert.Goals as goal

pub map_insert-requires : goal.map_insert-requires
map_insert-requires g c = rw c.in-Regions.is at c.requires

pub map_insert-requires-in-File : goal.map_insert-requires-in-File
map_insert-requires-in-File g c = rw c.in-File.is at c.requires

pub map_insert-requires-in-Simulated : goal.map_insert-requires-in-Simulated
map_insert-requires-in-Simulated g c = rw c.in-Simulated.is at c.requires

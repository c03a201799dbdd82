use Rattle.envy_places.proofs.map_calls.map_remove.Goals as goal

pub map_remove-requires : goal.map_remove-requires
map_remove-requires g c = rw c.in-Regions.is at c.requires

pub map_remove-requires-in-File : goal.map_remove-requires-in-File
map_remove-requires-in-File g c = rw c.in-File.is at c.requires

pub map_remove-requires-in-Simulated : goal.map_remove-requires-in-Simulated
map_remove-requires-in-Simulated g c = rw c.in-Simulated.is at c.requires

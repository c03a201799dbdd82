use Rattle.envy_library.proofs.map_calls.envy_map_remove.Goals as goal

pub map_remove-code-requires : goal.map_remove-code-requires
map_remove-code-requires c = rw c.lend-place.ensures.place c.requires.map

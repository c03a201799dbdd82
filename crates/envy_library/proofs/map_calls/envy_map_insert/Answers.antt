use Rattle.envy_library.proofs.map_calls.envy_map_insert.Goals as goal

pub map_insert-code-requires : goal.map_insert-code-requires
map_insert-code-requires c = rw c.lend-place.ensures.place c.requires.map

use Rattle.envy_space.proofs.PlaceLemmas.{PoolAgrees-rowed, room-rowed, PoolAgrees-leaves, PoolAgrees-passes}
use Rattle.envy_space.proofs.laws.notes_follow_a_place.Goals as goal

pub returns : goal.returns
returns c = record { rowed = PoolAgrees-rowed; room = room-rowed; left = PoolAgrees-leaves; elsewhere = PoolAgrees-passes }

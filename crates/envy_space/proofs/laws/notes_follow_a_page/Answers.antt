use Rattle.envy_space.proofs.NotingLemmas.{PoolAgrees-same, PoolAgrees-kept, room-kept, PoolAgrees-dead, PoolAgrees-moved}
use Rattle.envy_space.proofs.laws.notes_follow_a_page.Goals as goal

pub returns : goal.returns
returns c = record { same = PoolAgrees-same; kept = PoolAgrees-kept; room = room-kept; dead = PoolAgrees-dead; moved = PoolAgrees-moved }

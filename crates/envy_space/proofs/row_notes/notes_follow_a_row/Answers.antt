use Rattle.envy_space.proofs.FollowLemmas.{Followed-named}
use Rattle.envy_space.proofs.row_notes.notes_follow_a_row.Goals as goal

pub returns : goal.returns
returns c = Followed-named

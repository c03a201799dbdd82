use Rattle.envy_audit.proofs.Sounding.{points-sound, sound-points}
use Rattle.envy_audit.proofs.laws.the_points_are_soundness.Goals as goal

pub returns : goal.returns
returns c s board = (points-sound s board, sound-points s board)

use Rattle.envy_frames.proofs.Agreeing.{unnamed-unheld, elsewhere-dropped}
use Rattle.envy_frames.proofs.CountLemmas.{held-framed}
use Rattle.envy_frames.proofs.laws.places_tell_the_held_frames.Goals as goal

pub returns : goal.returns
returns c = record { count = held-framed; unheld = unnamed-unheld; dropped = elsewhere-dropped }

use Rattle.envy_image.proofs.Backwards.{one-image}
use Rattle.envy_image.proofs.laws.bytes_begin_with_one_image.Goals as goal

pub returns : goal.returns
returns c = one-image

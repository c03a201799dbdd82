use Rattle.envy_policy.proofs.Within.{flushed-sizes, claimed-sizes, cleaned-sizes}
use Rattle.envy_policy.proofs.laws.notes_keep_the_sizes.Goals as goal

pub returns : goal.returns
returns c = record { flushed = flushed-sizes; claimed = claimed-sizes; cleaned = cleaned-sizes }

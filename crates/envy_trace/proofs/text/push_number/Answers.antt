use Rattle.envy_trace.proofs.Costs.{few}
use Rattle.std.proofs.Common.{arith}
use Rattle.envy_trace.proofs.text.push_number.Goals as goal

pub write_digits-start-requires : goal.write_digits-start-requires
write_digits-start-requires g c = (few c.args.number c.ranges.number.fits, omega arith)

use Rattle.envy_torn.proofs.Other.{torn-other}
use Rattle.envy_torn.proofs.laws.a_torn_write_may_leave_other_bytes.Goals as goal

pub returns : goal.returns
returns c file at bytes other fits same = torn-other file at bytes other fits same

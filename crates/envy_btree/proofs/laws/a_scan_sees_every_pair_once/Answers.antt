use Rattle.envy_btree.proofs.Seeing.{scanned-from, scanned-all}
use Rattle.envy_btree.proofs.laws.a_scan_sees_every_pair_once.Goals as goal

pub returns-clause-from : goal.returns-clause-from
returns-clause-from c words es seen key x s = scanned-from words es seen key x s

pub returns-clause-all : goal.returns-clause-all
returns-clause-all c words es seen x s = scanned-all words es seen x s

use Rattle.std.proofs.Common.{◌≡◌, take}
use Rattle.envy_txn.proofs.ledger.Ledger.refill.Given as goal

abbrev pub invariant-loop-pair : goal.invariant-loop-pair
invariant-loop-pair l = l.self ≡ record l.initial.self { pairs = take l.pair-index l.pairs; used = l.pair-index }

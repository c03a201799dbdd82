use Rattle.std.proofs.Common.{ap}
use Rattle.envy_txn.specs.Entries.{Book}
use Rattle.envy_txn.proofs.LedgerLemmas.{free-before}
use Rattle.envy_txn.proofs.ledger.Ledger.refill.Goals as goal

pub append-requires-clause-free : goal.append-requires-clause-free
append-requires-clause-free c =
    free-before c.args.pairs.now c.loop-pair.self.pairs c.loop-pair.pair-index (record { page = 0; slot = 0 }) c.requires.apart (ap (λ (b : Book). b.pairs) c.loop-pair.invariant) c.loop-pair-test.true

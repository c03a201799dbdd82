use Rattle.std.proofs.Common.{◌≡◌, List, length, sym, ◌∙◌, ap}
use Rattle.envy_txn.specs.declared.pair.Pair.{Pair}
use Rattle.envy_txn.specs.Entries.{Book, pairs_in}
use Rattle.envy_txn.proofs.LedgerLemmas.{no-pairs}
use Rattle.envy_txn.proofs.ledger.Ledger.rewind.Goals as goal

pub clear_ended-requires : goal.clear_ended-requires
clear_ended-requires c =
    let pairs : pairs_in c.self.inside.entries.items ≡ c.args.self.now.pairs = ap (λ (b : Book). b.pairs) c.self.view_is in
    let long : length c.args.self.now.pairs ≡ 0 = sym (ap (λ (ps : List Pair). length ps) pairs) ∙ sym c.self.invariant.counted ∙ c.if-self-eq0.true in
    record { none = no-pairs c.args.self.now.pairs long }

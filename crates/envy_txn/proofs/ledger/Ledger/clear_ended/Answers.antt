use Rattle.std.proofs.Common.{◌≡◌, [], ◌∙◌, ap, arith}
use Rattle.envy_txn.specs.Entries.{Book, pairs_in}
use Rattle.envy_txn.proofs.LedgerLemmas.{IsLedger-cleared, book-cleared}
use Rattle.envy_txn.proofs.ledger.Ledger.clear_ended.Goals as goal

pub invariant_of-self : goal.invariant_of-self
invariant_of-self c =
    let xs = c.self.inside.entries.items in
    let none : pairs_in xs ≡ [] = ap (λ (b : Book). b.pairs) c.self.view_is ∙ c.requires.none in
    IsLedger-cleared xs c.clear.new.self.items c.self.inside.newest c.self.inside.places.items c.self.inside.count c.self.inside.room _ _ c.self.invariant none
    c.clear.ensures.items (let kept = c.clear.ensures.capacity in omega arith)

pub returns : goal.returns
returns c =
    let xs = c.self.inside.entries.items in
    let none : pairs_in xs ≡ [] = ap (λ (b : Book). b.pairs) c.self.view_is ∙ c.requires.none in
    book-cleared xs c.clear.new.self.items c.self.inside.room c.args.self.now c.self.view_is none c.clear.ensures.items

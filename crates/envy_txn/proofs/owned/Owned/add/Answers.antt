use Rattle.std.proofs.Common.{◌≡◌, List, length, ◌∙◌, ap, arith}
use Rattle.envy_txn.specs.declared.pair.Pair.{Pair}
use Rattle.envy_txn.specs.Owners.{Ownership, owner_of}
use Rattle.envy_txn.proofs.OwnLemmas.{IsOwned-joined}
use Rattle.envy_txn.proofs.owned.Owned.add.Goals as goal

pub append-requires-clause-room : goal.append-requires-clause-room
append-requires-clause-room c =
    let limit : c.self.inside.limit ≡ c.args.self.now.limit = ap (λ (o : Ownership). o.limit) c.self.view_is in
    let long : length c.self.inside.ledger.pairs ≡ length c.args.self.now.pairs = ap (λ (o : Ownership). length o.pairs) c.self.view_is in
    let more = c.requires.room in
    let roomy = c.self.invariant.roomy in
    omega arith

pub invariant_of-self : goal.invariant_of-self
invariant_of-self c =
    let limit : c.self.inside.limit ≡ c.args.self.now.limit = ap (λ (o : Ownership). o.limit) c.self.view_is in
    let long : length c.self.inside.ledger.pairs ≡ length c.args.self.now.pairs = ap (λ (o : Ownership). length o.pairs) c.self.view_is in
    let more = c.requires.room in
    IsOwned-joined c.self.inside.ledger c.append.new.self c.self.inside.limit _ c.args.pair c.self.invariant (omega arith)
    (ap (λ (o : Ownership). owner_of o.pairs c.args.pair.page) c.self.view_is ∙ c.requires.free) c.append.ensures

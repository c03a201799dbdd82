use Rattle.std.proofs.Common.{◌≡◌, List, length, sym, ◌∙◌, ap, subst, arith}
use Rattle.std.specs.List.{AllPairs}
use Rattle.envy_txn.specs.declared.pair.Pair.{Pair}
use Rattle.envy_txn.specs.Entries.{Book}
use Rattle.envy_txn.specs.Owners.{AreApart, others_of}
use Rattle.envy_txn.proofs.OwnLemmas.{IsOwned-left, left-apart, left-few}
use Rattle.envy_txn.proofs.owned.Owned.leave.Goals as goal

pub make_room-requires-clause-apart : goal.make_room-requires-clause-apart
make_room-requires-clause-apart c =
    let pairs : c.rewind.new.self.pairs ≡ others_of c.args.t c.self.inside.ledger.pairs = ap (λ (b : Book). b.pairs) c.rewind.ensures ∙ ap (λ (b : Book). b.pairs) c.leave.ensures in
    subst (λ (ps : List Pair). AllPairs AreApart ps) (sym pairs) (left-apart c.args.t c.self.inside.ledger c.self.inside.limit _ c.self.invariant)

pub make_room-requires-clause-few : goal.make_room-requires-clause-few
make_room-requires-clause-few c =
    let long : length c.rewind.new.self.pairs ≡ length (others_of c.args.t c.self.inside.ledger.pairs) = ap (λ (b : Book). length b.pairs) c.rewind.ensures ∙ ap (λ (b : Book). length b.pairs) c.leave.ensures in
    let few = left-few c.args.t c.self.inside.ledger c.self.inside.limit _ c.self.invariant in
    omega arith

pub make_room-requires-clause-limit : goal.make_room-requires-clause-limit
make_room-requires-clause-limit c =
    let room : c.rewind.new.self.room ≡ c.self.inside.ledger.room = ap (λ (b : Book). b.room) c.rewind.ensures ∙ ap (λ (b : Book). b.room) c.leave.ensures in
    let was = c.self.invariant.room in
    omega arith

pub make_room-requires-clause-fits : goal.make_room-requires-clause-fits
make_room-requires-clause-fits c =
    let long : length c.rewind.new.self.pairs ≡ length (others_of c.args.t c.self.inside.ledger.pairs) = ap (λ (b : Book). length b.pairs) c.rewind.ensures ∙ ap (λ (b : Book). length b.pairs) c.leave.ensures in
    let few = left-few c.args.t c.self.inside.ledger c.self.inside.limit _ c.self.invariant in
    let fits = c.self.invariant.fits in
    omega arith

pub invariant_of-self : goal.invariant_of-self
invariant_of-self c =
    IsOwned-left c.self.inside.ledger c.make_room.new.self c.self.inside.limit _ _ c.args.t c.self.invariant
    (ap (λ (b : Book). b.pairs) c.make_room.ensures.pairs ∙ ap (λ (b : Book). b.pairs) c.rewind.ensures ∙ ap (λ (b : Book). b.pairs) c.leave.ensures)
    (ap (λ (b : Book). b.room) c.make_room.ensures.pairs ∙ ap (λ (b : Book). b.room) c.rewind.ensures ∙ ap (λ (b : Book). b.room) c.leave.ensures)
    c.make_room.ensures.room c.make_room.ensures.capacity

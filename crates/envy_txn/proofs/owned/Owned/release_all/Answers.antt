use Rattle.std.proofs.Common.{◌≡◌, true, List, set, Some, refl, sym, ◌∙◌, ap, subst}
use Rattle.std.specs.List.{AllPairs}
use Rattle.envy_base.specs.declared.fields.Slot.TheVariants.{Active}
use Rattle.envy_map.specs.Fields.{chart}
use Rattle.envy_txn.specs.declared.pair.Pair.{Pair}
use Rattle.envy_txn.specs.Entries.{own_of}
use Rattle.envy_txn.specs.Owners.{Ownership, IsOwnership, AreApart, others_of}
use Rattle.envy_txn.specs.Turns.{AreNamed, Releasing, ReleasedIn}
use Rattle.envy_txn.proofs.OwnLemmas.{own-apart, own-listed, own-named, ReleasedIn-own}
use Rattle.envy_txn.proofs.ReleaseLoop.{Releases-all, unused-released, AreOwned-released, AreParted-unused, PoolAgrees-unused}
use Rattle.envy_txn.proofs.owned.Owned.release_all.Goals as goal

pub release_pairs-requires-clause-named : goal.release_pairs-requires-clause-named
release_pairs-requires-clause-named g c =
    let old = chart (g.B.Board.state c.args.board.now) in
    let lit : old.on ≡ true = sym c.powered.ensures ∙ c.if-not-powered.false in
    let pairs : c.self.inside.ledger.pairs ≡ c.args.self.now.pairs = ap (λ (o : Ownership). o.pairs) c.self.view_is in
    let apart = subst (λ (ps : List Pair). AllPairs AreApart ps) pairs (IsOwnership.apart c.self.invariant.owners) in
    let listed : c.deref.result.now ≡ own_of c.args.t c.args.self.now.pairs = own-listed c.args.t c.deref.result.now c.list.new.list.items c.self.inside.ledger.pairs c.args.self.now.pairs c.deref.ensures.value c.list.ensures.pairs pairs in
    subst (λ (ps : List Pair). AreNamed c.args.t old.fields.undos ps) (sym listed) (own-named c.args.t (set old.fields.slots c.args.t (Some Active)) old.fields.undos c.args.self.now.pairs apart (c.requires.owned lit))

pub release_pairs-requires-clause-apart : goal.release_pairs-requires-clause-apart
release_pairs-requires-clause-apart g c =
    subst (λ (ps : List Pair). AllPairs AreApart ps) (sym (own-listed c.args.t c.deref.result.now c.list.new.list.items c.self.inside.ledger.pairs c.self.inside.ledger.pairs c.deref.ensures.value c.list.ensures.pairs refl)) (own-apart c.args.t c.self.inside.ledger.pairs (IsOwnership.apart c.self.invariant.owners))

pub returns-clause-releases : goal.returns-clause-releases
returns-clause-releases g c =
    let old = chart (g.B.Board.state c.args.board.now) in
    let new = chart (g.B.Board.state c.release_pairs.new.board) in
    let lit : old.on ≡ true = sym c.powered.ensures ∙ c.if-not-powered.false in
    let pairs : c.self.inside.ledger.pairs ≡ c.args.self.now.pairs = ap (λ (o : Ownership). o.pairs) c.self.view_is in
    let apart = subst (λ (ps : List Pair). AllPairs AreApart ps) pairs (IsOwnership.apart c.self.invariant.owners) in
    let listed : c.deref.result.now ≡ own_of c.args.t c.args.self.now.pairs = own-listed c.args.t c.deref.result.now c.list.new.list.items c.self.inside.ledger.pairs c.args.self.now.pairs c.deref.ensures.value c.list.ensures.pairs pairs in
    let releases = Releases-all old new c.args.self.now.pairs c.args.t (c.requires.releasing lit).sound c.requires.slot apart (c.requires.owned lit)
    (ReleasedIn-own c.args.t c.args.self.now.pairs old new (subst (λ (ps : List Pair). ReleasedIn ps c.args.t old new) listed c.in_ok-release_pairs.ensures.released)) in
    record { releases = releases; unused = unused-released old new c.args.t releases; pairs = c.leave.ensures ∙ ap (λ (o : Ownership). record o { pairs = others_of c.args.t o.pairs }) c.self.view_is }

pub returns-clause-agrees : goal.returns-clause-agrees
returns-clause-agrees g c on =
    let old = chart (g.B.Board.state c.args.board.now) in
    let new = chart (g.B.Board.state c.release_pairs.new.board) in
    let lit : old.on ≡ true = sym c.powered.ensures ∙ c.if-not-powered.false in
    let pairs : c.self.inside.ledger.pairs ≡ c.args.self.now.pairs = ap (λ (o : Ownership). o.pairs) c.self.view_is in
    let apart = subst (λ (ps : List Pair). AllPairs AreApart ps) pairs (IsOwnership.apart c.self.invariant.owners) in
    let done = returns-clause-releases g c in
    let releasing = c.in_ok-release_pairs.ensures.releasing in
    record {
      owned = rw (c.leave.ensures, pairs) (AreOwned-released old new c.args.self.now.pairs c.args.t apart (c.requires.owned lit) done.releases);
      pool = PoolAgrees-unused new c.release_pairs.new.space c.args.t done.unused (Releasing.agrees releasing);
      parted = AreParted-unused new c.args.t done.unused (Releasing.parted releasing);
    }

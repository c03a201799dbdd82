use Rattle.std.proofs.Common.{◌≡◌, true, List, refl, sym, ◌∙◌, ap, subst}
use Rattle.std.specs.List.{AllPairs, filter}
use Rattle.envy_map.specs.Fields.{chart}
use Rattle.envy_txn.specs.declared.pair.Pair.{Pair}
use Rattle.envy_txn.specs.Entries.{own_of}
use Rattle.envy_txn.specs.Owners.{Ownership, IsOwnership, AreApart, others_of}
use Rattle.envy_txn.specs.Turns.{AreNamed, Restoring, RestoredIn}
use Rattle.envy_txn.proofs.BackLoop.{Restores-all, unused-restored, AreOwned-restored, held-restored}
use Rattle.envy_txn.proofs.HeldLemmas.{is_kept_by}
use Rattle.envy_txn.proofs.OwnLemmas.{own-apart, own-listed, own-named, RestoredIn-own, kept-own}
use Rattle.envy_txn.proofs.owned.Owned.restore_all.Goals as goal

pub restore_pairs-requires-clause-named : goal.restore_pairs-requires-clause-named
restore_pairs-requires-clause-named g c =
    let old = chart (g.B.Board.state c.args.board.now) in
    let lit : old.on ≡ true = sym c.powered.ensures ∙ c.if-not-powered.false in
    let pairs : c.self.inside.ledger.pairs ≡ c.args.self.now.pairs = ap (λ (o : Ownership). o.pairs) c.self.view_is in
    let apart = subst (λ (ps : List Pair). AllPairs AreApart ps) pairs (IsOwnership.apart c.self.invariant.owners) in
    let listed : c.deref.result.now ≡ own_of c.args.t c.args.self.now.pairs = own-listed c.args.t c.deref.result.now c.list.new.list.items c.self.inside.ledger.pairs c.args.self.now.pairs c.deref.ensures.value c.list.ensures.pairs pairs in
    subst (λ (ps : List Pair). AreNamed c.args.t old.fields.undos ps) (sym listed) (own-named c.args.t old.fields.slots old.fields.undos c.args.self.now.pairs apart (c.requires.owned lit))

pub restore_pairs-requires-clause-apart : goal.restore_pairs-requires-clause-apart
restore_pairs-requires-clause-apart g c =
    subst (λ (ps : List Pair). AllPairs AreApart ps) (sym (own-listed c.args.t c.deref.result.now c.list.new.list.items c.self.inside.ledger.pairs c.self.inside.ledger.pairs c.deref.ensures.value c.list.ensures.pairs refl)) (own-apart c.args.t c.self.inside.ledger.pairs (IsOwnership.apart c.self.invariant.owners))

pub returns-clause-restores : goal.returns-clause-restores
returns-clause-restores g c =
    let old = chart (g.B.Board.state c.args.board.now) in
    let new = chart (g.B.Board.state c.restore_pairs.new.board) in
    let lit : old.on ≡ true = sym c.powered.ensures ∙ c.if-not-powered.false in
    let active = (c.requires.restoring lit).active in
    let pairs : c.self.inside.ledger.pairs ≡ c.args.self.now.pairs = ap (λ (o : Ownership). o.pairs) c.self.view_is in
    let apart = subst (λ (ps : List Pair). AllPairs AreApart ps) pairs (IsOwnership.apart c.self.invariant.owners) in
    let listed : c.deref.result.now ≡ own_of c.args.t c.args.self.now.pairs = own-listed c.args.t c.deref.result.now c.list.new.list.items c.self.inside.ledger.pairs c.args.self.now.pairs c.deref.ensures.value c.list.ensures.pairs pairs in
    let restores = Restores-all old new c.args.self.now.pairs c.args.t active apart (c.requires.owned lit)
    (RestoredIn-own c.args.t c.args.self.now.pairs old new (subst (λ (ps : List Pair). RestoredIn ps c.args.t old new) listed c.in_ok-restore_pairs.ensures.restored)) in
    record {
      restores = restores;
      unused = unused-restored old new c.args.t restores;
      pairs = c.leave.ensures ∙ ap (λ (o : Ownership). record o { pairs = others_of c.args.t o.pairs }) c.self.view_is;
      left = held-restored old c.args.self.now.pairs c.args.t c.args.frames.now.held c.restore_pairs.new.frames.held active apart (c.requires.owned lit)
          (subst (λ (ps : List Pair). c.restore_pairs.new.frames.held ≡ filter (is_kept_by ps c.args.t) c.args.frames.now.held) listed c.in_ok-restore_pairs.ensures.left
          ∙ kept-own c.args.t c.args.self.now.pairs c.args.frames.now.held);
    }

pub returns-clause-agrees : goal.returns-clause-agrees
returns-clause-agrees g c on =
    let old = chart (g.B.Board.state c.args.board.now) in
    let new = chart (g.B.Board.state c.restore_pairs.new.board) in
    let lit : old.on ≡ true = sym c.powered.ensures ∙ c.if-not-powered.false in
    let pairs : c.self.inside.ledger.pairs ≡ c.args.self.now.pairs = ap (λ (o : Ownership). o.pairs) c.self.view_is in
    let apart = subst (λ (ps : List Pair). AllPairs AreApart ps) pairs (IsOwnership.apart c.self.invariant.owners) in
    let done = returns-clause-restores g c in
    let restoring = c.in_ok-restore_pairs.ensures.restoring in
    record {
      owners = record {
        owned = rw (c.leave.ensures, pairs) (AreOwned-restored old new c.args.self.now.pairs c.args.t apart (c.requires.owned lit) done.restores);
        pool = Restoring.agrees restoring;
        parted = Restoring.parted restoring;
      };
      held = Restoring.are_held restoring;
      current = Restoring.current restoring;
    }

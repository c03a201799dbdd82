use Rattle.std.proofs.Common.{◌≡◌, List, true, length, set, Some, sym, ◌∙◌, ap, subst, arith}
use Rattle.envy_map.specs.Fields.{Chart, chart}
use Rattle.envy_soundness.specs.Sound.{Sound, Slots, slot_named}
use Rattle.envy_txn.specs.declared.pair.Pair.{Pair}
use Rattle.envy_txn.specs.Owners.{Ownership, AreOwned}
use Rattle.envy_txn.proofs.OwnerLemmas.{pairs-counted, may-open, may-named, AreOwned-pushed}
use Rattle.envy_txn.proofs.owned.Owned.own.Goals as goal

pub unreachable-requires : goal.unreachable-requires
unreachable-requires g c =
    let was = chart (g.B.Board.state c.args.board.now) in
    let lit : was.on ≡ true = sym c.powered.ensures ∙ c.if-not-powered.false in
    may-named was.shape was.fields was.flash c.args.page c.args.undo (c.requires.ready lit).may (sym c.slot_in.ensures ∙ c.in_default.is)

pub own_page-requires-clause-few : goal.own_page-requires-clause-few
own_page-requires-clause-few g c = λ on.
    let f = (chart (g.B.Board.state c.args.board.now)).fields in
    let pairs : c.self.inside.ledger.pairs ≡ c.args.self.now.pairs = ap (λ (o : Ownership). o.pairs) c.self.view_is in
    let long : length c.self.inside.ledger.pairs ≡ length c.args.self.now.pairs = ap (λ (xs : List Pair). length xs) pairs in
    let count = pairs-counted f.slots f.undos c.self.inside.ledger.pairs c.self.invariant.owners.apart (subst (AreOwned f.slots f.undos) (sym pairs) (c.requires.ready on).agrees) in
    let room = c.requires.room in let limit = c.requires.limit in
    omega arith

pub returns-clause-agrees : goal.returns-clause-agrees
returns-clause-agrees g c = λ on.
    let was = chart (g.B.Board.state c.args.board.now) in
    let lit : was.on ≡ true = sym c.powered.ensures ∙ c.if-not-powered.false in
    let sound = (c.requires.ready lit).sound in
    let named : slot_named (Some c.args.undo) ≡ Some c.in-Some.slot = sym c.slot_in.ensures ∙ c.in-Some.is in
    let opened = may-open was.shape was.fields was.flash c.args.page c.in-Some.slot c.args.undo (c.requires.ready lit).may named in
    let owned : AreOwned was.fields.slots (set was.fields.undos c.args.page (Some c.args.undo)) c.add.new.self.pairs =
    rw c.add.ensures (AreOwned-pushed was.fields.slots was.fields.undos c.args.self.now.pairs c.args.page c.in-Some.slot c.args.undo (c.requires.ready lit).agrees c.requires.free (rw (Slots.undos_long (Sound.slots sound)) c.requires.page) named opened.1) in
    subst (λ (z : Chart). AreOwned z.fields.slots z.fields.undos c.add.new.self.pairs) (sym c.in_ok-own_page.ensures.fields) owned

use Rattle.std.proofs.Common.{◌≡◌, List, map, length, set, refl, ◌∙◌, ap, rules}
use Rattle.std.proofs.lemmas.List.{with_items_is, length-map}
use Rattle.envy_txn.specs.declared.entry.Entry.{Entry}
use Rattle.envy_txn.specs.Entries.{own_of, pairs_in, end_of}
use Rattle.envy_txn.proofs.LedgerLemmas.{IsLedger-ended, book-ended}
use Rattle.envy_txn.proofs.ledger.Ledger.leave.Goals as goal

pub overflow_sub-self : goal.overflow_sub-self
overflow_sub-self c =
    let xs = c.self.inside.entries.items in
    (IsLedger-ended c.args.t xs (map (end_of c.args.t) xs) c.self.inside.newest (set c.self.inside.newest c.args.t 0) c.self.inside.places.items c.self.inside.count c.end_chain-ended.result c.self.inside.room _ c.self.invariant
    refl refl (c.end_chain-ended.ensures.count ∙ ap (λ (ys : List Entry). length (own_of c.args.t (pairs_in ys))) c.deref_mut.ensures.value)).0

pub invariant_of-self : goal.invariant_of-self
invariant_of-self c =
    let xs = c.self.inside.entries.items in
    let ended : c.end_chain-ended.new.entries ≡ map (end_of c.args.t) xs = c.end_chain-ended.ensures.entries ∙ ap (λ (ys : List Entry). map (end_of c.args.t) ys) c.deref_mut.ensures.value in
    let long : length c.end_chain-ended.new.entries ≡ c.self.inside.entries.len = ap (λ (ys : List Entry). length ys) ended ∙ length-map xs (end_of c.args.t) ∙ search rules in
    (IsLedger-ended c.args.t xs _ c.self.inside.newest c.end_chain-ended.new.newest c.self.inside.places.items c.self.inside.count c.end_chain-ended.result c.self.inside.room _ c.self.invariant
    (with_items_is c.self.inside.entries c.end_chain-ended.new.entries long ∙ ended) c.end_chain-ended.ensures.newest
    (c.end_chain-ended.ensures.count ∙ ap (λ (ys : List Entry). length (own_of c.args.t (pairs_in ys))) c.deref_mut.ensures.value)).1

pub returns : goal.returns
returns c =
    let xs = c.self.inside.entries.items in
    let ended : c.end_chain-ended.new.entries ≡ map (end_of c.args.t) xs = c.end_chain-ended.ensures.entries ∙ ap (λ (ys : List Entry). map (end_of c.args.t) ys) c.deref_mut.ensures.value in
    let long : length c.end_chain-ended.new.entries ≡ c.self.inside.entries.len = ap (λ (ys : List Entry). length ys) ended ∙ length-map xs (end_of c.args.t) ∙ search rules in
    book-ended c.args.t xs _ c.self.inside.room c.args.self.now c.self.view_is (with_items_is c.self.inside.entries c.end_chain-ended.new.entries long ∙ ended)

use Rattle.std.proofs.Common.{◌≡◌, ◌+◌, ℕ, List, None, length, set, refl, ◌∙◌, ap, arith, rules}
use Rattle.std.proofs.lemmas.List.{with_items_is, length-set}
use Rattle.envy_txn.specs.Entries.{Book, pairs_in}
use Rattle.envy_txn.specs.Owners.{owner_of}
use Rattle.envy_txn.proofs.EntryLemmas.{pairs_in-long}
use Rattle.envy_txn.proofs.LedgerLemmas.{IsLedger-joined, book-joined, joined}
use Rattle.envy_txn.proofs.ledger.Ledger.append.Goals as goal

pub overflow_add-self-2 : goal.overflow_add-self-2
overflow_add-self-2 c =
    let xs = c.self.inside.entries.items in
    let long = pairs_in-long xs in
    let used : length xs ≡ c.args.self.now.used = ap (λ (b : Book). b.used) c.self.view_is in
    let room : c.self.inside.room ≡ c.args.self.now.room = ap (λ (b : Book). b.room) c.self.view_is in
    let counted = c.self.invariant.counted in
    let less = c.requires.room in
    let few = c.self.invariant.few in
    omega arith

pub invariant_of-self : goal.invariant_of-self
invariant_of-self c =
    let xs = c.self.inside.entries.items in
    let y = c.args.pair in
    let used : length xs ≡ c.args.self.now.used = ap (λ (b : Book). b.used) c.self.view_is in
    let room : c.self.inside.room ≡ c.args.self.now.room = ap (λ (b : Book). b.room) c.self.view_is in
    let free : owner_of (pairs_in xs) y.page ≡ None = ap (λ (b : Book). owner_of b.pairs y.page) c.self.view_is ∙ c.requires.free in
    let more = c.requires.room in
    let inv_used = c.self.invariant.used in
    let inv_fits = c.self.invariant.fits in
    let noted : c.note.new.places ≡ set c.self.inside.places.items y.page (length xs) = search rules in
    let long : length c.note.new.places ≡ c.self.inside.places.len = ap (λ (ps : List ℕ). length ps) noted ∙ length-set c.self.inside.places.items y.page (length xs) ∙ search rules in
    IsLedger-joined xs c.push_reserved.new.self.items c.self.inside.newest _ c.self.inside.places.items _ c.self.inside.count c.self.inside.room _ _ y c.self.invariant
    (omega arith) (search rules) free (let same = c.push_reserved.ensures.capacity in omega arith)
    c.push_reserved.ensures.items
    (ap (λ (n : ℕ). set c.self.inside.newest y.slot (n + 1)) (search rules))
    (with_items_is c.self.inside.places c.note.new.places long ∙ noted)

pub returns : goal.returns
returns c =
    let xs = c.self.inside.entries.items in
    book-joined xs c.push_reserved.new.self.items (joined c.self.inside.newest c.args.pair) c.self.inside.room c.args.self.now c.self.view_is refl
    c.push_reserved.ensures.items

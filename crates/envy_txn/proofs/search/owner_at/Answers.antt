use Rattle.std.proofs.Common.{◌≡◌, ℕ, true, get_or, sym, ◌∙◌, ap, arith}
use Rattle.std.proofs.lemmas.List.{get_or_default}
use Rattle.std.proofs.lemmas.Bool.{both_ways}
use Rattle.envy_txn.specs.declared.entry.Entry.{Entry}
use Rattle.envy_txn.proofs.EntryLemmas.{some_entry, owner_of-first, owner_of-nobody}
use Rattle.envy_txn.proofs.search.owner_at.Goals as goal
use Rattle.envy_txn.proofs.search.owner_at.Goals.{else-entry-via-then-entry+else-entry-page, else-entry-via-else-entry}

pub returns-then-entry-page : goal.returns-then-entry-page
returns-then-entry-page c =
    sym (owner_of-first c.args.entries.now c.args.place c.args.page some_entry c.if-place-entries.true c.if-entry.true c.if-entry-page.true
    (λ k d less live page. let same = c.requires k d (let lt = c.if-place-entries.true in omega arith) live page in omega arith))

pub returns-else-entry : goal.returns-else-entry
returns-else-entry c =
    let xs = c.args.entries.now in
    let e = get_or xs c.args.place some_entry in
    sym (owner_of-nobody xs c.args.page (λ k d lt live page.
    let same = c.requires k d lt live page in
    let is = ap (λ (n : ℕ). get_or xs n d) same ∙ get_or_default xs c.args.place d some_entry (let low = c.if-place-entries.true in omega arith) in
    let alive : e.live ≡ true = sym (ap (λ (x : Entry). x.live) is) ∙ live in
    let paged : e.pair.page ≡ c.args.page = sym (ap (λ (x : Entry). x.pair.page) is) ∙ page in
    elim c.else-entry.branch [
      | else-entry-via-then-entry+else-entry-page w ↦ w.if-entry-page.false paged
      | else-entry-via-else-entry w ↦ both_ways e.live w.if-entry.false alive
    ]))

pub returns-else-place-entries : goal.returns-else-place-entries
returns-else-place-entries c =
    sym (owner_of-nobody c.args.entries.now c.args.page (λ k d lt live page. let same = c.requires k d lt live page in let past = c.if-place-entries.false in omega arith))

use Rattle.std.proofs.Common.{sym, arith}
use Rattle.envy_txn.proofs.EntryLemmas.{some_entry, owner_of-first, owner_of-nobody}
use Rattle.envy_txn.proofs.search.owner_among.Goals as goal

pub returns-then-entry-page : goal.returns-then-entry-page
returns-then-entry-page c =
    sym (owner_of-first c.args.entries.now c.loop-entry.entry-index c.args.page some_entry c.loop-entry-test.true c.if-entry.true c.if-entry-page.true c.loop-entry.invariant)

pub returns : goal.returns
returns c = sym (owner_of-nobody c.args.entries.now c.args.page (λ k d lt live page. c.loop-entry.invariant k d (let end = c.loop-entry-test.false in omega arith) live page))

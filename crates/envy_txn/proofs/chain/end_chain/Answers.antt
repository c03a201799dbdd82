use Rattle.std.proofs.Common.{◌-◌, ◌∷◌, [], List, length, take, get_or, refl, ◌∙◌, ap, arith}
use Rattle.std.proofs.lemmas.List.{length-append}
use Rattle.envy_txn.specs.declared.pair.Pair.{Pair}
use Rattle.envy_txn.specs.Entries.{own_of, pairs_in}
use Rattle.envy_txn.proofs.ChainLemmas.{Walks-first, own-first, EndedFrom-none, EndedFrom-turn, EndedFrom-all}
use Rattle.envy_txn.proofs.EntryLemmas.{some_entry, own-long, pairs_in-long}
use Rattle.envy_txn.proofs.chain.end_chain.Goals as goal

pub loop-at-init : goal.loop-at-init
loop-at-init c =
    let xs = c.args.entries.now in
    let low = c.ranges.t.fits in
    record {
      walks = Walks-first c.args.t xs c.args.newest.now c.requires.chained (omega arith);
      ended = EndedFrom-none c.args.t (get_or c.args.newest.now c.args.t 0) xs c.args.newest.now c.requires.chained (omega arith) refl;
      count = let all = ap (λ (ps : List Pair). length ps) (own-first c.args.t xs c.args.newest.now c.requires.chained (omega arith)) in omega arith;
    }

pub overflow_add-ended : goal.overflow_add-ended
overflow_add-ended c =
    let xs = c.args.entries.now in
    let at = c.loop-at.at in
    let inv = c.loop-at.invariant in
    let test = c.loop-at-test.true in
    let turn = (EndedFrom-turn c.args.t at xs c.loop-at.entries c.args.newest.now some_entry c.requires.chained inv.walks (omega arith) inv.ended).0 in
    let e = get_or c.loop-at.entries (at - 1) some_entry in
    let long = ap (λ (ps : List Pair). length ps) turn.pairs ∙ length-append (own_of c.args.t (pairs_in (take e.older xs))) (e.pair ∷ []) in
    let fewer = own-long c.args.t (pairs_in xs) in
    let within = pairs_in-long xs in
    let few = c.requires.few in
    let count = inv.count in
    omega arith

pub loop-at-preserved : goal.loop-at-preserved
loop-at-preserved c =
    let xs = c.args.entries.now in
    let at = c.loop-at.at in
    let inv = c.loop-at.invariant in
    let test = c.loop-at-test.true in
    let turns = EndedFrom-turn c.args.t at xs c.loop-at.entries c.args.newest.now some_entry c.requires.chained inv.walks (omega arith) inv.ended in
    let turn = turns.0 in
    let e = get_or c.loop-at.entries (at - 1) some_entry in
    let long = ap (λ (ps : List Pair). length ps) turn.pairs ∙ length-append (own_of c.args.t (pairs_in (take e.older xs))) (e.pair ∷ []) in
    record {
      walks = turn.walks;
      ended = turns.1;
      count = let count = inv.count in omega arith;
    }

pub returns-clause-entries : goal.returns-clause-entries
returns-clause-entries c = EndedFrom-all c.args.t c.loop-at.at c.args.entries.now c.loop-at.entries (let end = c.loop-at-test.false in omega arith) c.loop-at.invariant.ended

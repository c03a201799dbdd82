use Rattle.std.proofs.Common.{ℕ, ◌-◌, ◌∷◌, [], ◌++◌, List, take, get_or, reverse, sym, ◌∙◌, ap, arith}
use Rattle.std.proofs.lemmas.List.{append-nil, append_assoc, reverse-append}
use Rattle.envy_txn.specs.declared.pair.Pair.{Pair}
use Rattle.envy_txn.specs.Entries.{own_of, pairs_in}
use Rattle.envy_txn.proofs.ChainLemmas.{Walks-first, own-first, Turns-at, listed-few}
use Rattle.envy_txn.proofs.EntryLemmas.{some_entry}
use Rattle.envy_txn.proofs.chain.list_chain.Goals as goal

pub loop-at-init : goal.loop-at-init
loop-at-init c =
    let xs = c.args.entries.now in
    let at = get_or c.args.newest.now c.args.t 0 in
    let low = c.ranges.t.fits in
    record {
      walks = Walks-first c.args.t xs c.args.newest.now c.requires.chained (omega arith);
      listed = ap (λ (ps : List Pair). own_of c.args.t (pairs_in (take at xs)) ++ reverse ps) c.clear.ensures.items ∙ append-nil (own_of c.args.t (pairs_in (take at xs)))
          ∙ own-first c.args.t xs c.args.newest.now c.requires.chained (omega arith);
      capacity = let kept = c.clear.ensures.capacity in omega arith;
    }

pub push_reserved-requires : goal.push_reserved-requires
push_reserved-requires c =
    let inv = c.loop-at.invariant in
    let test = c.loop-at-test.true in
    let few = listed-few c.args.t c.loop-at.at c.args.entries.now c.args.newest.now c.loop-at.list.items c.requires.chained inv.walks (omega arith) inv.listed in
    let fits = c.requires.fits in let kept = inv.capacity in
    omega arith

pub loop-at-preserved : goal.loop-at-preserved
loop-at-preserved c =
    let xs = c.args.entries.now in
    let e = get_or xs (c.loop-at.at - 1) some_entry in
    let inv = c.loop-at.invariant in
    let test = c.loop-at-test.true in
    let turn = Turns-at c.args.t c.loop-at.at xs c.args.newest.now some_entry c.requires.chained inv.walks (omega arith) in
    let front = own_of c.args.t (pairs_in (take e.older xs)) in
    record {
      walks = turn.walks;
      listed = ap (λ (ps : List Pair). front ++ reverse ps) c.push_reserved.ensures.items ∙ ap (λ (ps : List Pair). front ++ ps) (reverse-append c.loop-at.list.items (e.pair ∷ []))
          ∙ sym (append_assoc front (e.pair ∷ []) (reverse c.loop-at.list.items)) ∙ ap (λ (ps : List Pair). ps ++ reverse c.loop-at.list.items) (sym turn.pairs) ∙ inv.listed;
      capacity = let same = c.push_reserved.ensures.capacity in let kept = inv.capacity in omega arith;
    }

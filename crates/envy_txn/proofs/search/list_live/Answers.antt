use Rattle.std.proofs.Common.{◌≡◌, ◌+◌, ◌∷◌, [], ◌++◌, Bool, List, length, take, get_or, sym, ◌∙◌, ap, arith}
use Rattle.std.specs.Prelude.{if◌then◌else◌}
use Rattle.std.proofs.lemmas.List.{append-nil, length_push}
use Rattle.envy_txn.specs.declared.pair.Pair.{Pair}
use Rattle.envy_txn.specs.Entries.{pairs_in}
use Rattle.envy_txn.proofs.EntryLemmas.{some_entry, pairs_in-more, pairs_in-front}
use Rattle.envy_txn.proofs.search.list_live.Goals as goal
use Rattle.envy_txn.proofs.search.list_live.Goals.{then-entry, else-entry}

pub push_reserved-requires : goal.push_reserved-requires
push_reserved-requires c =
    let xs = c.args.entries.now in
    let i = c.loop-entry.entry-index in
    let inv = c.loop-entry.invariant in
    let all : pairs_in (take (i + 1) xs) ≡ pairs_in (take i xs) ++ (get_or xs i some_entry).pair ∷ [] = pairs_in-more xs i some_entry c.loop-entry-test.true
    ∙ ap (λ (b : Bool). pairs_in (take i xs) ++ (if b then (get_or xs i some_entry).pair ∷ [] else [])) c.if-entry.true in
    let long = ap (λ (ps : List Pair). length ps) all ∙ length_push (pairs_in (take i xs)) (get_or xs i some_entry).pair in
    let same = ap (λ (ps : List Pair). length ps) inv.listed in
    let front = pairs_in-front xs (i + 1) in
    let fits = c.requires.fits in let kept = inv.capacity in
    omega arith

pub loop-entry-preserved : goal.loop-entry-preserved
loop-entry-preserved c =
    let xs = c.args.entries.now in
    let i = c.loop-entry.entry-index in
    let e = get_or xs i some_entry in
    let inv = c.loop-entry.invariant in
    let more = pairs_in-more xs i some_entry c.loop-entry-test.true in
    elim c.if-entry.branch [
      | then-entry w ↦
          let all : pairs_in (take (i + 1) xs) ≡ pairs_in (take i xs) ++ e.pair ∷ [] = more ∙ ap (λ (b : Bool). pairs_in (take i xs) ++ (if b then e.pair ∷ [] else [])) w.if-entry.true in
          rw w.list-is (record {
            listed = w.push_reserved.ensures.items ∙ ap (λ (ps : List Pair). ps ++ e.pair ∷ []) inv.listed ∙ sym all;
            capacity = let same = w.push_reserved.ensures.capacity in let kept = inv.capacity in omega arith;
          })
      | else-entry w ↦
          rw w.list-is (record {
            listed = inv.listed ∙ sym (more ∙ ap (λ (b : Bool). pairs_in (take i xs) ++ (if b then e.pair ∷ [] else [])) w.if-entry.false ∙ append-nil (pairs_in (take i xs)));
            capacity = inv.capacity;
          })
    ]

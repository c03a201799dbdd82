use Rattle.std.proofs.Common.{ℕ, ◌≡◌, ◌<◌, ◌≤◌, ◌∙◌, List, ap, length, take, drop, arith}
use Rattle.std.specs.Prelude.{Ok, Err, replicate}
use Rattle.std.proofs.lemmas.List.{length-map, length-replicate, length-take-le}
use Rattle.envy_btree.specs.Index.{most_pairs}
use Rattle.envy_index_calls.specs.Scanned.{pair_in, pairs_in}
use Rattle.envy_index_calls.proofs.Feeding.{IsNext, key-of, leaf-done, leaf-failed, next-follows, next-of, next-settles}
use Rattle.envy_index_calls.proofs.loading.load_leaf.Goals as goal

pub copy_part-requires : goal.copy_part-requires
copy_part-requires g c =
    let blank : List (ℕ × ℕ) = replicate 31 (0, 0) in
    let size = c.leaf_size-count.ensures in
    let long = length-take-le c.leaf_size-count.result blank (omega (arith, size.few, length-replicate {A = ℕ × ℕ} 31 (0, 0))) in
    omega (arith, size.within, c.requires.more, long)

pub append-requires-clause-most : goal.append-requires-clause-most
append-requires-clause-most g c =
    let blank : List (ℕ × ℕ) = replicate 31 (0, 0) in
    let size = c.leaf_size-count.ensures in
    let long = length-take-le c.leaf_size-count.result blank (omega (arith, size.few, length-replicate {A = ℕ × ℕ} 31 (0, 0))) in
    omega (arith, size.few, long, c.copy_part.auto.part)

pub append-requires-clause-map : goal.append-requires-clause-map
append-requires-clause-map g c =
    let blank : List (ℕ × ℕ) = replicate 31 (0, 0) in
    let size = c.leaf_size-count.ensures in
    let count = c.leaf_size-count.result in
    let xs = c.args.pairs.now in
    let ps = pairs_in xs in
    let long = length-take-le count blank (omega (arith, size.few, length-replicate {A = ℕ × ℕ} 31 (0, 0))) in
    let part : IsNext ps c.args.done count = next-of xs c.args.done count size.some size.within size.enough size.rest in
    let more : c.args.done < length ps = omega (arith, c.requires.more, length-map xs pair_in) in
    (take c.args.done ps, c.requires.loaded.index, next-follows (g.W.Words.sheet c.args.words.now).words ps c.copy_part.new.part c.args.done count _ c.requires.loaded part c.requires.rising more (key-of xs c.args.done _ c.requires.more) (c.copy_part.ensures ∙ ap (λ (n : ℕ). take n (drop c.args.done ps)) long))

pub returns-in-Ok-clause-loads : goal.returns-in-Ok-clause-loads
returns-in-Ok-clause-loads g c =
    let blank : List (ℕ × ℕ) = replicate 31 (0, 0) in
    let size = c.leaf_size-count.ensures in
    let count = c.leaf_size-count.result in
    let xs = c.args.pairs.now in
    let ps = pairs_in xs in
    let old = g.W.Words.sheet c.args.words.now in
    let new = g.W.Words.sheet c.append.new.words in
    let long = length-take-le count blank (omega (arith, size.few, length-replicate {A = ℕ × ℕ} 31 (0, 0))) in
    let part : IsNext ps c.args.done count = next-of xs c.args.done count size.some size.within size.enough size.rest in
    let more : c.args.done < length ps = omega (arith, c.requires.more, length-map xs pair_in) in
    let few : length ps ≤ most_pairs old.words = omega (arith, c.requires.few, length-map xs pair_in) in
    leaf-done ps c.args.done count old new c.requires.loaded part more (next-settles ps c.copy_part.new.part c.args.done count _ old new (Ok c.in-Ok.field-0) c.requires.loaded part c.requires.rising more few (key-of xs c.args.done _ c.requires.more) (c.copy_part.ensures ∙ ap (λ (n : ℕ). take n (drop c.args.done ps)) long) c.in-Ok.ensures.settles)

pub returns-in-Err-clause-loads : goal.returns-in-Err-clause-loads
returns-in-Err-clause-loads g c =
    let blank : List (ℕ × ℕ) = replicate 31 (0, 0) in
    let size = c.leaf_size-count.ensures in
    let count = c.leaf_size-count.result in
    let xs = c.args.pairs.now in
    let ps = pairs_in xs in
    let old = g.W.Words.sheet c.args.words.now in
    let new = g.W.Words.sheet c.append.new.words in
    let long = length-take-le count blank (omega (arith, size.few, length-replicate {A = ℕ × ℕ} 31 (0, 0))) in
    let part : IsNext ps c.args.done count = next-of xs c.args.done count size.some size.within size.enough size.rest in
    let more : c.args.done < length ps = omega (arith, c.requires.more, length-map xs pair_in) in
    let few : length ps ≤ most_pairs old.words = omega (arith, c.requires.few, length-map xs pair_in) in
    leaf-failed ps c.args.done count old new c.in-Err.fault c.requires.loaded part more (next-settles ps c.copy_part.new.part c.args.done count _ old new (Err c.in-Err.fault) c.requires.loaded part c.requires.rising more few (key-of xs c.args.done _ c.requires.more) (c.copy_part.ensures ∙ ap (λ (n : ℕ). take n (drop c.args.done ps)) long) c.in-Err.ensures.settles)

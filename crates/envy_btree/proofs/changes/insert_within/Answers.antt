use Rattle.std.proofs.Common.{◌+◌, ◌*◌, ◌∙◌, arith, length}
use Rattle.envy_array.proofs.Working.{Spends-then, Spends-trans}
use Rattle.envy_btree.specs.Depths.{insertion_puts}
use Rattle.envy_btree.specs.Pairs.{with_pair}
use Rattle.envy_btree.proofs.Withins.{pairs-counted, within-few, within-room, within-index, within-planted, pages-in}
use Rattle.envy_btree.proofs.changes.insert_within.Goals as goal

pub returns-in-Ok-clause-inserts : goal.returns-in-Ok-clause-inserts
returns-in-Ok-clause-inserts g c es x =
    let old = (g.W.Words.sheet c.args.words.now).words in
    let two = (g.W.Words.sheet c.load.new.self).words in
    let new = (g.W.Words.sheet c.insert_inside.new.words).words in
    let n = c.count_with-pairs.result in
    let same = c.in_ok-before.ensures.answer.2 ∙ c.in_ok-was.ensures.same in
    let found = c.in_ok-was.ensures.value es x in
    let count = pairs-counted old _ c.args.key c.args.value n _ es _ x c.in_ok-was.ensures.same found c.in_ok-before.ensures.answer.1 c.count_with-pairs.ensures in
    let few = within-few old two n c.size.result c.most_pairs.result same c.size.ensures c.most_pairs.ensures c.if-pairs-most_pairs.false in
    let now = within-planted old two es same x in
    let made = c.in-Ok.ensures.planted es now.0 now.1 in
    let long = c.insert_inside.ensures.works.long ∙ c.in_ok-before.ensures.works.long ∙ c.in_ok-was.ensures.works.long in
    (c.in-Ok.ensures.fails, found, within-room old c.args.key c.args.value n es count few, within-index old new n (with_pair c.args.key c.args.value es) long count few made)

pub returns-in-Err-Off-clause-spends : goal.returns-in-Err-Off-clause-spends
returns-in-Err-Off-clause-spends g c = Spends-then (0 + 0) (129 * c.in_ok-was.was'.depth + 196) (insertion_puts (length (g.W.Words.sheet c.args.words.now).words)) _ _ _ (omega (arith, c.in_ok-was.ensures.few)) (Spends-trans 0 0 _ _ _ c.look_up.ensures.spends c.load.ensures.spends) c.insert_inside.ensures.spends

pub returns-in-Err-Bad-clause-spends : goal.returns-in-Err-Bad-clause-spends
returns-in-Err-Bad-clause-spends g c = Spends-then (0 + 0) (129 * c.in_ok-was.was'.depth + 196) (insertion_puts (length (g.W.Words.sheet c.args.words.now).words)) _ _ _ (omega (arith, c.in_ok-was.ensures.few)) (Spends-trans 0 0 _ _ _ c.look_up.ensures.spends c.load.ensures.spends) c.insert_inside.ensures.spends

pub returns-in-Ok-clause-pages : goal.returns-in-Ok-clause-pages
returns-in-Ok-clause-pages g c depth deep = pages-in _ c.requires.map.0 c.in_ok-was.was'.depth depth 7 _ _ _ _ c.requires.map.1 c.in_ok-was.ensures.depth deep c.in_ok-was.ensures.works c.in_ok-before.ensures.works c.insert_inside.ensures.works

pub returns-in-Err-Off-clause-pages : goal.returns-in-Err-Off-clause-pages
returns-in-Err-Off-clause-pages g c depth deep = pages-in _ c.requires.map.0 c.in_ok-was.was'.depth depth 7 _ _ _ _ c.requires.map.1 c.in_ok-was.ensures.depth deep c.in_ok-was.ensures.works c.in_ok-before.ensures.works c.insert_inside.ensures.works

pub returns-in-Err-Bad-clause-pages : goal.returns-in-Err-Bad-clause-pages
returns-in-Err-Bad-clause-pages g c depth deep = pages-in _ c.requires.map.0 c.in_ok-was.was'.depth depth 7 _ _ _ _ c.requires.map.1 c.in_ok-was.ensures.depth deep c.in_ok-was.ensures.works c.in_ok-before.ensures.works c.insert_inside.ensures.works

pub returns-in-Ok-clause-spends : goal.returns-in-Ok-clause-spends
returns-in-Ok-clause-spends g c = Spends-then (0 + 0) (129 * c.in_ok-was.was'.depth + 196) (insertion_puts (length (g.W.Words.sheet c.args.words.now).words)) _ _ _ (omega (arith, c.in_ok-was.ensures.few)) (Spends-trans 0 0 _ _ _ c.look_up.ensures.spends c.load.ensures.spends) c.insert_inside.ensures.spends

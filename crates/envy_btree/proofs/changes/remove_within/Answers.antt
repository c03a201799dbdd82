use Rattle.std.proofs.Common.{◌+◌, ◌*◌, ◌∙◌, sym, arith, length}
use Rattle.envy_array.proofs.Working.{Spends-then, Spends-trans}
use Rattle.envy_btree.specs.Depths.{dropping_puts}
use Rattle.envy_btree.specs.Pairs.{without}
use Rattle.envy_btree.proofs.Withins.{within-index, within-planted, removed-count, removed-none, pages-in}
use Rattle.envy_btree.proofs.changes.remove_within.Goals as goal

pub returns-in_default-clause-removes : goal.returns-in_default-clause-removes
returns-in_default-clause-removes g c es x =
    let found = c.in_ok-was.ensures.value es x in
    (c.in_ok-was.ensures.power, sym c.in_default.is ∙ found, removed-none _ _ c.args.key es _ x c.in_ok-was.ensures.same found c.in_default.is)

pub returns-in-Ok-clause-removes : goal.returns-in-Ok-clause-removes
returns-in-Ok-clause-removes g c es x =
    let old = (g.W.Words.sheet c.args.words.now).words in
    let new = (g.W.Words.sheet c.remove_inside.new.words).words in
    let same = c.in_ok-pairs.ensures.answer.2 ∙ c.in_ok-was.ensures.same in
    let found = c.in_ok-was.ensures.value es x in
    let count = removed-count old _ c.args.key c.in-Some.value _ es _ x c.in_ok-was.ensures.same found c.in-Some.is c.in_ok-pairs.ensures.answer.1 in
    let made = c.in-Ok.ensures.planted es (within-planted old _ es same x).0 in
    let long = c.remove_inside.ensures.works.long ∙ c.in_ok-pairs.ensures.works.long ∙ c.in_ok-was.ensures.works.long in
    (c.in-Ok.ensures.fails, sym c.in-Some.is ∙ found, within-index old new _ (without c.args.key es) long count.0 count.2 made)

pub returns-in-Err-Off-clause-spends : goal.returns-in-Err-Off-clause-spends
returns-in-Err-Off-clause-spends g c = Spends-then (0 + 0) (192 * c.in_ok-was.was'.depth + 129) (dropping_puts (length (g.W.Words.sheet c.args.words.now).words)) _ _ _ (omega (arith, c.in_ok-was.ensures.few)) (Spends-trans 0 0 _ _ _ c.look_up.ensures.spends c.load.ensures.spends) c.remove_inside.ensures.spends

pub returns-in-Err-Bad-clause-spends : goal.returns-in-Err-Bad-clause-spends
returns-in-Err-Bad-clause-spends g c = Spends-then (0 + 0) (192 * c.in_ok-was.was'.depth + 129) (dropping_puts (length (g.W.Words.sheet c.args.words.now).words)) _ _ _ (omega (arith, c.in_ok-was.ensures.few)) (Spends-trans 0 0 _ _ _ c.look_up.ensures.spends c.load.ensures.spends) c.remove_inside.ensures.spends

pub returns-in-Ok-clause-pages : goal.returns-in-Ok-clause-pages
returns-in-Ok-clause-pages g c depth deep = pages-in _ c.requires.map.0 c.in_ok-was.was'.depth depth 4 _ _ _ _ c.requires.map.1 c.in_ok-was.ensures.depth deep c.in_ok-was.ensures.works c.in_ok-pairs.ensures.works c.remove_inside.ensures.works

pub returns-in-Err-Off-clause-pages : goal.returns-in-Err-Off-clause-pages
returns-in-Err-Off-clause-pages g c depth deep = pages-in _ c.requires.map.0 c.in_ok-was.was'.depth depth 4 _ _ _ _ c.requires.map.1 c.in_ok-was.ensures.depth deep c.in_ok-was.ensures.works c.in_ok-pairs.ensures.works c.remove_inside.ensures.works

pub returns-in-Err-Bad-clause-pages : goal.returns-in-Err-Bad-clause-pages
returns-in-Err-Bad-clause-pages g c depth deep = pages-in _ c.requires.map.0 c.in_ok-was.was'.depth depth 4 _ _ _ _ c.requires.map.1 c.in_ok-was.ensures.depth deep c.in_ok-was.ensures.works c.in_ok-pairs.ensures.works c.remove_inside.ensures.works

pub returns-in-Ok-clause-spends : goal.returns-in-Ok-clause-spends
returns-in-Ok-clause-spends g c = Spends-then (0 + 0) (192 * c.in_ok-was.was'.depth + 129) (dropping_puts (length (g.W.Words.sheet c.args.words.now).words)) _ _ _ (omega (arith, c.in_ok-was.ensures.few)) (Spends-trans 0 0 _ _ _ c.look_up.ensures.spends c.load.ensures.spends) c.remove_inside.ensures.spends

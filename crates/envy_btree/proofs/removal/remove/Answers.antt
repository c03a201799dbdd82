use Rattle.std.proofs.Common.{◌≡◌, ◌-◌, ◌^◌, ◌≤◌, ◌∙◌, sym, subst, arith, length, None}
use Rattle.envy_btree.specs.Pairs.{assoc, without}
use Rattle.envy_btree.specs.Depths.{most_levels, removal_pages}
use Rattle.envy_btree.specs.Index.{IsIndex, most_pairs}
use Rattle.envy_btree.proofs.Withins.{index-same, looked}
use Rattle.envy_btree.proofs.Keeping.{keeps-works, works-keep}
use Rattle.envy_btree.proofs.Calls.{removes-err, removes-off, kept-index, third-within}
use Rattle.envy_btree.proofs.Felling.{without-missing, without-present, some-pair}
use Rattle.envy_btree.proofs.removal.remove.Goals as goal

pub returns-in_default-clause-removes : goal.returns-in_default-clause-removes
returns-in_default-clause-removes g c es x =
    let got = looked c.args.key es _ (g.W.Words.sheet c.args.words.now) (g.W.Words.sheet c.look_up.new.words) c.in_ok-was.ensures.power (c.in_ok-was.ensures.value es x) c.in_ok-was.ensures.same x in
    let none : assoc c.args.key es ≡ None = sym got.1 ∙ c.in_default.is in
    (got.0, sym none, subst (λ e. IsIndex (g.W.Words.sheet c.look_up.new.words).words e) (sym (without-missing c.args.key es none)) got.2)

pub returns-in-Ok-clause-removes : goal.returns-in-Ok-clause-removes
returns-in-Ok-clause-removes g c es x =
    let two = g.W.Words.sheet c.load.new.self in
    let got = looked c.args.key es _ (g.W.Words.sheet c.args.words.now) (g.W.Words.sheet c.look_up.new.words) c.in_ok-was.ensures.power (c.in_ok-was.ensures.value es x) c.in_ok-was.ensures.same x in
    let now : IsIndex two.words es = subst (λ w. IsIndex w es) (sym c.in_ok-pairs.ensures.answer.2) got.2 in
    let before : c.in_ok-pairs.pairs ≡ length es = c.in_ok-pairs.ensures.answer.1 ∙ got.2.count in
    let present = without-present c.args.key c.in-Some.value es (sym got.1 ∙ c.in-Some.is) in
    let count : c.in_ok-pairs.pairs - 1 ≡ length (without c.args.key es) = omega arith in
    let few : c.in_ok-pairs.pairs - 1 ≤ most_pairs two.words = omega (arith, now.few) in
    let done = c.in-Ok.ensures.settles es now count few in
    (done.0, sym c.in-Some.is ∙ got.1, done.1)

pub returns-in-Err-clause-removes : goal.returns-in-Err-clause-removes
returns-in-Err-clause-removes g c es x =
    let old = g.W.Words.sheet c.args.words.now in
    let two = g.W.Words.sheet c.load.new.self in
    let got = looked c.args.key es _ (g.W.Words.sheet c.args.words.now) (g.W.Words.sheet c.look_up.new.words) c.in_ok-was.ensures.power (c.in_ok-was.ensures.value es x) c.in_ok-was.ensures.same x in
    let now : IsIndex two.words es = subst (λ w. IsIndex w es) (sym c.in_ok-pairs.ensures.answer.2) got.2 in
    let before : c.in_ok-pairs.pairs ≡ length es = c.in_ok-pairs.ensures.answer.1 ∙ got.2.count in
    let present = without-present c.args.key c.in-Some.value es (sym got.1 ∙ c.in-Some.is) in
    let count : c.in_ok-pairs.pairs - 1 ≡ length (without c.args.key es) = omega arith in
    let few : c.in_ok-pairs.pairs - 1 ≤ most_pairs two.words = omega (arith, now.few) in
    removes-err c.args.key es old two (g.W.Words.sheet c.remove_alone.new.words) c.in-Err.fault (omega (arith, c.in_ok-was.ensures.works.bads, c.in_ok-pairs.ensures.works.bads)) c.in-Err.ensures.keeps.bads (c.in-Err.ensures.settles es now count few)

pub returns-in_err-was-clause-keeps : goal.returns-in_err-was-clause-keeps
returns-in_err-was-clause-keeps g c =
    keeps-works 0 (g.W.Words.sheet c.args.words.now) (g.W.Words.sheet c.look_up.new.words) c.look_up.ensures.works

pub returns-in_default-clause-keeps : goal.returns-in_default-clause-keeps
returns-in_default-clause-keeps g c =
    keeps-works 0 (g.W.Words.sheet c.args.words.now) (g.W.Words.sheet c.look_up.new.words) c.look_up.ensures.works

pub returns-in_err-pairs-clause-keeps : goal.returns-in_err-pairs-clause-keeps
returns-in_err-pairs-clause-keeps g c =
    let old = g.W.Words.sheet c.args.words.now in
    let one = g.W.Words.sheet c.look_up.new.words in
    let two = g.W.Words.sheet c.load.new.self in
    works-keep 0 old one two c.look_up.ensures.works (keeps-works 0 one two c.load.ensures.works)

pub returns-in-Ok-clause-keeps : goal.returns-in-Ok-clause-keeps
returns-in-Ok-clause-keeps g c =
    let old = g.W.Words.sheet c.args.words.now in
    let one = g.W.Words.sheet c.look_up.new.words in
    let two = g.W.Words.sheet c.load.new.self in
    let new = g.W.Words.sheet c.remove_alone.new.words in
    works-keep 0 old one new c.look_up.ensures.works (works-keep 0 one two new c.load.ensures.works c.remove_alone.ensures.keeps)

pub returns-in-Err-clause-keeps : goal.returns-in-Err-clause-keeps
returns-in-Err-clause-keeps g c =
    let old = g.W.Words.sheet c.args.words.now in
    let one = g.W.Words.sheet c.look_up.new.words in
    let two = g.W.Words.sheet c.load.new.self in
    let new = g.W.Words.sheet c.remove_alone.new.words in
    works-keep 0 old one new c.look_up.ensures.works (works-keep 0 one two new c.load.ensures.works c.remove_alone.ensures.keeps)

pub look_up-requires-clause-size : goal.look_up-requires-clause-size
look_up-requires-clause-size g c = c.requires.size

pub look_up-requires-clause-map : goal.look_up-requires-clause-map
look_up-requires-clause-map g c = c.requires.map

pub returns-in_err-was-clause-shut : goal.returns-in_err-was-clause-shut
returns-in_err-was-clause-shut g c = (g.met.W.Words.lawful c.look_up.new.words).off c.in_err-was.ensures.power

pub returns-in_err-was-clause-removes : goal.returns-in_err-was-clause-removes
returns-in_err-was-clause-removes g c es x =
    removes-off c.args.key es (g.W.Words.sheet c.args.words.now) (g.W.Words.sheet c.look_up.new.words) c.from_residual.result c.from_residual.ensures.1 c.in_err-was.ensures.power (kept-index es (g.W.Words.sheet c.args.words.now) (g.W.Words.sheet c.look_up.new.words) ((g.met.W.Words.lawful c.args.words.now).shut c.requires.shut) c.look_up.ensures.works.kept x)

pub returns-in_default-clause-shut : goal.returns-in_default-clause-shut
returns-in_default-clause-shut g c = (c.look_up.ensures.works.still c.in_ok-was.ensures.power ∙ c.requires.shut)

pub load-requires : goal.load-requires
load-requires g c = third-within (g.W.Words.sheet c.look_up.new.words).words c.requires.map.0 (index-same _ _ c.requires.map.0 c.in_ok-was.ensures.same c.requires.map.1)

pub returns-in_err-pairs-clause-shut : goal.returns-in_err-pairs-clause-shut
returns-in_err-pairs-clause-shut g c = (g.met.W.Words.lawful c.load.new.self).off c.in_err-pairs.ensures.answer

pub returns-in_err-pairs-clause-removes : goal.returns-in_err-pairs-clause-removes
returns-in_err-pairs-clause-removes g c es x =
    let old = g.W.Words.sheet c.args.words.now in
    let two = g.W.Words.sheet c.load.new.self in
    removes-off c.args.key es old two c.from_residual-in_err-pairs.result c.from_residual-in_err-pairs.ensures.1 c.in_err-pairs.ensures.answer
    (kept-index es old two ((g.met.W.Words.lawful c.args.words.now).shut c.requires.shut) (c.load.ensures.works.kept ∙ c.look_up.ensures.works.kept) x)

pub overflow_sub-pairs : goal.overflow_sub-pairs
overflow_sub-pairs g c =
    let es = c.requires.map.0 in
    let got = looked c.args.key es _ (g.W.Words.sheet c.args.words.now) (g.W.Words.sheet c.look_up.new.words) c.in_ok-was.ensures.power (c.in_ok-was.ensures.value es c.requires.map.1) c.in_ok-was.ensures.same c.requires.map.1 in
    let count : c.in_ok-pairs.pairs ≡ length es = c.in_ok-pairs.ensures.answer.1 ∙ got.2.count in
    some-pair c.in_ok-pairs.pairs c.args.key c.in-Some.value es count (sym got.1 ∙ c.in-Some.is)

pub remove_alone-requires-clause-shut : goal.remove_alone-requires-clause-shut
remove_alone-requires-clause-shut g c = c.load.ensures.works.still c.in_ok-pairs.ensures.answer.0 ∙ (c.look_up.ensures.works.still c.in_ok-was.ensures.power ∙ c.requires.shut)

pub remove_alone-requires-clause-room : goal.remove_alone-requires-clause-room
remove_alone-requires-clause-room g c = subst (λ n. removal_pages (most_levels n) ≤ (g.W.Words.sheet c.load.new.self).room) (sym (c.load.ensures.works.long ∙ c.look_up.ensures.works.long)) (subst (λ n. removal_pages (most_levels (length (g.W.Words.sheet c.args.words.now).words)) ≤ n) (sym (c.load.ensures.works.room ∙ c.look_up.ensures.works.room)) c.requires.room)

pub remove_alone-requires-clause-size : goal.remove_alone-requires-clause-size
remove_alone-requires-clause-size g c = subst (λ n. n ≤ 2 ^ 29) (sym (c.load.ensures.works.long ∙ c.look_up.ensures.works.long)) c.requires.size

pub remove_alone-requires-clause-map : goal.remove_alone-requires-clause-map
remove_alone-requires-clause-map g c =
    let es = c.requires.map.0 in
    (es, subst (λ w. IsIndex w es) (sym c.in_ok-pairs.ensures.answer.2) (index-same _ _ es c.in_ok-was.ensures.same c.requires.map.1))

pub returns-in-Ok-clause-shut : goal.returns-in-Ok-clause-shut
returns-in-Ok-clause-shut g c = c.remove_alone.ensures.shut

pub returns-in-Err-clause-shut : goal.returns-in-Err-clause-shut
returns-in-Err-clause-shut g c = c.remove_alone.ensures.shut

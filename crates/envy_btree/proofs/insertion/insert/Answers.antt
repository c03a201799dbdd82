use Rattle.std.proofs.Common.{◌≡◌, ◌+◌, ◌^◌, ◌≤◌, ◌∙◌, sym, subst, arith, length, MatchOption}
use Rattle.envy_btree.specs.Depths.{insertion_pages, most_levels}
use Rattle.envy_btree.specs.Index.{IsIndex, most_pairs}
use Rattle.envy_btree.proofs.Withins.{index-same, looked}
use Rattle.envy_btree.proofs.Keeping.{keeps-works, works-keep}
use Rattle.envy_btree.proofs.Calls.{count-of, has-room, inserts-err, not-full, inserts-off, kept-index, third-within, count-fits, is-full}
use Rattle.envy_btree.proofs.insertion.insert.Goals as goal

pub returns-in-Ok-clause-inserts : goal.returns-in-Ok-clause-inserts
returns-in-Ok-clause-inserts g c es x =
    let two = g.W.Words.sheet c.load.new.self in
    let n = c.count_with-pairs.result in
    let got = looked c.args.key es _ (g.W.Words.sheet c.args.words.now) (g.W.Words.sheet c.look_up.new.words) c.in_ok-was.ensures.power (c.in_ok-was.ensures.value es x) c.in_ok-was.ensures.same x in
    let now : IsIndex two.words es = subst (λ w. IsIndex w es) (sym c.in_ok-before.ensures.answer.2) got.2 in
    let before : c.in_ok-before.before ≡ length es = c.in_ok-before.ensures.answer.1 ∙ got.2.count in
    let counted = subst (λ b. MatchOption c.in_ok-was.was'.value (n ≡ b + 1) (λ _. n ≡ b)) before c.count_with-pairs.ensures in
    let count = count-of two.words c.args.key c.args.value n es c.in_ok-was.was'.value now.planted got.1 counted in
    let few : n ≤ most_pairs two.words = omega (arith, c.if-pairs-most_pairs.false, c.most_pairs.ensures, c.size.ensures) in
    let done = c.in-Ok.ensures.settles es now count few in
    (done.0, got.1, not-full (g.W.Words.sheet c.args.words.now).words (g.W.Words.sheet c.insert_alone.new.words).words c.args.key c.args.value es (c.in-Ok.ensures.keeps.long ∙ c.in_ok-before.ensures.works.long ∙ c.in_ok-was.ensures.works.long) done.1, done.1)

pub returns-in-Err-clause-inserts : goal.returns-in-Err-clause-inserts
returns-in-Err-clause-inserts g c es x =
    let old = g.W.Words.sheet c.args.words.now in
    let two = g.W.Words.sheet c.load.new.self in
    let n = c.count_with-pairs.result in
    let got = looked c.args.key es _ (g.W.Words.sheet c.args.words.now) (g.W.Words.sheet c.look_up.new.words) c.in_ok-was.ensures.power (c.in_ok-was.ensures.value es x) c.in_ok-was.ensures.same x in
    let now : IsIndex two.words es = subst (λ w. IsIndex w es) (sym c.in_ok-before.ensures.answer.2) got.2 in
    let before : c.in_ok-before.before ≡ length es = c.in_ok-before.ensures.answer.1 ∙ got.2.count in
    let counted = subst (λ b. MatchOption c.in_ok-was.was'.value (n ≡ b + 1) (λ _. n ≡ b)) before c.count_with-pairs.ensures in
    let count = count-of two.words c.args.key c.args.value n es c.in_ok-was.was'.value now.planted got.1 counted in
    let few : n ≤ most_pairs two.words = omega (arith, c.if-pairs-most_pairs.false, c.most_pairs.ensures, c.size.ensures) in
    inserts-err c.args.key c.args.value es old two (g.W.Words.sheet c.insert_alone.new.words) c.in-Err.fault (omega (arith, c.in_ok-was.ensures.works.bads, c.in_ok-before.ensures.works.bads)) c.in-Err.ensures.keeps.bads (has-room old.words two.words c.args.key c.args.value n es (c.in_ok-before.ensures.works.long ∙ c.in_ok-was.ensures.works.long) count few) (c.in-Err.ensures.settles es now count few)

pub returns-in_err-was-clause-keeps : goal.returns-in_err-was-clause-keeps
returns-in_err-was-clause-keeps g c =
    keeps-works 0 (g.W.Words.sheet c.args.words.now) (g.W.Words.sheet c.look_up.new.words) c.look_up.ensures.works

pub returns-in_err-before-clause-keeps : goal.returns-in_err-before-clause-keeps
returns-in_err-before-clause-keeps g c =
    let old = g.W.Words.sheet c.args.words.now in
    let one = g.W.Words.sheet c.look_up.new.words in
    let two = g.W.Words.sheet c.load.new.self in
    works-keep 0 old one two c.look_up.ensures.works (keeps-works 0 one two c.load.ensures.works)

pub returns-then-pairs-most_pairs-clause-keeps : goal.returns-then-pairs-most_pairs-clause-keeps
returns-then-pairs-most_pairs-clause-keeps g c =
    let old = g.W.Words.sheet c.args.words.now in
    let one = g.W.Words.sheet c.look_up.new.words in
    let two = g.W.Words.sheet c.load.new.self in
    works-keep 0 old one two c.look_up.ensures.works (keeps-works 0 one two c.load.ensures.works)

pub returns-in-Ok-clause-keeps : goal.returns-in-Ok-clause-keeps
returns-in-Ok-clause-keeps g c =
    let old = g.W.Words.sheet c.args.words.now in
    let one = g.W.Words.sheet c.look_up.new.words in
    let two = g.W.Words.sheet c.load.new.self in
    let new = g.W.Words.sheet c.insert_alone.new.words in
    works-keep 0 old one new c.look_up.ensures.works (works-keep 0 one two new c.load.ensures.works c.insert_alone.ensures.keeps)

pub returns-in-Err-clause-keeps : goal.returns-in-Err-clause-keeps
returns-in-Err-clause-keeps g c =
    let old = g.W.Words.sheet c.args.words.now in
    let one = g.W.Words.sheet c.look_up.new.words in
    let two = g.W.Words.sheet c.load.new.self in
    let new = g.W.Words.sheet c.insert_alone.new.words in
    works-keep 0 old one new c.look_up.ensures.works (works-keep 0 one two new c.load.ensures.works c.insert_alone.ensures.keeps)

pub look_up-requires-clause-size : goal.look_up-requires-clause-size
look_up-requires-clause-size g c = c.requires.size

pub look_up-requires-clause-map : goal.look_up-requires-clause-map
look_up-requires-clause-map g c = c.requires.map

pub returns-in_err-was-clause-shut : goal.returns-in_err-was-clause-shut
returns-in_err-was-clause-shut g c = (g.met.W.Words.lawful c.look_up.new.words).off c.in_err-was.ensures.power

pub returns-in_err-was-clause-inserts : goal.returns-in_err-was-clause-inserts
returns-in_err-was-clause-inserts g c es x =
    inserts-off c.args.key c.args.value es (g.W.Words.sheet c.args.words.now) (g.W.Words.sheet c.look_up.new.words) c.from_residual.result c.from_residual.ensures.1 c.in_err-was.ensures.power (kept-index es (g.W.Words.sheet c.args.words.now) (g.W.Words.sheet c.look_up.new.words) ((g.met.W.Words.lawful c.args.words.now).shut c.requires.shut) c.look_up.ensures.works.kept x)

pub load-requires : goal.load-requires
load-requires g c = third-within (g.W.Words.sheet c.look_up.new.words).words c.requires.map.0 (index-same _ _ c.requires.map.0 c.in_ok-was.ensures.same c.requires.map.1)

pub returns-in_err-before-clause-shut : goal.returns-in_err-before-clause-shut
returns-in_err-before-clause-shut g c = (g.met.W.Words.lawful c.load.new.self).off c.in_err-before.ensures.answer

pub returns-in_err-before-clause-inserts : goal.returns-in_err-before-clause-inserts
returns-in_err-before-clause-inserts g c es x =
    let old = g.W.Words.sheet c.args.words.now in
    let two = g.W.Words.sheet c.load.new.self in
    inserts-off c.args.key c.args.value es old two c.from_residual-in_err-before.result c.from_residual-in_err-before.ensures.1 c.in_err-before.ensures.answer
    (kept-index es old two ((g.met.W.Words.lawful c.args.words.now).shut c.requires.shut) (c.load.ensures.works.kept ∙ c.look_up.ensures.works.kept) x)

pub count_with-pairs-requires : goal.count_with-pairs-requires
count_with-pairs-requires g c =
    let one = g.W.Words.sheet c.look_up.new.words in
    count-fits one.words c.requires.map.0 c.in_ok-before.before (index-same _ _ c.requires.map.0 c.in_ok-was.ensures.same c.requires.map.1) c.in_ok-before.ensures.answer.1 (subst (λ n. n ≤ 2 ^ 29) (sym c.look_up.ensures.works.long) c.requires.size)

pub most_pairs-requires : goal.most_pairs-requires
most_pairs-requires g c =
    let now : 640 ≤ length (g.W.Words.sheet c.args.words.now).words = c.requires.map.1.planted.heap.size in
    subst (λ n. 640 ≤ n) (sym (c.size.ensures ∙ (c.load.ensures.works.long ∙ c.look_up.ensures.works.long))) now

pub returns-then-pairs-most_pairs-clause-shut : goal.returns-then-pairs-most_pairs-clause-shut
returns-then-pairs-most_pairs-clause-shut g c = c.load.ensures.works.still c.in_ok-before.ensures.answer.0 ∙ (c.look_up.ensures.works.still c.in_ok-was.ensures.power ∙ c.requires.shut)

pub returns-then-pairs-most_pairs-clause-inserts : goal.returns-then-pairs-most_pairs-clause-inserts
returns-then-pairs-most_pairs-clause-inserts g c es x =
    let old = (g.W.Words.sheet c.args.words.now).words in
    let n = c.count_with-pairs.result in
    let got = looked c.args.key es _ (g.W.Words.sheet c.args.words.now) (g.W.Words.sheet c.look_up.new.words) c.in_ok-was.ensures.power (c.in_ok-was.ensures.value es x) c.in_ok-was.ensures.same x in
    let answer = c.in_ok-before.ensures.answer in
    let before : c.in_ok-before.before ≡ length es = answer.1 ∙ got.2.count in
    let counted = subst (λ b. MatchOption c.in_ok-was.was'.value (n ≡ b + 1) (λ _. n ≡ b)) before c.count_with-pairs.ensures in
    let long = c.size.ensures ∙ (c.load.ensures.works.long ∙ c.look_up.ensures.works.long) in
    (answer.0, is-full old c.args.key c.size.result c.most_pairs.result n es c.in_ok-was.was'.value x got.1 long c.most_pairs.ensures c.if-pairs-most_pairs.true counted, subst (λ w. IsIndex w es) (sym answer.2) got.2)

pub insert_alone-requires-clause-shut : goal.insert_alone-requires-clause-shut
insert_alone-requires-clause-shut g c = c.load.ensures.works.still c.in_ok-before.ensures.answer.0 ∙ (c.look_up.ensures.works.still c.in_ok-was.ensures.power ∙ c.requires.shut)

pub insert_alone-requires-clause-room : goal.insert_alone-requires-clause-room
insert_alone-requires-clause-room g c = subst (λ n. insertion_pages (most_levels n) ≤ (g.W.Words.sheet c.load.new.self).room) (sym (c.load.ensures.works.long ∙ c.look_up.ensures.works.long)) (subst (λ n. insertion_pages (most_levels (length (g.W.Words.sheet c.args.words.now).words)) ≤ n) (sym (c.load.ensures.works.room ∙ c.look_up.ensures.works.room)) c.requires.room)

pub insert_alone-requires-clause-size : goal.insert_alone-requires-clause-size
insert_alone-requires-clause-size g c = subst (λ n. n ≤ 2 ^ 29) (sym (c.load.ensures.works.long ∙ c.look_up.ensures.works.long)) c.requires.size

pub insert_alone-requires-clause-map : goal.insert_alone-requires-clause-map
insert_alone-requires-clause-map g c =
    let es = c.requires.map.0 in
    (es, subst (λ w. IsIndex w es) (sym c.in_ok-before.ensures.answer.2) (index-same _ _ es c.in_ok-was.ensures.same c.requires.map.1))

pub returns-in-Ok-clause-shut : goal.returns-in-Ok-clause-shut
returns-in-Ok-clause-shut g c = c.insert_alone.ensures.shut

pub returns-in-Err-clause-shut : goal.returns-in-Err-clause-shut
returns-in-Err-clause-shut g c = c.insert_alone.ensures.shut

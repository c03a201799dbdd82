use Rattle.std.proofs.Common.{◌≡◌, ap, ◌*◌, ◌+◌, ◌++◌, sym, ◌≤◌, ◌∙◌, subst, length, get_or, List, ℕ, OnOk}
use Rattle.envy_btree.specs.Bulk.{MayFollow}
use Rattle.envy_btree.specs.Index.{IsPlanted, most_pairs}
use Rattle.envy_btree.specs.Depths.{IsShallow, most_levels}
use Rattle.envy_btree.proofs.Looking.{shallow-most}
use Rattle.envy_btree.proofs.Calls.{settles-of, index-of, settles-off, kept-index}
use Rattle.envy_btree.proofs.Keeping.{keeps-through, tried-of, begun-room}
use Rattle.envy_btree.proofs.bulk.append.Goals as goal

pub returns-clause-settles : goal.returns-clause-settles
returns-clause-settles g c es x follow count few =
    let old = g.W.Words.sheet c.args.words.now in
    let begun = g.W.Words.sheet c.start.new.self in
    let mid = g.W.Words.sheet c.append_inside-done.new.words in
    let new = g.W.Words.sheet c.close.new.words in
    let after = es ++ c.args.pairs.now in
    let done = c.append_inside-done.result in
    let start = c.in_ok-start.ensures.answer in
    let inside = c.append_inside-done.ensures in
    let f = subst (λ w. (es : List (ℕ × ℕ)) → IsPlanted w es → length es ≤ most_pairs w → MayFollow w c.args.key c.args.pairs.now es → OnOk done (IsPlanted mid.words (es ++ c.args.pairs.now) × (get_or mid.words 3 0 ≡ c.args.count))) start.2 inside.planted in
    let made = index-of old.words mid.words after c.args.count done (inside.works.long ∙ c.in_ok-start.ensures.keeps.long) count few (f es x.planted x.few follow) in
    settles-of es after old begun mid new done c.close.result (g.met.W.Words.lawful c.close.new.words) ((g.met.W.Words.lawful c.args.words.now).shut c.requires.shut) x start.3 inside.works.kept
    c.in_ok-start.ensures.keeps.bads inside.works.bads c.close.ensures.keeps.bads inside.fails made c.close.ensures.shut c.close.ensures.ends

pub start-requires : goal.start-requires
start-requires g c = c.requires.shut

pub returns-in_err-start-clause-keeps : goal.returns-in_err-start-clause-keeps
returns-in_err-start-clause-keeps g c = c.start.ensures.keeps

pub returns-in_err-start-clause-shut : goal.returns-in_err-start-clause-shut
returns-in_err-start-clause-shut g c = (g.met.W.Words.lawful c.start.new.self).off c.in_err-start.ensures.answer.0

pub returns-in_err-start-clause-settles : goal.returns-in_err-start-clause-settles
returns-in_err-start-clause-settles g c es x follow count few = settles-off es (es ++ c.args.pairs.now) (g.W.Words.sheet c.args.words.now) (g.W.Words.sheet c.start.new.self) c.from_residual.result c.from_residual.ensures.1 c.in_err-start.ensures.answer.0 (kept-index es (g.W.Words.sheet c.args.words.now) (g.W.Words.sheet c.start.new.self) ((g.met.W.Words.lawful c.args.words.now).shut c.requires.shut) c.in_err-start.ensures.answer.1 x)

pub append_inside-done-requires-clause-begun : goal.append_inside-done-requires-clause-begun
append_inside-done-requires-clause-begun g c = c.in_ok-start.ensures.answer.1

pub append_inside-done-requires-clause-room : goal.append_inside-done-requires-clause-room
append_inside-done-requires-clause-room g c = begun-room (4 * c.most_levels-level.result + 7) (g.W.Words.sheet c.args.words.now) (g.W.Words.sheet c.start.new.self) c.in_ok-start.ensures.answer.4 c.start.ensures.keeps.room (subst (λ n. 4 * n + 7 ≤ (g.W.Words.sheet c.args.words.now).room) (sym (c.most_levels-level.ensures ∙ ap most_levels c.size.ensures)) c.requires.room)

pub append_inside-done-requires-clause-levels : goal.append_inside-done-requires-clause-levels
append_inside-done-requires-clause-levels g c = subst (λ w. IsShallow w c.most_levels-level.result) (sym c.in_ok-start.ensures.answer.2) (subst (IsShallow (g.W.Words.sheet c.args.words.now).words) (sym (c.most_levels-level.ensures ∙ ap most_levels c.size.ensures)) (shallow-most (g.W.Words.sheet c.args.words.now).words c.requires.size))

pub append_inside-done-requires-clause-map : goal.append_inside-done-requires-clause-map
append_inside-done-requires-clause-map g c =
    let m = c.requires.map in
    let same = sym c.in_ok-start.ensures.answer.2 in
    (m.0, subst (λ w. IsPlanted w m.0) same m.1.planted, subst (λ w. length m.0 ≤ most_pairs w) same m.1.few, subst (λ w. MayFollow w c.args.key c.args.pairs.now m.0) same m.2)

pub close-requires : goal.close-requires
close-requires g c = record { tried = tried-of (4 * c.most_levels-level.result + 7) (g.W.Words.sheet c.start.new.self) (g.W.Words.sheet c.append_inside-done.new.words) c.append_inside-done.result c.in_ok-start.ensures.answer.1 c.append_inside-done.ensures.works c.append_inside-done.ensures.fails }

pub returns-clause-keeps : goal.returns-clause-keeps
returns-clause-keeps g c = keeps-through (4 * c.most_levels-level.result + 7) (g.W.Words.sheet c.args.words.now) (g.W.Words.sheet c.start.new.self) (g.W.Words.sheet c.append_inside-done.new.words) (g.W.Words.sheet c.close.new.words) c.start.ensures.keeps c.append_inside-done.ensures.works c.close.ensures.keeps

pub returns-clause-shut : goal.returns-clause-shut
returns-clause-shut g c = c.close.ensures.shut

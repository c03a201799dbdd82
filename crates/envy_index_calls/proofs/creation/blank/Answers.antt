use Rattle.std.proofs.Common.{◌≡◌, ◌/◌, ◌∙◌, ap, sym, subst, set, arith}
use Rattle.envy_array.specs.Words.{OnPage}
use Rattle.envy_array.proofs.Working.{on_from, OnPage-room, OnPage-trans, Spends-trans}
use Rattle.envy_index_calls.proofs.Blanking.{blanked-more}
use Rattle.envy_index_calls.proofs.creation.blank.Goals as goal

pub put-requires-clause-address : goal.put-requires-clause-address
put-requires-clause-address g c = omega (arith, c.requires.size, c.loop-a.invariant.page.works.long)

pub put-requires-clause-room : goal.put-requires-clause-room
put-requires-clause-room g c = OnPage-room _ _ _ _ c.loop-a.invariant.page (on_from _ (g.met.W.Words.lawful c.loop-a.words) c.loop-a.invariant.begun) (omega arith) c.requires.room

pub loop-a-preserved : goal.loop-a-preserved
loop-a-preserved g c =
    let e : c.loop-a.a / 32 ≡ 0 = omega arith in
    let put = c.in_ok-put.ensures.answer in
    let mid = c.loop-a.invariant in
    record {
      words = put.1 ∙ ap (λ x. set x c.loop-a.a 0) mid.words ∙ sym (blanked-more c.loop-a.a (g.W.Words.sheet c.args.words.now).words);
      page = OnPage-trans 0 _ _ _ mid.page (subst (λ p. OnPage p (g.W.Words.sheet c.loop-a.words) (g.W.Words.sheet c.put.new.self)) e c.in_ok-put.ensures.works);
      spends = Spends-trans c.loop-a.a 1 _ _ _ mid.spends c.in_ok-put.ensures.spends;
      begun = c.in_ok-put.ensures.works.works.still put.0 ∙ mid.begun;
    }

pub returns-clause-fails : goal.returns-clause-fails
returns-clause-fails g c = on_from _ (g.met.W.Words.lawful c.loop-a.words) c.loop-a.invariant.begun

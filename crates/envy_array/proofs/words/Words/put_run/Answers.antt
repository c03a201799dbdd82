use Rattle.std.proofs.Common.{◌≡◌, ◌+◌, ◌/◌, ◌∙◌, ap, subst, get_or, set, arith}
use Rattle.std.proofs.lemmas.List.Edits.{paste_more}
use Rattle.envy_array.specs.Words.{OnPage}
use Rattle.envy_array.proofs.Working.{on_from, OnPage-still, OnPage-trans, Spends-trans, Spends-then}
use Rattle.envy_array.proofs.words.Words.put_run.Goals as goal

pub put-requires-clause-room : goal.put-requires-clause-room
put-requires-clause-room g c = OnPage-still _ _ _ _ c.loop-i.invariant.page (on_from _ (g.met.Self.Words.lawful c.loop-i.self) c.loop-i.invariant.begun) (omega (arith, c.requires.page)) c.requires.room

pub loop-i-preserved : goal.loop-i-preserved
loop-i-preserved g c =
    let e : (c.args.a + c.loop-i.i) / 32 ≡ c.args.a / 32 = omega (arith, c.requires.page) in
    let put = c.in_ok-put.ensures.answer in
    let mid = c.loop-i.invariant in
    let grown = paste_more (g.Self.Words.sheet c.args.self.now).words c.args.a c.args.list.now c.loop-i.i 0 (omega (arith, c.requires.within)) (omega arith) in
    record {
      words = put.1 ∙ ap (λ x. set x (c.args.a + c.loop-i.i) (get_or c.args.list.now c.loop-i.i 0)) mid.words ∙ grown;
      page = OnPage-trans (c.args.a / 32) _ _ _ mid.page (subst (λ p. OnPage p (g.Self.Words.sheet c.loop-i.self) (g.Self.Words.sheet c.put.new.self)) e c.in_ok-put.ensures.works);
      spends = Spends-trans c.loop-i.i 1 _ _ _ mid.spends c.in_ok-put.ensures.spends;
      begun = c.in_ok-put.ensures.works.works.still put.0 ∙ mid.begun;
    }

pub returns-in_err-put-clause-spends : goal.returns-in_err-put-clause-spends
returns-in_err-put-clause-spends g c = Spends-then c.loop-i.i 1 _ _ _ _ (omega arith) c.loop-i.invariant.spends c.put.ensures.spends

use Rattle.std.proofs.Common.{◌∙◌, ap, List}
use Rattle.std.proofs.lemmas.List.{with_items_is}
use Rattle.envy_array.specs.Array.{put_back}
use Rattle.envy_plain.specs.declared.saved_word.SavedWord.{SavedWord}
use Rattle.envy_plain.specs.Fields.{saved_by}
use Rattle.envy_plain.proofs.Moves.{aborts}
use Rattle.envy_plain.proofs.plain.Plain.abort.Goals as goal

pub returns : goal.returns
returns c =
    let a = c.self.inside in
    let words = with_items_is a.words c.restore.new.words (c.restore.auto.words ∙ c.deref_mut.ensures.len)
    ∙ c.restore.ensures
    ∙ ap (λ (xs : List SavedWord). put_back (saved_by c.args.t xs) c.deref_mut.result.now) c.deref.ensures.value
    ∙ ap (put_back (saved_by c.args.t a.saved.items)) c.deref_mut.ensures.value in
    aborts a.words.items _ a.active a.saved.items a.shadows c.args.t c.args.self.now c.close.new.self c.self.view_is c.self.invariant.slots c.if-not-is_open.ensures words c.close.ensures

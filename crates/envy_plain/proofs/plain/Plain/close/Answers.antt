use Rattle.std.proofs.Common.{◌∙◌}
use Rattle.std.proofs.lemmas.List.{with_items_is}
use Rattle.envy_plain.proofs.Moves.{pages-in_range, open-marked, closes, array-left}
use Rattle.envy_plain.proofs.plain.Plain.close.Goals as goal

pub release-requires-clause-in_range : goal.release-requires-clause-in_range
release-requires-clause-in_range c = pages-in_range _ _ _ _ _ _ _ _ _ c.self.invariant c.deref.ensures.value c.deref_mut.ensures.value

pub invariant_of-self : goal.invariant_of-self
invariant_of-self c =
    let a = c.self.inside in
    let mark = open-marked a.words.items a.active a.saved.items a.shadows c.args.t c.args.self.now c.self.invariant.slots c.self.view_is c.requires in
    closes a.words.items a.active a.saved.items c.forget.new.saved.items c.deref.result.now a.owners.items c.release.new.owners c.deref_mut.result.now _ a.owned a.shadows _ _ c.release.result c.args.t mark c.deref.ensures.value c.deref_mut.ensures.value c.release.auto.owners c.release.ensures.count c.release.ensures.owners
    (with_items_is a.owners c.release.new.owners (c.release.auto.owners ∙ c.deref_mut.ensures.len)) c.forget.ensures.items c.forget.ensures.room c.self.invariant

pub returns : goal.returns
returns c =
    let a = c.self.inside in
    let i = c.self.invariant in
    let mark = open-marked a.words.items a.active a.saved.items a.shadows c.args.t c.args.self.now i.slots c.self.view_is c.requires in
    array-left a.words.items a.active a.saved.items c.forget.new.saved.items a.shadows c.args.t c.args.self.now i.slots mark c.forget.ensures.items c.self.view_is

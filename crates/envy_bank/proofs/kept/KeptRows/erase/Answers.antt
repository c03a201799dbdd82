use Rattle.envy_bank.proofs.KeptLaws.{slice_reaches, erased_range}
use Rattle.envy_bank.proofs.kept.KeptRows.erase.Goals as goal

pub mark_range-requires-clause-end : goal.mark_range-requires-clause-end
mark_range-requires-clause-end c = let a = c.self.inside in slice_reaches a.erased.items c.deref_mut.result.now a.pages.items _ c.args.end c.deref_mut.ensures.value c.self.view_is c.requires.end

pub returns : goal.returns
returns c = let a = c.self.inside in erased_range a.erased.len a.erased.items c.deref_mut.result.now c.mark_range.new.marks a.pages.items _ c.args.first c.args.end a.erased.ok.0 c.deref_mut.ensures.value c.self.invariant.0 c.self.view_is c.requires.end c.mark_range.ensures

use Rattle.envy_bank.proofs.KeptLaws.{in_marks, in_pages, programmed_erased, programmed_kept, programmed_holds}
use Rattle.envy_bank.proofs.kept.KeptRows.program.Goals as goal

pub index-requires : goal.index-requires
index-requires c = let a = c.self.inside in in_marks a.erased.len a.erased.items a.pages.items _ c.args.row a.erased.ok.0 c.self.view_is c.requires

pub returns-then-index-clause-row : goal.returns-then-index-clause-row
returns-then-index-clause-row c = let a = c.self.inside in programmed_erased a.erased.items a.pages.items _ c.write.new.self c.args.row c.args.page.now _ c.self.invariant.0 c.self.view_is c.requires c.index.ensures c.if-index.true (record { long = c.told-page; words = c.fits-page }) c.write.ensures

pub index_mut-requires : goal.index_mut-requires
index_mut-requires c = let a = c.self.inside in in_pages a.pages.len a.erased.items a.pages.items _ c.args.row _ a.pages.ok.0 c.self.invariant.0 c.self.view_is c.requires c.index.ensures c.if-index.false

pub returns-clause-row : goal.returns-clause-row
returns-clause-row c = let a = c.self.inside in programmed_kept a.erased.items a.pages.items _ c.args.row c.args.page.now _ c.index_mut.result.now c.clear_bits.new.row c.self.invariant.0 c.self.view_is c.requires c.index.ensures c.if-index.false c.index_mut.ensures.value c.clear_bits.ensures.row

pub returns-clause-held : goal.returns-clause-held
returns-clause-held c = let a = c.self.inside in programmed_holds a.erased.items a.pages.items _ c.args.row c.args.page.now _ c.clear_bits.new.row c.clear_bits.result c.self.invariant.0 c.self.view_is c.requires c.index.ensures c.if-index.false c.clear_bits.ensures.held

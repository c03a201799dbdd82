use Rattle.envy_bank.proofs.KeptLaws.{in_marks, in_pages, word_erased, word_kept}
use Rattle.envy_bank.proofs.kept.KeptRows.word.Goals as goal

pub index-requires : goal.index-requires
index-requires c = let a = c.self.inside in in_marks a.erased.len a.erased.items a.pages.items _ c.args.row a.erased.ok.0 c.self.view_is c.requires.row

pub returns-then-index : goal.returns-then-index
returns-then-index c = let a = c.self.inside in word_erased a.erased.items a.pages.items _ c.args.row c.args.i _ c.self.invariant.0 c.self.view_is c.requires.row c.index.ensures c.if-index.true c.requires.i

pub index-requires-2 : goal.index-requires-2
index-requires-2 c = let a = c.self.inside in in_pages a.pages.len a.erased.items a.pages.items _ c.args.row _ a.pages.ok.0 c.self.invariant.0 c.self.view_is c.requires.row c.index.ensures c.if-index.false

pub returns : goal.returns
returns c = let a = c.self.inside in word_kept a.erased.items a.pages.items _ c.args.row c.args.i _ c.index-2.result.now c.self.invariant.0 c.self.view_is c.requires.row c.index.ensures c.if-index.false c.index-2.ensures

use Rattle.std.proofs.Common.{◌<◌, false, length, refl, arith}
use Rattle.std.proofs.lemmas.List.{length-set}
use Rattle.envy_bank.proofs.KeptLaws.{in_marks, kept_after_write, paged-written}
use Rattle.envy_bank.proofs.kept.KeptRows.write.Goals as goal

pub set_page-requires : goal.set_page-requires
set_page-requires c =
    let a = c.self.inside in
    let low : c.args.row < length a.erased.items = in_marks _ a.erased.items a.pages.items _ c.args.row refl c.self.view_is c.requires in
    omega (arith, low, c.self.invariant.1)

pub index_mut-requires : goal.index_mut-requires
index_mut-requires c = let a = c.self.inside in in_marks a.erased.len a.erased.items a.pages.items _ c.args.row a.erased.ok.0 c.self.view_is c.requires

pub invariant_of-self : goal.invariant_of-self
invariant_of-self c =
    let a = c.self.inside in
    let low : c.args.row < length a.erased.items = in_marks _ a.erased.items a.pages.items _ c.args.row refl c.self.view_is c.requires in
    let long = length-set a.erased.items c.args.row false in (
      rw c.set_page.ensures.pages (paged-written a.erased.items a.pages.items _ c.args.row _ c.args.page.now _ c.self.invariant.0 refl refl low),
      omega (arith, long, c.self.invariant.1, c.set_page.ensures.capacity),
    )

pub returns : goal.returns
returns c =
    let a = c.self.inside in
    rw c.set_page.ensures.pages (kept_after_write a.erased.items a.pages.items _ _ c.args.row _ c.args.page.now _ c.self.invariant.0 c.self.view_is refl refl)

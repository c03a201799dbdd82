use Rattle.std.proofs.Common.{◌∙◌, ◌≡◌, length, ◌≤◌, arith}
use Rattle.envy_bank.proofs.KeptLaws.{behind, next}
use Rattle.envy_bank.proofs.kept.set_page.Goals as goal

pub returns-then-row-len-2-clause-pages : goal.returns-then-row-len-2-clause-pages
returns-then-row-len-2-clause-pages c = let here : c.args.row ≡ length c.args.pages.now.items = omega arith in c.append.ensures.pages ∙ next c.args.pages.now.items c.args.row c.args.page.now _ here

pub returns-else-row-len-2-clause-pages : goal.returns-else-row-len-2-clause-pages
returns-else-row-len-2-clause-pages c = let beyond : length c.args.pages.now.items ≤ c.args.row = omega arith in c.append_at.ensures.pages ∙ behind c.args.pages.now.items c.args.row c.args.page.now _ beyond

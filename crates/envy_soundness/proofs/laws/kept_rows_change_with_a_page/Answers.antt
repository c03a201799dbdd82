use Rattle.envy_soundness.proofs.KeptCounts.{kept_in-page, kept_in-place, kept_in-undo, page_kept_in-free}
use Rattle.envy_soundness.proofs.laws.kept_rows_change_with_a_page.Goals as goal

pub returns-clause-page : goal.returns-clause-page
returns-clause-page c = kept_in-page

pub returns-clause-place : goal.returns-clause-place
returns-clause-place c = kept_in-place

pub returns-clause-undo : goal.returns-clause-undo
returns-clause-undo c = kept_in-undo

pub returns-clause-free : goal.returns-clause-free
returns-clause-free c = page_kept_in-free

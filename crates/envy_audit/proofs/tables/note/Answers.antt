use Rattle.envy_audit.proofs.Owners.{other-owner}
use Rattle.envy_audit.proofs.tables.note.Goals as goal

pub returns-then-owner-page : goal.returns-then-owner-page
returns-then-owner-page c = rw c.in-Row.is (other-owner _ _ c.if-owner-ne0.true c.if-owner-page.true)

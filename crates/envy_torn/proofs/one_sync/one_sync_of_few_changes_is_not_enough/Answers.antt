use Rattle.envy_torn.proofs.Alike.{alike, many, told}
use Rattle.envy_torn.proofs.one_sync.one_sync_of_few_changes_is_not_enough.Goals as goal

pub returns-clause-alike : goal.returns-clause-alike
returns-clause-alike c = alike

pub returns-clause-many : goal.returns-clause-many
returns-clause-many c = many

pub returns-clause-told : goal.returns-clause-told
returns-clause-told c file size changes batches batch tells fit few more is = told file size changes batches batch fit few more tells is

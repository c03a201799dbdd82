use Rattle.envy_begun.proofs.found_journal.audited.Goals as goal

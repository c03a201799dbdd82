use Rattle.envy_journal.proofs.open_error.are_zeros.Goals as goal

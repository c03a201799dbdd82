use Rattle.std.proofs.Common.{sym}
use Rattle.envy_library.proofs.openings.envy_open_port.Goals as goal

pub returns-clause-opens : goal.returns-clause-opens
returns-clause-opens c = (c.open_file-code.result, c.number.ensures, rw (sym c.lend-place.ensures.place, c.give_back.ensures.place) c.open_file-code.ensures)

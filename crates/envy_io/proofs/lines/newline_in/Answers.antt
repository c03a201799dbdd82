use Rattle.envy_io.proofs.FrontLemmas.{found-position}
use Rattle.envy_io.proofs.lines.newline_in.Goals as goal

pub returns : goal.returns
returns c = found-position c.args.bytes.now c.memchr.result c.memchr.ensures

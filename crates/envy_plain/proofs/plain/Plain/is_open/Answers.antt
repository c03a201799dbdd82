use Rattle.envy_plain.proofs.Readers.{open-read}
use Rattle.envy_plain.proofs.plain.Plain.is_open.Goals as goal

pub returns : goal.returns
returns c =
    let a = c.self.inside in
    rw c.unwrap_or.ensures (open-read a.words.items a.active a.saved.items a.shadows c.args.t c.args.self.now c.get.result c.copied.result c.self.view_is c.self.invariant.slots c.get.ensures.lookup c.copied.ensures)

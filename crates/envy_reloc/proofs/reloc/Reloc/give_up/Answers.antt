use Rattle.envy_map.specs.Fields.{chart}
use Rattle.envy_soundness.proofs.Claimed.{AreHome-copying}
use Rattle.envy_reloc.proofs.reloc.Reloc.give_up.Goals as goal

pub begin_erase-requires-clause-home : goal.begin_erase-requires-clause-home
begin_erase-requires-clause-home g c on =
    let old = chart (g.B.Board.state c.args.board.now) in
    AreHome-copying old.shape old.fields old.flash c.requires.copying.0 c.requires.sound c.requires.copying.1

use Rattle.envy_map.specs.Fields.{chart}
use Rattle.envy_soundness.specs.Sound.{Sound, Slots}
use Rattle.envy_soundness.proofs.UpgradeLaw.{Upgrades-put, Upgrades-done}
use Rattle.envy_soundness.proofs.version.upgrade.Goals as goal

pub returns-clause-kept : goal.returns-clause-kept
returns-clause-kept g c =
    let put = Upgrades-put (chart (g.B.Board.state c.args.board.now)) (chart (g.B.Board.state c.vacate_new_slots.new.board)) (chart (g.B.Board.state c.set_version.new.board)) c.set_version.result c.requires.sound c.requires.version c.vacate_new_slots.ensures.same c.in_ok-vacate_new_slots.ensures.fields c.set_version.ensures.writes in
    put.kept

pub returns-clause-fields : goal.returns-clause-fields
returns-clause-fields g c = Upgrades-done (chart (g.B.Board.state c.args.board.now)) (chart (g.B.Board.state c.vacate_new_slots.new.board)) (chart (g.B.Board.state c.set_version.new.board)) c.set_version.result (Slots.long (Sound.slots c.requires.sound)) c.in_ok-vacate_new_slots.ensures.fields c.set_version.ensures.writes

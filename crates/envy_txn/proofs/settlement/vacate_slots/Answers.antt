use Rattle.envy_map.specs.Fields.{chart}
use Rattle.envy_soundness.proofs.Composition.{SameWords-trans}
use Rattle.envy_txn.proofs.settlement.vacate_slots.Goals as goal

pub loop-t-preserved : goal.loop-t-preserved
loop-t-preserved g c =
    let first = chart (g.B.Board.state c.args.board.now) in
    let inv = c.loop-t.invariant in
    let turn = c.in_ok-vacate_slot.ensures in
    record {
      on = turn.power;
      same = SameWords-trans 0 0 0 0 first (chart (g.B.Board.state c.loop-t.board)) (chart (g.B.Board.state c.vacate_slot.new.board)) inv.same turn.same;
      vacated = turn.vacated first inv.vacated;
    }

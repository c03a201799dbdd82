use Rattle.envy_map.specs.Fields.{chart}
use Rattle.envy_soundness.proofs.Composition.{SameDurable-trans}
use Rattle.envy_txn.proofs.settlement.settle_pages.Goals as goal

pub loop-page-preserved : goal.loop-page-preserved
loop-page-preserved g c =
    let first = chart (g.B.Board.state c.args.board.now) in
    let inv = c.loop-page.invariant in
    let turn = c.in_ok-settle_page.ensures in
    record {
      on = turn.power;
      durable = SameDurable-trans 0 0 0 0 first (chart (g.B.Board.state c.loop-page.board)) (chart (g.B.Board.state c.settle_page.new.board)) inv.durable turn.durable;
      settled = turn.settled first inv.settled;
    }

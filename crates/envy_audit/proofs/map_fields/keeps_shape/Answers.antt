use Rattle.envy_audit.proofs.Headings.{not-flash, not-array, pools-decide}
use Rattle.envy_audit.proofs.map_fields.keeps_shape.Goals as goal

pub returns-then-flash-shape : goal.returns-then-flash-shape
returns-then-flash-shape g c =
    not-flash (g.B.Board.state c.args.board.now) _ _ _ _ (g.met.B.Board.lawful c.args.board.now) c.shape-shape.ensures c.in_ok-flash.ensures.1 c.in_ok-array.ensures.1 c.in_ok-pools.ensures.1 c.if-flash-shape.true

pub returns-then-array-shape : goal.returns-then-array-shape
returns-then-array-shape g c =
    not-array (g.B.Board.state c.args.board.now) _ _ _ _ (g.met.B.Board.lawful c.args.board.now) c.shape-shape.ensures c.in_ok-flash.ensures.1 c.in_ok-array.ensures.1 c.in_ok-pools.ensures.1 c.if-array-shape.true

pub returns : goal.returns
returns g c =
    pools-decide (g.B.Board.state c.args.board.now) _ _ _ _ (g.met.B.Board.lawful c.args.board.now) c.shape-shape.ensures c.in_ok-flash.ensures.1 c.in_ok-array.ensures.1 c.in_ok-pools.ensures.1 c.if-flash-shape.false c.if-array-shape.false

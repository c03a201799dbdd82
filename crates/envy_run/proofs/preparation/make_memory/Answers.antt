use Rattle.envy_run.proofs.Checked.{shape-of-checked}
use Rattle.envy_run.proofs.Preparing.{none-begun, none-made}
use Rattle.envy_run.proofs.preparation.make_memory.Goals as goal

pub make-requires : goal.make-requires
make-requires g c = shape-of-checked c.args.setup c.requires

pub returns-in_default : goal.returns-in_default
returns-in_default g c = none-made g.M.Made.Board.state c.args.setup c.args.lives c.unserved.result c.unserved.ensures

pub returns-in-Err : goal.returns-in-Err
returns-in-Err g c =
    none-begun g.M.Made.Board.state c.args.setup c.args.lives c.in-Err.unready (g.M.Made.Board.state c.in-Ok.board) c.in-Err.board c.unserved-in-Err.result (shape-of-checked c.args.setup c.requires) c.in-Ok.ensures c.in-Err.ensures
    (rw (← c.why_unready.ensures) c.unserved-in-Err.ensures)

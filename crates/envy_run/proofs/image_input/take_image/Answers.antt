use Rattle.std.proofs.Common.{subst}
use Rattle.envy_base.specs.Shape.{IsShape}
use Rattle.envy_base.specs.State.{IsBoard, IsMade}
use Rattle.envy_base.specs.declared.shape.Shape.{Shape}
use Rattle.envy_run.proofs.Loaded.{short-unloaded, failed-unloaded, upset-unloaded, spent-never, loaded}
use Rattle.envy_run.proofs.image_input.take_image.Goals as goal

pub returns-in-Err-Short : goal.returns-in-Err-Short
returns-in-Err-Short g c from head =
    short-unloaded c.args.shape.now c.args.lives from (g.S.Source.feed c.args.source.now) (g.S.Source.feed c.install.new.source) (g.M.Made.Board.state c.in-Ok.board) (g.M.Made.Board.state c.install.new.board) c.args.lines.now c.install.new.lines (subst (λ (x : Shape). IsShape x) (IsMade.shape c.in-Ok.ensures) (IsBoard.shape (g.met.M.Made.Board.lawful c.in-Ok.board))) c.in-Ok.ensures head (rw c.in-Err-Short.field-0-is at c.in-Err-Short.ensures.installs)

pub returns-in-Err-Upset : goal.returns-in-Err-Upset
returns-in-Err-Upset g c from head =
    upset-unloaded c.args.shape.now c.args.lives from (g.S.Source.feed c.args.source.now) (g.S.Source.feed c.install.new.source) (g.M.Made.Board.state c.in-Ok.board) (g.M.Made.Board.state c.install.new.board) c.args.lines.now c.install.new.lines (subst (λ (x : Shape). IsShape x) (IsMade.shape c.in-Ok.ensures) (IsBoard.shape (g.met.M.Made.Board.lawful c.in-Ok.board))) c.in-Ok.ensures head (rw c.in-Err-Upset.field-0-is at c.in-Err-Upset.ensures.installs)

pub returns-in-Err-Failed : goal.returns-in-Err-Failed
returns-in-Err-Failed g c from head =
    failed-unloaded c.args.shape.now c.args.lives from (g.S.Source.feed c.args.source.now) (g.S.Source.feed c.install.new.source) (g.M.Made.Board.state c.in-Ok.board) (g.M.Made.Board.state c.install.new.board) c.args.lines.now c.install.new.lines (subst (λ (x : Shape). IsShape x) (IsMade.shape c.in-Ok.ensures) (IsBoard.shape (g.met.M.Made.Board.lawful c.in-Ok.board))) c.in-Ok.ensures head (rw c.in-Err-Failed.field-0-is at c.in-Err-Failed.ensures.installs)

pub unreachable-requires-in-Err-Spent : goal.unreachable-requires-in-Err-Spent
unreachable-requires-in-Err-Spent g c =
    let (from, head) = c.requires.taken in
    spent-never c.args.shape.now c.args.lives from (g.S.Source.feed c.args.source.now) (g.S.Source.feed c.install.new.source) (g.M.Made.Board.state c.in-Ok.board) (g.M.Made.Board.state c.install.new.board) c.args.lines.now c.install.new.lines (subst (λ (x : Shape). IsShape x) (IsMade.shape c.in-Ok.ensures) (IsBoard.shape (g.met.M.Made.Board.lawful c.in-Ok.board))) c.in-Ok.ensures head (rw c.in-Err-Spent.field-0-is at c.in-Err-Spent.ensures.installs)

pub returns : goal.returns
returns g c from head =
    loaded c.args.shape.now c.args.lives from (g.S.Source.feed c.args.source.now) (g.S.Source.feed c.install.new.source) (g.M.Made.Board.state c.in-Ok.board) (g.M.Made.Board.state c.install.new.board) c.args.lines.now c.install.new.lines (subst (λ (x : Shape). IsShape x) (IsMade.shape c.in-Ok.ensures) (IsBoard.shape (g.met.M.Made.Board.lawful c.in-Ok.board))) c.in-Ok.ensures head c.in-Ok-check.verdict (g.met.M.Made.Board.lawful c.install.new.board) c.in-Ok-install.ensures.installs c.in-Ok-check.ensures.verdict.1

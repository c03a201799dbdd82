use Rattle.std.proofs.Common.{◌≡◌, ◌∙◌, ap}
use Rattle.envy_base.specs.declared.shape.Shape.{Shape}
use Rattle.envy_map.specs.Fields.{chart}
use Rattle.envy_soundness.proofs.Sames.{then_same}
use Rattle.envy_space.specs.Pool.{Pool}
use Rattle.envy_space.proofs.RetireLemmas.{retired-fields, retired-pool, PoolAgrees-retired, RetiresTo-made}
use Rattle.envy_space.proofs.space.Space.retire_to.Goals as goal

pub returns-in_err-retire_spare-clause-same : goal.returns-in_err-retire_spare-clause-same
returns-in_err-retire_spare-clause-same g c = then_same 0 0 (chart (g.B.Board.state c.args.board.now)) (chart (g.B.Board.state c.close_spare.new.board)) (chart (g.B.Board.state c.retire_spare.new.board)) c.close_spare.ensures.same c.retire_spare.ensures.same

pub returns-clause-same : goal.returns-clause-same
returns-clause-same g c = then_same 0 0 (chart (g.B.Board.state c.args.board.now)) (chart (g.B.Board.state c.close_spare.new.board)) (chart (g.B.Board.state c.retire_spare.new.board)) c.close_spare.ensures.same c.retire_spare.ensures.same

pub returns-clause-agrees : goal.returns-clause-agrees
returns-clause-agrees g c on =
    let agrees = c.requires.agrees in
    let rows : c.set_fill.inside.shape.rows ≡ (g.B.Board.state c.args.board.now).shape.rows = ap (λ (p : Pool). p.shape.rows) c.set_fill.view_is ∙ ap (λ (sh : Shape). sh.rows) c.requires.shape in
    let below = c.requires.fresh.below in
    let pool = retired-pool c.args.position c.spare-spare.result c.set_fill.inside.shape.rows (g.B.Board.state c.args.board.now).shape.rows c.args.self.now c.set_fill-2.new.self c.stand.new.self c.spare-spare.ensures.pool rows c.spare-spare.ensures.spare below c.set_fill-2.ensures c.stand.ensures in
    PoolAgrees-retired c.args.position c.spare-spare.result (chart (g.B.Board.state c.args.board.now)) (chart (g.B.Board.state c.retire_spare.new.board)) c.args.self.now c.stand.new.self agrees (retired-fields c.args.position c.spare-spare.result (chart (g.B.Board.state c.args.board.now)) (chart (g.B.Board.state c.close_spare.new.board)) (chart (g.B.Board.state c.retire_spare.new.board)) c.in_ok-close_spare.ensures.fields c.in_ok-retire_spare.ensures.fields) pool

pub returns-clause-retires : goal.returns-clause-retires
returns-clause-retires g c =
    let agrees = c.requires.agrees in
    let rows : c.set_fill.inside.shape.rows ≡ (g.B.Board.state c.args.board.now).shape.rows = ap (λ (p : Pool). p.shape.rows) c.set_fill.view_is ∙ ap (λ (sh : Shape). sh.rows) c.requires.shape in
    let below = c.requires.fresh.below in
    let pool = retired-pool c.args.position c.spare-spare.result c.set_fill.inside.shape.rows (g.B.Board.state c.args.board.now).shape.rows c.args.self.now c.set_fill-2.new.self c.stand.new.self c.spare-spare.ensures.pool rows c.spare-spare.ensures.spare below c.set_fill-2.ensures c.stand.ensures in
    (c.spare-spare.result, RetiresTo-made c.args.position c.spare-spare.result (chart (g.B.Board.state c.args.board.now)) (chart (g.B.Board.state c.close_spare.new.board)) (chart (g.B.Board.state c.retire_spare.new.board)) c.args.self.now c.stand.new.self agrees c.spare-spare.ensures.spare c.in_ok-close_spare.ensures.fields c.in_ok-retire_spare.ensures.fields pool c.in_ok-retire_spare.ensures.freed)

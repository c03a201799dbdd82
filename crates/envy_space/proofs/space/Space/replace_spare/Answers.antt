use Rattle.std.proofs.Common.{◌∙◌, ℕ, List, sym, ap, subst, arith}
use Rattle.std.specs.Prelude.{IsTrue}
use Rattle.envy_base.specs.declared.shape.Shape.{Shape}
use Rattle.envy_map.specs.Fields.{Chart, chart}
use Rattle.envy_soundness.specs.Sound.{IsSpare}
use Rattle.envy_space.specs.Pool.{IsPool, IsPoolOf}
use Rattle.envy_space.proofs.PoolLemmas.{PoolAgrees-replaced, StandsAt-spare}
use Rattle.envy_space.proofs.space.Space.replace_spare.Goals as goal

pub returns-clause-agrees : goal.returns-clause-agrees
returns-clause-agrees g c on =
    let before = chart (g.B.Board.state c.args.board.now) in
    let written = c.in_ok-replace_segment.ensures.fields in
    let was_on : IsTrue before.on = sym (ap (λ (x : Chart). x.on) written) ∙ on in
    PoolAgrees-replaced before (chart (g.B.Board.state c.replace_segment.new.board)) c.args.self.now c.stand.new.self c.args.position c.spare-spare.result (c.requires.agrees was_on) written
    (StandsAt-spare c.args.position c.spare-spare.result c.args.self.now c.stand.new.self (omega (arith, c.requires.position)) (IsPool.positions_long c.spare-spare.ensures.pool) c.spare-spare.ensures.spare c.stand.ensures)

pub returns-clause-replaces : goal.returns-clause-replaces
returns-clause-replaces g c =
    let before = chart (g.B.Board.state c.args.board.now) in
    let written = c.in_ok-replace_segment.ensures.fields in
    let was_on : IsTrue before.on = sym (ap (λ (x : Chart). x.on) written) ∙ c.in_ok-replace_segment.ensures.power in
    let agrees = c.requires.agrees was_on in (
      c.spare-spare.result,
      record {
        spare = subst (λ (sh : Shape). IsSpare sh before.fields.positions c.spare-spare.result) c.requires.shape
            (subst (λ (xs : List ℕ). IsSpare c.args.self.now.shape xs c.spare-spare.result) (IsPoolOf.positions agrees) c.spare-spare.ensures.spare);
        fields = written;
        pool = StandsAt-spare c.args.position c.spare-spare.result c.args.self.now c.stand.new.self (omega (arith, c.requires.position)) (IsPool.positions_long c.spare-spare.ensures.pool) c.spare-spare.ensures.spare c.stand.ensures;
        freed = c.in_ok-replace_segment.ensures.freed;
      },
    )

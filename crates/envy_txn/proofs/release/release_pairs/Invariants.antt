use Rattle.std.proofs.Common.{◌≡◌, take}
use Rattle.envy_map.specs.Fields.{chart}
use Rattle.envy_soundness.specs.Same.{SameWords}
use Rattle.envy_txn.specs.Turns.{Releasing, ReleasedIn}
use Rattle.envy_txn.proofs.release.release_pairs.Given as goal

abbrev pub invariant-loop-pair : goal.invariant-loop-pair
invariant-loop-pair g l = record {
  releasing : Releasing (chart (g.B.Board.state l.board)) l.space l.t;
  same : SameWords 0 0 (chart (g.B.Board.state l.initial.board)) (chart (g.B.Board.state l.board));
  released : ReleasedIn (take l.pair-index l.pairs) l.t (chart (g.B.Board.state l.initial.board)) (chart (g.B.Board.state l.board));
  shape : l.space.shape ≡ l.initial.space.shape;
}

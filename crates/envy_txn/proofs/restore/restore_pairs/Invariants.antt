use Rattle.std.proofs.Common.{◌≡◌, not, take}
use Rattle.std.specs.List.{filter}
use Rattle.envy_map.specs.Fields.{chart}
use Rattle.envy_soundness.specs.Same.{SameDurable}
use Rattle.envy_table.specs.Hits.{Rests}
use Rattle.envy_txn.specs.Turns.{Restoring, RestoredIn, is_among}
use Rattle.envy_txn.proofs.restore.restore_pairs.Given as goal

abbrev pub invariant-loop-pair : goal.invariant-loop-pair
invariant-loop-pair g l = record {
  restoring : Restoring (chart (g.B.Board.state l.board)) l.space l.frames.held l.cache.entries l.t;
  durable : SameDurable 0 0 (chart (g.B.Board.state l.initial.board)) (chart (g.B.Board.state l.board));
  restored : RestoredIn (take l.pair-index l.pairs) l.t (chart (g.B.Board.state l.initial.board)) (chart (g.B.Board.state l.board));
  left : l.frames.held ≡ filter (λ h. not (is_among (take l.pair-index l.pairs) l.t h.page)) l.initial.frames.held;
  count : l.frames.count ≡ l.initial.frames.count;
  rests : Rests l.initial.cache l.cache;
  shape : l.space.shape ≡ l.initial.space.shape;
}

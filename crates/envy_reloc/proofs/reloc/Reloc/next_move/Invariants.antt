use Rattle.std.proofs.Common.{◌≡◌, ℕ, ◌+◌, ◌/◌, List, ◌++◌, length}
use Rattle.std.specs.Prelude.{All}
use Rattle.envy_map.specs.Fields.{chart}
use Rattle.envy_soundness.specs.Sound.{IsKept}
use Rattle.envy_reloc.proofs.reloc.Reloc.next_move.Given as goal

abbrev pub invariant-loop-turn : goal.invariant-loop-turn
invariant-loop-turn g l = record {
  aside : l.self-inside.aside ≡ l.initial.self-inside.aside;
  mark : l.self-inside.mark ≡ l.initial.self-inside.mark;
  copied : l.self-inside.copied ≡ l.initial.self-inside.copied;
  moved : l.self-inside.moved ≡ l.initial.self-inside.moved;
  erased : l.self-inside.erased ≡ l.initial.self-inside.erased;
  since : l.self-inside.since ≡ l.initial.self-inside.since;
  count : length l.self-inside.moves.items + l._turn ≡ length l.initial.self-inside.moves.items;
  rows : All (λ (q : ℕ). q / (g.B.Board.state l.board).shape.rows ≡ l.segment) l.self-inside.moves.items;
  dropped : (xs : List ℕ) × (l.initial.self-inside.moves.items ≡ xs ++ l.self-inside.moves.items) × All (λ (r : ℕ). IsKept (chart (g.B.Board.state l.board)).fields r → ⊥) xs;
}

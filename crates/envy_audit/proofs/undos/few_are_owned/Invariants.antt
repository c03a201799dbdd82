use Rattle.std.specs.Prelude.{◌≡◌, ◌≤◌, take, count_by}
use Rattle.envy_map.specs.Fields.{chart}
use Rattle.envy_soundness.specs.Sound.{owned_by}
use Rattle.envy_audit.proofs.undos.few_are_owned.Given as goal

abbrev pub invariant-loop-page : goal.invariant-loop-page
invariant-loop-page g l = let f = (chart (g.B.Board.state l.board)).fields in
    record { counted : l.owned ≡ count_by (owned_by f.slots) (take l.page f.undos); few : l.owned ≤ l.page }

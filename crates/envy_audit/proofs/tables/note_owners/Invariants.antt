use Rattle.std.specs.Prelude.{◌≡◌, length}
use Rattle.envy_map.specs.Fields.{chart}
use Rattle.envy_audit.specs.Points.{rows_of}
use Rattle.envy_audit.proofs.Owners.{Says}
use Rattle.envy_audit.proofs.Naming.{FirstNames}
use Rattle.envy_audit.proofs.tables.note_owners.Given as goal

abbrev pub invariant-loop-page : goal.invariant-loop-page
invariant-loop-page g l = let c = chart (g.B.Board.state l.board) in
    record { long : length l.owners ≡ rows_of c.shape; says : Says (FirstNames c.fields l.page) l.owners }

use Rattle.std.proofs.Common.{sym, subst}
use Rattle.envy_base.specs.declared.shape.Shape.{Shape}
use Rattle.envy_map.specs.Fields.{chart}
use Rattle.envy_soundness.specs.Formatting.{IsEmpty}
use Rattle.envy_engine.specs.Agreement.{Fits}
use Rattle.envy_memory.proofs.FormatLemmas.{empty-own, settled}
use Rattle.envy_memory.proofs.format.lay_out.Goals as goal

pub rebuild-requires-clause-sound : goal.rebuild-requires-clause-sound
rebuild-requires-clause-sound g c = IsEmpty.sound c.in-Ok.ensures.formats.1

pub rebuild-requires-clause-fits : goal.rebuild-requires-clause-fits
rebuild-requires-clause-fits g c = subst (λ (sh : Shape). Fits sh c.args.parts.now) (sym c.format_board.ensures.shape) c.requires.fits

pub rebuild-requires-clause-settled : goal.rebuild-requires-clause-settled
rebuild-requires-clause-settled g c on =
    let old = g.B.Board.state c.args.board.now in
    let new = chart (g.B.Board.state c.format_board.new.board) in
    settled new (empty-own old.shape new c.format_board.ensures.shape c.in-Ok.ensures.formats.1)

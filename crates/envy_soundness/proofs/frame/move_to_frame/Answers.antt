use Rattle.std.proofs.Common.{refl}
use Rattle.std.specs.Prelude.{Some}
use Rattle.envy_base.specs.declared.fields.Place.TheVariants.{Frame}
use Rattle.envy_map.specs.Fields.{chart}
use Rattle.envy_map.specs.Writes.{with_place}
use Rattle.envy_soundness.proofs.Composition.{Counted-put, Wears-put}
use Rattle.envy_soundness.proofs.PlaceLaw.{Stored-framed, Shadowed-framed}
use Rattle.envy_soundness.proofs.frame.move_to_frame.Goals as goal

pub returns-clause-free : goal.returns-clause-free
returns-clause-free g c = λ free. Stored-framed (chart (g.B.Board.state c.args.board.now)) (chart (g.B.Board.state c.set_place.new.board)) c.args.page c.args.frame c.args.i c.args.word c.set_place.result c.requires.sound c.requires.page c.requires.frame c.requires.place c.requires.unnamed c.requires.copy free c.set_place.ensures.writes

pub returns-clause-owned : goal.returns-clause-owned
returns-clause-owned g c = λ owned. Shadowed-framed (chart (g.B.Board.state c.args.board.now)) (chart (g.B.Board.state c.set_place.new.board)) c.args.page c.args.frame c.args.i c.args.word c.set_place.result c.requires.sound c.requires.page c.requires.frame c.requires.place c.requires.unnamed c.requires.copy owned c.set_place.ensures.writes

pub returns-clause-counted : goal.returns-clause-counted
returns-clause-counted g c = Counted-put (chart (g.B.Board.state c.args.board.now)) (chart (g.B.Board.state c.set_place.new.board)) (with_place c.args.page (Some (Frame c.args.frame))) c.set_place.result c.set_place.ensures.writes

pub returns-clause-worn : goal.returns-clause-worn
returns-clause-worn g c = Wears-put (chart (g.B.Board.state c.args.board.now)) (chart (g.B.Board.state c.set_place.new.board)) (with_place c.args.page (Some (Frame c.args.frame))) c.set_place.result refl c.set_place.ensures.writes

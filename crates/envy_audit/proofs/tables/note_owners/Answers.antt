use Rattle.std.proofs.Common.{◌≡◌, ℕ, refl, ap, subst, arith}
use Rattle.envy_base.specs.declared.shape.Shape.{Shape}
use Rattle.envy_map.specs.Fields.{chart}
use Rattle.envy_audit.proofs.Owners.{Says}
use Rattle.envy_audit.proofs.Naming.{FirstNames, turn-now, turn-back, turn-long, turn-says, NotesOwners-all, RowsDiffer-all}
use Rattle.envy_audit.proofs.tables.note_owners.Goals as goal

pub returns-then-not-note-clause-tells : goal.returns-then-not-note-clause-tells
returns-then-not-note-clause-tells g c =
    turn-now (g.B.Board.state c.args.board.now) (g.met.B.Board.lawful c.args.board.now) c.requires.decodes c.loop-page.page c.in_ok-now.now c.in_ok-kept.kept c.in_ok-now.ensures.value.1 c.in_ok-kept.ensures.value.1 c.loop-page.owners c.note.new.owners c.note.new.owners c.loop-page.invariant.long c.loop-page.invariant.says c.if-not-note.ensures

pub returns-then-not-note-2-clause-tells : goal.returns-then-not-note-2-clause-tells
returns-then-not-note-2-clause-tells g c =
    turn-back (g.B.Board.state c.args.board.now) (g.met.B.Board.lawful c.args.board.now) c.requires.decodes c.loop-page.page c.in_ok-now.now c.in_ok-kept.kept c.in_ok-now.ensures.value.1 c.in_ok-kept.ensures.value.1 c.loop-page.owners c.note.new.owners c.note-in-loop-page.new.owners c.loop-page.invariant.long c.loop-page.invariant.says c.if-not-note.ensures c.if-not-note-2.ensures

pub loop-page-preserved : goal.loop-page-preserved
loop-page-preserved g c = record {
  long = turn-long (g.B.Board.state c.args.board.now) (g.met.B.Board.lawful c.args.board.now) c.requires.decodes c.loop-page.page c.in_ok-now.now c.in_ok-kept.kept c.in_ok-now.ensures.value.1 c.in_ok-kept.ensures.value.1 c.loop-page.owners c.note.new.owners c.note-in-loop-page.new.owners c.loop-page.invariant.long c.loop-page.invariant.says c.if-not-note.ensures c.if-not-note-2.ensures;
  says = turn-says (g.B.Board.state c.args.board.now) (g.met.B.Board.lawful c.args.board.now) c.requires.decodes c.loop-page.page c.in_ok-now.now c.in_ok-kept.kept c.in_ok-now.ensures.value.1 c.in_ok-kept.ensures.value.1 c.loop-page.owners c.note.new.owners c.note-in-loop-page.new.owners c.loop-page.invariant.long c.loop-page.invariant.says c.if-not-note.ensures c.if-not-note-2.ensures;
}

pub returns-clause-tells : goal.returns-clause-tells
returns-clause-tells g c =
    let pages : c.loop-page.page ≡ (g.B.Board.state c.args.board.now).shape.pages = omega (arith, ap (λ (sh : Shape). sh.pages) c.shape-page-end.ensures) in
    let says = subst (λ (k : ℕ). Says (FirstNames (chart (g.B.Board.state c.args.board.now)).fields k) c.loop-page.owners) pages c.loop-page.invariant.says in
    (λ _. RowsDiffer-all (g.B.Board.state c.args.board.now) (g.met.B.Board.lawful c.args.board.now) c.requires.decodes c.loop-page.owners c.loop-page.invariant.long says, λ _. refl)

pub returns-clause-notes : goal.returns-clause-notes
returns-clause-notes g c _ =
    let pages : c.loop-page.page ≡ (g.B.Board.state c.args.board.now).shape.pages = omega (arith, ap (λ (sh : Shape). sh.pages) c.shape-page-end.ensures) in
    let says = subst (λ (k : ℕ). Says (FirstNames (chart (g.B.Board.state c.args.board.now)).fields k) c.loop-page.owners) pages c.loop-page.invariant.says in
    NotesOwners-all (g.B.Board.state c.args.board.now) (g.met.B.Board.lawful c.args.board.now) c.requires.decodes c.loop-page.owners c.loop-page.invariant.long says

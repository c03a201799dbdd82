use Rattle.std.proofs.Common.{below_more, ℕ, ◌+◌, ◌*◌, ◌%◌, ◌<◌, false, sym, ◌∙◌, ap, arith}
use Rattle.std.proofs.lemmas.Bool.{false≢true}
use Rattle.std.specs.Prelude.{slice_index, slice_index_or}
use Rattle.envy_base.specs.declared.shape.Shape.{Shape}
use Rattle.envy_audit.proofs.Naming.{named-row}
use Rattle.envy_audit.proofs.Turning.{refuted, shown, no-owner, some-owner, row-in, segment-is, place-in, rest-less}
use Rattle.envy_audit.proofs.copies.kept_are_copied.Goals as goal

pub loop-i-preserved-then-owners-row-eq0 : goal.loop-i-preserved-then-owners-row-eq0
loop-i-preserved-then-owners-row-eq0 g c =
    let rows = ap (λ (sh : Shape). c.args.segment * sh.rows + c.loop-i.i) c.shape-rows.ensures in
    below_more _ _ c.loop-i.invariant (λ p told. no-owner _ p c.if-owners-row-eq0.true (ap (slice_index c.args.owners.now) rows ∙ told))

pub returns-then-not-copied-row : goal.returns-then-not-copied-row
returns-then-not-copied-row g c =
    let index = ap (λ (sh : Shape). c.args.segment * sh.rows + c.loop-i.i) c.shape-rows.ensures in
    let below : c.loop-i.i < (g.B.Board.state c.args.board.now).shape.rows = omega (arith, ap (λ (sh : Shape). sh.rows) c.shape-rows.ensures) in
    let within = row-in (g.B.Board.state c.args.board.now).shape c.args.segment c.loop-i.i c.requires.segment below in
    let told = sym (ap (slice_index c.args.owners.now) index) ∙ some-owner _ c.if-owners-row-eq0.false in
    let named = (c.requires.notes.notes _ _ within).0 told in
    let unmarked = ap (λ (r : ℕ). slice_index_or c.args.copied.now r false) (sym index) ∙ c.if-not-copied-row.true in
    refuted (λ all. false≢true (sym unmarked ∙ (c.requires.marks.marks _ within).1 (all _ _ named (segment-is (g.B.Board.state c.args.board.now).shape c.args.segment c.loop-i.i below))))

pub loop-i-preserved : goal.loop-i-preserved
loop-i-preserved g c = below_more _ _ c.loop-i.invariant (λ p told.
    let index = ap (λ (sh : Shape). c.args.segment * sh.rows + c.loop-i.i) c.shape-rows.ensures in
    let below : c.loop-i.i < (g.B.Board.state c.args.board.now).shape.rows = omega (arith, ap (λ (sh : Shape). sh.rows) c.shape-rows.ensures) in
    let within = row-in (g.B.Board.state c.args.board.now).shape c.args.segment c.loop-i.i c.requires.segment below in
    let marked = ap (λ (r : ℕ). slice_index_or c.args.copied.now r false) (sym index) ∙ c.if-not-copied-row.false in
    (c.requires.marks.marks _ within).0 marked)

pub returns : goal.returns
returns g c = shown (λ p q named there.
    let some = (g.met.B.Board.lawful c.args.board.now).shape.rows in
    let is = place-in (g.B.Board.state c.args.board.now).shape q c.args.segment (omega (arith, some)) there in
    let less = rest-less (g.B.Board.state c.args.board.now).shape q (omega (arith, some)) in
    let rows = ap (λ (sh : Shape). sh.rows) c.shape-rows.ensures in
    let told = (c.requires.notes.notes q p (named-row (g.B.Board.state c.args.board.now) (g.met.B.Board.lawful c.args.board.now) c.requires.decodes p q named)).1 named in
    let (i, below, from) = c.loop-i.invariant (q % (g.B.Board.state c.args.board.now).shape.rows) (omega (arith, less, rows)) p (ap (slice_index c.args.owners.now) (sym is) ∙ told) in
    (i, below, from ∙ sym is))

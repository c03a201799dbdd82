use Rattle.std.proofs.Common.{◌∙◌, ◌+◌, ℕ, List, [], ◌∷◌, OnErr, drop, sym, ap, subst, refl}
use Rattle.std.specs.List.{All}
use Rattle.std.proofs.lemmas.List.Elements.{All-nil, All-push}
use Rattle.envy_base.specs.declared.shape.Shape.{Shape}
use Rattle.envy_journal.specs.declared.operation.Operation.{Operation}
use Rattle.envy_journal.specs.declared.operation.Operation.TheVariants.{Put}
use Rattle.envy_journal.specs.Content.{Content, after, changed, content_of, HasMisfit, IsWithin}
use Rattle.envy_journal.specs.Reading.{puts}
use Rattle.envy_journal.proofs.Replayed.{after-append, on_err}
use Rattle.envy_journal.proofs.Words.{put_in, puts_next, puts_none}
use Rattle.envy_journal.proofs.replay.redo_run.Goals as goal

pub loop-i-init : goal.loop-i-init
loop-i-init g c =
    let s = g.B.Board.state c.args.board.now in
    let none = puts_none c.number_at-first.result (drop 5 c.args.bytes.now) in
    record {
      shape = refl;
      within = subst (λ (p : List Operation). All (IsWithin s.shape) p) (sym none) (All-nil (IsWithin s.shape));
      content = ap (λ (p : List Operation). after s.shape.rows p (content_of s)) (sym none);
    }

pub loop-i-preserved : goal.loop-i-preserved
loop-i-preserved g c =
    let s = g.B.Board.state c.args.board.now in
    let t = g.B.Board.state c.loop-i.board in
    let u = g.B.Board.state c.redo_put.new.board in
    let inv = c.loop-i.invariant in
    let w = c.number_at-first.result in
    let i = c.loop-i.i in
    let v = c.word_at.result in
    let bytes = c.args.bytes.now in
    let next = puts_next w i bytes v c.word_at.ensures in
    let did = c.in_ok-redo_put.ensures in
    record {
      shape = c.redo_put.ensures.shape ∙ inv.shape;
      within = subst (λ (p : List Operation). All (IsWithin s.shape) p) (sym next) (All-push (IsWithin s.shape) (puts w i (drop 5 bytes)) (Put (w + i) v) inv.within (subst (λ (sh : Shape). IsWithin sh (Put (w + i) v)) inv.shape did.within));
      content =
          did.ok
          ∙ ap (λ (sh : Shape). changed sh.rows (Put (w + i) v) (content_of t)) inv.shape
          ∙ ap (λ (x : Content). changed s.shape.rows (Put (w + i) v) x) inv.content
          ∙ sym (after-append s.shape.rows (puts w i (drop 5 bytes)) (Put (w + i) v ∷ []) (content_of s))
          ∙ ap (λ (p : List Operation). after s.shape.rows p (content_of s)) (sym next);
    }

pub returns-in_err-redo_put-clause-misfit : goal.returns-in_err-redo_put-clause-misfit
returns-in_err-redo_put-clause-misfit g c =
    let inv = c.loop-i.invariant in
    let w = c.number_at-first.result in
    let i = c.loop-i.i in
    let v = c.word_at.result in
    let misfit : HasMisfit (g.B.Board.state c.args.board.now).shape (puts w c.args.count (drop 5 c.args.bytes.now)) = (
      Put (w + i) v,
      put_in w i c.args.count c.args.bytes.now v c.loop-i-test.true c.word_at.ensures,
      λ is. c.in_err-redo_put.ensures.misfit (subst (λ (sh : Shape). IsWithin sh (Put (w + i) v)) (sym inv.shape) is),
    ) in
    subst (λ (k : ℕ). OnErr c.from_residual.result (HasMisfit (g.B.Board.state c.args.board.now).shape (puts k c.args.count (drop 5 c.args.bytes.now)))) c.number_at-first.ensures (on_err c.from_residual.result misfit)

use Rattle.std.proofs.Common.{sym, ◌∙◌}
use Rattle.std.proofs.lemmas.Bool.{false≢true}
use Rattle.std.proofs.lemmas.Result.{err_from_is_err_and}
use Rattle.envy_image.proofs.Consuming.{shape-ends, head-read, head-bare, head-is, head-misshapen}
use Rattle.envy_image.proofs.reader.read_head.Goals as goal

pub returns-in_err-extended : goal.returns-in_err-extended
returns-in_err-extended g c =
    let p = err_from_is_err_and c.from_residual.result c.from_residual.ensures.1 in
    rw (p.1, p.2) c.in_err-extended.ensures

pub returns-in_err-shape : goal.returns-in_err-shape
returns-in_err-shape g c =
    let p = err_from_is_err_and c.from_residual-in_err-shape.result c.from_residual-in_err-shape.ensures.1 in
    let (bytes, few, ends, stops) = c.in_err-shape.ensures in
    rw (p.1, p.2) (shape-ends c.in_ok-extended.extended _ _ _ _ (g.S.Source.feed c.read_mark.new.source) _ c.in_ok-extended.ensures c.in_err-shape.field-0.0 bytes few ends stops)

pub returns-then-bare : goal.returns-then-bare
returns-then-bare g c =
    let read = head-read c.in_ok-extended.extended _ _ _ _ (g.S.Source.feed c.read_mark.new.source) _ c.in_ok-extended.ensures c.in_ok-shape.shape c.in_ok-shape.ensures.0 in
    let (is, two) = c.is_bare-bare.ensures.0 c.if-bare.true in
    head-bare c.in_ok-extended.extended _ _ _ _ c.in_ok-shape.shape c.in_ok-shape.ensures.1 c.in_ok-shape.ensures.2 read is two

pub returns-in_err-check : goal.returns-in_err-check
returns-in_err-check g c =
    let p = err_from_is_err_and c.from_residual-in_err-check.result c.from_residual-in_err-check.ensures.1 in
    let read = head-read c.in_ok-extended.extended _ _ _ _ (g.S.Source.feed c.read_mark.new.source) _ c.in_ok-extended.ensures c.in_ok-shape.shape c.in_ok-shape.ensures.0 in
    rw (p.1, p.2)
    (head-misshapen c.in_ok-extended.extended _ _ _ _ c.in_ok-shape.shape c.in_ok-shape.ensures.1 c.in_ok-shape.ensures.2 read _ (λ is two. false≢true (sym c.if-bare.false ∙ c.is_bare-bare.ensures.1 (is, two))) (sym c.in_err-check.ensures.table))

pub returns : goal.returns
returns g c =
    let read = head-read c.in_ok-extended.extended _ _ _ _ (g.S.Source.feed c.read_mark.new.source) _ c.in_ok-extended.ensures c.in_ok-shape.shape c.in_ok-shape.ensures.0 in (
      head-is c.in_ok-extended.extended _ _ _ _ c.in_ok-shape.shape c.in_ok-shape.ensures.1 c.in_ok-shape.ensures.2 read (λ is two. false≢true (sym c.if-bare.false ∙ c.is_bare-bare.ensures.1 (is, two))),
      sym c.in_ok-check.ensures.table,
      c.in_ok-shape.ensures.1,
    )

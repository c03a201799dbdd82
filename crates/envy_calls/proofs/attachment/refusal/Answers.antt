use Rattle.std.proofs.Common.{◌≡◌, ◌∙◌, sym, subst}
use Rattle.envy_audit.specs.Judging.{Judges}
use Rattle.envy_audit.specs.declared.verdict.Verdict.{Verdict}
use Rattle.envy_map.specs.Fields.{chart}
use Rattle.envy_calls.proofs.Versions.{alike, same-shape, whole}
use Rattle.envy_calls.proofs.attachment.refusal.Goals as goal
use Rattle.envy_calls.proofs.attachment.refusal.Goals.{in-Sound, in-Unformatted, in-Broken}

pub returns-in_default : goal.returns-in_default
returns-in_default g c =
    let board = chart (g.B.Board.state c.args.board.now) in
    alike board c.args.setup.now (c.in_ok-formatted.ensures.1.0 c.if-not-formatted.false) (λ (one : board.fields.version ≡ 1). c.if-branch-eq1.false (c.in_ok-version.ensures.1 ∙ one)) (sym c.in_ok-kept_shape.ensures.1 ∙ same-shape _ _ c.if-ne.ensures)

pub returns : goal.returns
returns g c =
    let board = chart (g.B.Board.state c.args.board.now) in
    let is = alike board c.args.setup.now (c.in_ok-formatted.ensures.1.0 c.if-not-formatted.false) (λ (one : board.fields.version ≡ 1). c.if-branch-eq1.false (c.in_ok-version.ensures.1 ∙ one)) (sym c.in_ok-kept_shape.ensures.1 ∙ same-shape _ _ c.if-ne.ensures) in
    let judged = c.in_ok-check.ensures.verdict.1 in
    elim c.match-branch-5.branch [
      | in-Sound w ↦ rw w.result-is (whole board c.args.setup.now is (subst (λ (v : Verdict). Judges v board) w.in-Sound.is judged).1)
      | in-Unformatted w ↦ rw w.result-is (λ both. subst (λ (v : Verdict). Judges v board) w.in-Unformatted.is judged both.1)
      | in-Broken w ↦ rw w.result-is (is, subst (λ (v : Verdict). Judges v board) w.in-Broken.is judged)
    ]

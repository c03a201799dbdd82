use Rattle.std.proofs.Common.{◌*◌, refl, subst, sym, ◌∙◌}
use Rattle.envy_serve.specs.Streams.{Streams}
use Rattle.envy_run.specs.Audits.{IsVerdict, Refused, judging, verdict_line}
use Rattle.envy_run.specs.Meaning.{Does}
use Rattle.envy_run.specs.Outcome.{outcome_of}
use Rattle.envy_run.specs.Writing.{WritesAs}
use Rattle.envy_run.specs.declared.endings.Ending.{Ending}
use Rattle.envy_run.specs.declared.endings.Finished.{Finished}
use Rattle.envy_run.proofs.Accounts.{writes-as}
use Rattle.envy_run.proofs.Loaded.{is-large, is-small, no-head, tells-large, tells-refused, tells-judged}
use Rattle.envy_run.proofs.audit_run.run_audit.Goals as goal

pub returns-in-Ok-take_image-clause-audits : goal.returns-in-Ok-take_image-clause-audits
returns-in-Ok-take_image-clause-audits g c =
    let from = g.S.Source.feed c.args.source.now in
    let to = g.K.Sink.drain c.args.sink.now in
    let sink = g.K.Sink.drain c.write_verdict.new.sink in
    let text = verdict_line c.in-Ok-take_image.verdict in
    tells-judged c.args.most IsVerdict g.M.Made.Board.state c.in-Ok.shape c.in-Ok-take_image.verdict text c.written-ending.result c.taken-in-Ok-take_image.result c.in-Ok-take_image.board c.stopped_at.result from (g.S.Source.feed c.take_image.new.source) to sink c.take_image.new.lines c.stopped_at.ensures c.taken-in-Ok-take_image.ensures (is-small c.is_too_large.result c.args.most (c.in-Ok.shape.segments * c.in-Ok.shape.rows) c.is_too_large.ensures c.if-is_too_large.false) (c.in-Ok-take_image.ensures from c.in-Ok.ensures.0) refl
    (subst (λ (e : Ending). WritesAs text e to sink) (sym c.written-ending.ensures) (writes-as text c.write_verdict.result to sink c.write_verdict.ensures))

pub returns-in-Err-take_image-clause-audits : goal.returns-in-Err-take_image-clause-audits
returns-in-Err-take_image-clause-audits g c =
    let from = g.S.Source.feed c.args.source.now in
    tells-refused c.args.most IsVerdict g.M.Made.Board.state c.in-Ok.shape c.in-Err-take_image.refusal c.taken-in-Err-take_image.result c.in-Err-take_image.board c.refused-in-Err-take_image.result from (g.S.Source.feed c.take_image.new.source) (g.K.Sink.drain c.args.sink.now) c.take_image.new.lines c.refused-in-Err-take_image.ensures c.taken-in-Err-take_image.ensures c.in-Ok.ensures.1 (is-small c.is_too_large.result c.args.most (c.in-Ok.shape.segments * c.in-Ok.shape.rows) c.is_too_large.ensures c.if-is_too_large.false) (c.in-Err-take_image.ensures from c.in-Ok.ensures.0)

-- the head itself wasn't read
pub returns-in-Err-clause-audits : goal.returns-in-Err-clause-audits
returns-in-Err-clause-audits g c =
    let io : Streams = record { from = g.S.Source.feed c.args.source.now; feed = g.S.Source.feed c.take_head.new.source; to = g.K.Sink.drain c.args.sink.now; sink = g.K.Sink.drain c.args.sink.now } in
    let (bytes, t, cause, other) = c.in-Err.ensures in
    subst (λ (x : Finished g.row.M-Made.Denot). Does (judging c.args.most IsVerdict) (outcome_of g.M.Made.Board.state x) io) (sym c.refused.ensures)
    (record {
      account = Refused c.in-Err.refusal bytes;
      printed = (record { ending = record { status = refl; why = refl }; took = record { lines = refl; taken = c.taken.ensures ∙ t.taken; source = t.left; sink = refl }; cause = cause }, λ sh rest told ok. absurd (no-head c.in-Err.refusal bytes (g.S.Source.feed c.args.source.now) (g.S.Source.feed c.take_head.new.source) other cause sh rest told ok));
      board = tt;
      licences = tt;
    })

-- its board is too large
pub returns-then-is_too_large-clause-audits : goal.returns-then-is_too_large-clause-audits
returns-then-is_too_large-clause-audits g c =
    tells-large c.args.most IsVerdict g.M.Made.Board.state c.in-Ok.shape c.taken-then-is_too_large.result c.refused-then-is_too_large.result (g.S.Source.feed c.args.source.now) (g.S.Source.feed c.take_head.new.source) (g.K.Sink.drain c.args.sink.now) c.take_head.new.lines c.refused-then-is_too_large.ensures c.taken-then-is_too_large.ensures c.in-Ok.ensures.1 (is-large c.is_too_large.result c.args.most (c.in-Ok.shape.segments * c.in-Ok.shape.rows) c.is_too_large.ensures c.if-is_too_large.true) c.in-Ok.ensures.0

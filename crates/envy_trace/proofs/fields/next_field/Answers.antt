use Rattle.std.proofs.Common.{sym, ◌∙◌}
use Rattle.envy_trace.proofs.Pieces.{pieces-none, pieces-some}
use Rattle.envy_trace.proofs.fields.next_field.Goals as goal

pub returns-in_err-start : goal.returns-in_err-start
returns-in_err-start c = rw c.from_residual.ensures (pieces-none c.args.bytes.now (sym c.in_err-start.ensures))

pub returns : goal.returns
returns c =
    let bs = c.args.bytes.now in
    rw (c.split_at-2.ensures.front, c.split_at-2.ensures.back, c.split_at.ensures.back)
    (pieces-some bs c.in_ok-start.start c.unwrap_or-end.result (sym c.in_ok-start.ensures)
    (c.unwrap_or-end.ensures ∙ (rw c.field_end.ensures (rw c.split_at.ensures.back))))

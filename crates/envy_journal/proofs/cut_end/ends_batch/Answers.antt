use Rattle.std.proofs.Common.{rules, ◌≡◌, ◌<◌, ◌≤◌, ◌∙◌, length, sym}
use Rattle.envy_journal.proofs.Cut.{ends_further, ends_here, ends_never, ends_past}
use Rattle.envy_journal.proofs.cut_end.ends_batch.Goals as goal

pub returns-then-bytes-at-eq-STOP : goal.returns-then-bytes-at-eq-STOP
returns-then-bytes-at-eq-STOP c =
    let lt : c.loop-at.at < length c.args.bytes.now = search rules in
    sym (ends_here c.args.bytes.now c.loop-at.at lt c.if-bytes-at-eq-STOP.true) ∙ c.loop-at.invariant

pub returns-then-size-eq0 : goal.returns-then-size-eq0
returns-then-size-eq0 c =
    let lt : c.loop-at.at < length c.args.bytes.now = search rules in
    sym (ends_never c.args.bytes.now c.loop-at.at lt c.if-bytes-at-eq-STOP.false (sym c.size_behind-size.ensures.value ∙ c.if-size-eq0.true)) ∙ c.loop-at.invariant

pub loop-at-preserved : goal.loop-at-preserved
loop-at-preserved c =
    let lt : c.loop-at.at < length c.args.bytes.now = search rules in
    sym (ends_further c.args.bytes.now c.loop-at.at lt c.size_behind-size.result c.size_behind-size.ensures.value c.if-bytes-at-eq-STOP.false c.if-size-eq0.false) ∙ c.loop-at.invariant

pub returns : goal.returns
returns c =
    let past : length c.args.bytes.now ≤ c.loop-at.at = search rules in
    sym (ends_past c.args.bytes.now c.loop-at.at past) ∙ c.loop-at.invariant

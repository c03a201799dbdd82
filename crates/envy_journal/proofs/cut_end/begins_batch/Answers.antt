use Rattle.std.proofs.Common.{rules, ◌≡◌, ◌≢◌, ◌<◌, ◌≤◌, ◌∙◌, ℕ, Bool, List, get_or, length, drop, sym, ap, arith}
use Rattle.std.specs.Prelude.{not}
use Rattle.std.proofs.lemmas.Bool.{eq-eqb, ne_eqb}
use Rattle.std.proofs.lemmas.List.{take_rest}
use Rattle.envy_journal.specs.Cutting.{ends_batch}
use Rattle.envy_journal.specs.Reading.{whole}
use Rattle.envy_journal.proofs.Cut.{begins_counted, begins_empty, begins_open, begins_other, begins_short}
use Rattle.envy_journal.proofs.cut_end.begins_batch.Goals as goal

pub returns-then-bytes-lt2 : goal.returns-then-bytes-lt2
returns-then-bytes-lt2 c =
    let short : length c.args.bytes.now < 2 = search rules in
    sym (begins_short c.args.bytes.now short)

pub returns-then-bytes-ne-STOP : goal.returns-then-bytes-ne-STOP
returns-then-bytes-ne-STOP c =
    let long : 2 ≤ length c.args.bytes.now = search rules in
    c.ends_batch.ensures ∙ ap (λ (l : List ℕ). ends_batch 0 l) (take_rest c.args.bytes.now 1) ∙ sym (begins_open c.args.bytes.now long c.if-bytes-eq-OPEN.true c.if-bytes-ne-STOP.true)

pub returns-else-bytes-ne-STOP : goal.returns-else-bytes-ne-STOP
returns-else-bytes-ne-STOP c =
    let long : 2 ≤ length c.args.bytes.now = search rules in
    ap not (eq-eqb (get_or c.args.bytes.now 1 0) 5 c.if-bytes-ne-STOP.false) ∙ sym (begins_empty c.args.bytes.now long c.if-bytes-eq-OPEN.true c.if-bytes-ne-STOP.false)

pub returns-then-bytes-eq-COUNTED : goal.returns-then-bytes-eq-COUNTED
returns-then-bytes-eq-COUNTED c =
    let long : 2 ≤ length c.args.bytes.now = search rules in
    c.is_whole.ensures ∙ ap (λ (l : List ℕ). whole 0 0 l) (take_rest c.args.bytes.now 1) ∙ sym (begins_counted c.args.bytes.now long c.if-bytes-eq-OPEN.false c.if-bytes-eq-COUNTED.true)

pub returns-else-bytes-eq-COUNTED : goal.returns-else-bytes-eq-COUNTED
returns-else-bytes-eq-COUNTED c =
    let long : 2 ≤ length c.args.bytes.now = search rules in
    ne_eqb (get_or c.args.bytes.now 0 0) 6 c.if-bytes-eq-COUNTED.false ∙ sym (begins_other c.args.bytes.now long c.if-bytes-eq-OPEN.false c.if-bytes-eq-COUNTED.false)

use Rattle.std.proofs.Common.{rules, ◌≡◌, ◌<◌, ◌∙◌, true, false, ℕ, List, length, subst, sym}
use Rattle.std.proofs.lemmas.List.{take_rest}
use Rattle.envy_journal.specs.Cutting.{has_batch, unread}
use Rattle.envy_journal.proofs.Cut.{cut_none, cut_short, cut_some}
use Rattle.envy_journal.proofs.cut_end.cut_batch.Goals as goal

pub returns-then-bytes-lt-HEAD : goal.returns-then-bytes-lt-HEAD
returns-then-bytes-lt-HEAD c =
    let short : length c.args.bytes.now < 33 = search rules in
    cut_short c.args.bytes.now short

use Rattle.std.proofs.Common.{rules, ◌≡◌, ◌∙◌, List, ℕ, get_or, sym, ap, subst}
use Rattle.envy_device.specs.Device.{LeavesOnly}
use Rattle.envy_journal.specs.declared.operation.Operation.{Operation}
use Rattle.envy_journal.specs.Content.{holds}
use Rattle.envy_journal.specs.Found.{IsEnd}
use Rattle.envy_journal.specs.Head.{HasHead, StandsFor}
use Rattle.envy_journal.specs.Version.{version}
use Rattle.envy_journal.specs.Reading.{operations}
use Rattle.envy_journal.proofs.Opened.{mended_reads, mended_leads, mended_head, mended_runs, settled_stands, stands_self, untouched}
use Rattle.envy_journal.proofs.open_error.open_at.Goals as goal

pub returns-in-Err-clause-any_moment_err : goal.returns-in-Err-clause-any_moment_err
returns-in-Err-clause-any_moment_err g c =
    let D = g.D.Device in
    let old = c.args.device in
    let sh = (g.B.Board.state c.args.board).shape in
    untouched D.moment D.left_since old old (D.may_leave old) (D.seen old) (StandsFor sh (operations c.args.bytes.now)) c.requires.durable (g.met.D.Device.only_now old)
    (stands_self sh c.args.end c.args.bytes.now (D.seen old) c.requires.bytes c.requires.head c.requires.end)

pub begun-requires-clause-head : goal.begun-requires-clause-head
begun-requires-clause-head g c =
    let seen = g.D.Device.seen in
    let sh = (g.B.Board.state c.args.board).shape in
    let file = seen c.args.device in
    mended_head c.args.end c.in-Ok-settle.size file (seen c.settle.new.device) c.in-Ok-settle.ensures.mended (subst (λ (l : List ℕ). IsEnd c.args.end l) c.requires.bytes c.requires.end) sh (subst (λ (l : List ℕ). HasHead sh l) c.requires.bytes c.requires.head)

pub begun-requires-clause-leads : goal.begun-requires-clause-leads
begun-requires-clause-leads g c =
    let seen = g.D.Device.seen in
    mended_leads c.args.end c.in-Ok-settle.size (seen c.args.device) (seen c.settle.new.device) c.in-Ok-settle.ensures.mended (subst (λ (l : List ℕ). IsEnd c.args.end l) c.requires.bytes c.requires.end)

pub begun-requires-clause-content : goal.begun-requires-clause-content
begun-requires-clause-content g c =
    let seen = g.D.Device.seen in
    let sh = (g.B.Board.state c.args.board).shape in
    let reads = mended_reads c.args.end c.in-Ok-settle.size (seen c.args.device) (seen c.settle.new.device) c.in-Ok-settle.ensures.mended (subst (λ (l : List ℕ). IsEnd c.args.end l) c.requires.bytes c.requires.end) in
    c.requires.content ∙ ap (λ (p : List Operation). holds sh p) (ap operations c.requires.bytes ∙ sym reads)

pub returns-in-Ok-settle-clause-kept : goal.returns-in-Ok-settle-clause-kept
returns-in-Ok-settle-clause-kept g c =
    let seen = g.D.Device.seen in
    c.begun.ensures.kept
    ∙ mended_reads c.args.end c.in-Ok-settle.size (seen c.args.device) (seen c.settle.new.device) c.in-Ok-settle.ensures.mended (subst (λ (l : List ℕ). IsEnd c.args.end l) c.requires.bytes c.requires.end)
    ∙ ap operations (sym c.requires.bytes)

pub returns-in-Ok-settle-clause-done : goal.returns-in-Ok-settle-clause-done
returns-in-Ok-settle-clause-done g c =
    let seen = g.D.Device.seen in
    c.begun.ensures.done
    ∙ mended_reads c.args.end c.in-Ok-settle.size (seen c.args.device) (seen c.settle.new.device) c.in-Ok-settle.ensures.mended (subst (λ (l : List ℕ). IsEnd c.args.end l) c.requires.bytes c.requires.end)
    ∙ ap operations (sym c.requires.bytes)

pub returns-in-Err-settle-clause-any_moment_err : goal.returns-in-Err-settle-clause-any_moment_err
returns-in-Err-settle-clause-any_moment_err g c =
    let D = g.D.Device in
    let sh = (g.B.Board.state c.args.board).shape in
    let is_end = c.requires.end in
    settled_stands D.moment D.left_since c.args.device c.settle.new.device sh c.args.end (D.seen c.args.device) c.args.bytes.now c.requires.bytes is_end.past_head c.requires.head c.settle.ensures.any_moment

pub returns-in-Ok-settle-clause-any_moment : goal.returns-in-Ok-settle-clause-any_moment
returns-in-Ok-settle-clause-any_moment g c =
    let D = g.D.Device in
    let sh = (g.B.Board.state c.args.board).shape in
    let is_end = c.requires.end in
    let only = settled_stands D.moment D.left_since c.args.device c.settle.new.device sh c.args.end (D.seen c.args.device) c.args.bytes.now c.requires.bytes is_end.past_head c.requires.head c.settle.ensures.any_moment in
    subst (λ (d : g.row.D.Denot). LeavesOnly D.moment D.left_since c.args.device d (StandsFor sh (operations c.args.bytes.now))) (sym c.begun.ensures.device) only

pub begun-requires-clause-at_rest : goal.begun-requires-clause-at_rest
begun-requires-clause-at_rest g c =
    let is = c.in-Ok-settle.ensures.mended in
    record { within = is.gate; closed = is.closed; durable = c.in-Ok-settle.ensures.durable; synced_now = c.in-Ok-settle.ensures.synced }

pub begun-requires-clause-runs : goal.begun-requires-clause-runs
begun-requires-clause-runs g c = λ may.
    let seen = g.D.Device.seen in
    let sh = (g.B.Board.state c.args.board).shape in
    let file = seen c.args.device in
    let says : get_or c.args.bytes.now 8 0 ≡ version = search rules in
    mended_runs c.args.end c.in-Ok-settle.size file (seen c.settle.new.device) c.in-Ok-settle.ensures.mended (subst (λ (l : List ℕ). IsEnd c.args.end l) c.requires.bytes c.requires.end) (subst (λ (l : List ℕ). get_or l 8 0 ≡ version) c.requires.bytes says) sh (subst (λ (l : List ℕ). HasHead sh l) c.requires.bytes c.requires.head)

use Rattle.std.proofs.Common.{◌∙◌, ◌∷◌, [], ◌++◌, List, arith, sym, ap, subst}
use Rattle.envy_base.specs.declared.shape.Shape.{Shape}
use Rattle.envy_device.specs.Device.{LeavesOnly}
use Rattle.envy_journal.specs.declared.operation.Operation.{Operation}
use Rattle.envy_journal.specs.Content.{holds}
use Rattle.envy_journal.specs.Head.{IsNewOrUnmade, head_bytes}
use Rattle.envy_journal.specs.Version.{version}
use Rattle.envy_journal.proofs.Opened.{made_closed, made_size, made_head, made_leads, made_reads, made_runs}
use Rattle.envy_journal.proofs.open_error.create.Goals as goal

pub begun-requires-clause-at_rest : goal.begun-requires-clause-at_rest
begun-requires-clause-at_rest g c =
    let made = c.in-Ok-make.ensures in
    let sh = c.shape.result in
    let file = g.D.Device.seen c.make.new.device in
    record { within = omega (arith, made_size sh file made.file); closed = made_closed sh file made.file; durable = made.durable; synced_now = made.synced }

pub begun-requires-clause-head : goal.begun-requires-clause-head
begun-requires-clause-head g c =
    let sh = (g.B.Board.state c.args.board).shape in
    let file = g.D.Device.seen c.make.new.device in
    made_head sh file (c.in-Ok-make.ensures.file ∙ ap (λ (s : Shape). head_bytes version s ++ 0 ∷ []) c.shape.ensures)

pub begun-requires-clause-leads : goal.begun-requires-clause-leads
begun-requires-clause-leads g c = made_leads c.shape.result (g.D.Device.seen c.make.new.device) c.in-Ok-make.ensures.file

pub begun-requires-clause-content : goal.begun-requires-clause-content
begun-requires-clause-content g c =
    let sh = (g.B.Board.state c.args.board).shape in
    c.requires.blank ∙ ap (λ (p : List Operation). holds sh p) (sym (made_reads c.shape.result (g.D.Device.seen c.make.new.device) c.in-Ok-make.ensures.file))

pub returns-in-Ok-make-clause-kept : goal.returns-in-Ok-make-clause-kept
returns-in-Ok-make-clause-kept g c = c.begun.ensures.kept ∙ made_reads c.shape.result (g.D.Device.seen c.make.new.device) c.in-Ok-make.ensures.file

pub returns-in-Ok-make-clause-done : goal.returns-in-Ok-make-clause-done
returns-in-Ok-make-clause-done g c = c.begun.ensures.done ∙ made_reads c.shape.result (g.D.Device.seen c.make.new.device) c.in-Ok-make.ensures.file

pub returns-in-Ok-make-clause-any_moment : goal.returns-in-Ok-make-clause-any_moment
returns-in-Ok-make-clause-any_moment g c =
    let moment = g.D.Device.moment in
    let left = g.D.Device.left_since in
    let old = c.args.device in
    let sh = (g.B.Board.state c.args.board).shape in
    let only = subst (λ (s : Shape). LeavesOnly moment left old c.make.new.device (IsNewOrUnmade s)) c.shape.ensures c.make.ensures.any_moment in
    subst (λ (d : g.row.D.Denot). LeavesOnly moment left old d (IsNewOrUnmade sh)) (sym c.begun.ensures.device) only

pub returns-in-Ok-make-clause-file : goal.returns-in-Ok-make-clause-file
returns-in-Ok-make-clause-file g c =
    ap g.D.Device.seen c.begun.ensures.device ∙ c.in-Ok-make.ensures.file ∙ ap (λ (s : Shape). head_bytes version s ++ 0 ∷ []) c.shape.ensures

pub begun-requires-clause-runs : goal.begun-requires-clause-runs
begun-requires-clause-runs g c = λ may. made_runs c.shape.result (g.D.Device.seen c.make.new.device) c.in-Ok-make.ensures.file

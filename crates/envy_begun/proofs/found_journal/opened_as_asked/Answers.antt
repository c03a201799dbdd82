use Rattle.envy_begun.proofs.Again.{err_on, ok_on}
use Rattle.envy_begun.proofs.Alike.{leaves-as, stands-alike}
use Rattle.envy_begun.specs.Left.{OpensAlike}
use Rattle.envy_journal.specs.Head.{StandsFor}
use Rattle.envy_journal.specs.Reading.{operations}
use Rattle.envy_begun.proofs.found_journal.opened_as_asked.Goals as goal

pub returns-in-Ok-clause-opened : goal.returns-in-Ok-clause-opened
returns-in-Ok-clause-opened g c = ok_on c.compacted.result c.compacted.ensures.opened (λ after goes. goes (g.B.Board.state c.args.board).shape c.args.bytes.now c.in-Ok.ensures.opened)

pub returns-in-Ok-clause-left : goal.returns-in-Ok-clause-left
returns-in-Ok-clause-left g c = err_on c.compacted.result c.compacted.ensures.left (λ e stays. stays (g.B.Board.state c.args.board).shape c.args.bytes.now c.in-Ok.ensures.opened)

pub returns-in-Err-clause-left : goal.returns-in-Err-clause-left
returns-in-Err-clause-left g c =
    let sh = (g.B.Board.state c.args.board).shape in
    let file = c.args.bytes.now in
    leaves-as g.D.Device.left_since g.D.Device.moment c.in-Err.open_fault.1 (StandsFor sh (operations file)) (OpensAlike sh file) (stands-alike sh file) c.in-Err.ensures.left

pub returns-in-Ok-clause-same : goal.returns-in-Ok-clause-same
returns-in-Ok-clause-same g c not =
    let here = c.in-Ok.ensures.reads in
    ok_on c.compacted.result (c.compacted.ensures.same not) (λ after is. rw is here)

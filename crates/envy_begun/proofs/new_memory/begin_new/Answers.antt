use Rattle.std.proofs.Common.{◌∙◌, ◌⊎◌, inr, []}
use Rattle.envy_begun.proofs.Again.{err_on, unopened-stopped}
use Rattle.envy_begun.proofs.Alike.{leaves-as, leaves-on, leaves-only}
use Rattle.envy_begun.proofs.Fresh.{new-stays}
use Rattle.envy_begun.specs.Left.{StaysNew}
use Rattle.envy_journal.specs.Head.{IsNewOrUnmade, IsUnmade}
use Rattle.envy_begun.proofs.new_memory.begin_new.Goals as goal

pub returns-in-Err-clause-failed : goal.returns-in-Err-clause-failed
returns-in-Err-clause-failed g c =
    unopened-stopped g.D.Device.seen g.D.Device.has_failed c.in-Err.device c.unopened.result.1 c.unopened.result.0 c.in-Err.error c.unopened.ensures.says c.in-Err.ensures.failed

pub returns-in-Err-clause-left : goal.returns-in-Err-clause-left
returns-in-Err-clause-left g c =
    let made = (g.B.Board.state c.args.board).shape in
    let left = g.D.Device.left_since in
    let moment = g.D.Device.moment in
    let open_fault = c.unopened.result.0 in
    let new = c.unopened.result.1 in
    let stopped = unopened-stopped g.D.Device.seen g.D.Device.has_failed c.in-Err.device new open_fault c.in-Err.error c.unopened.ensures.says c.in-Err.ensures.failed in
    leaves-as left moment new (IsNewOrUnmade made) (λ file. IsUnmade file ⊎ StaysNew open_fault c.args.setup.shape [] file) (new-stays g.D.Device.seen g.D.Device.has_failed new made c.args.setup.shape c.requires.shape open_fault stopped)
    (leaves-on left moment c.in-Err.device new (IsNewOrUnmade made) c.unopened.ensures.time c.unopened.ensures.left (leaves-only left moment c.args.device c.in-Err.device (IsNewOrUnmade made) c.in-Err.ensures.any_moment_err))

pub returns-clause-left : goal.returns-clause-left
returns-clause-left g c =
    err_on c.make_memory.result (c.make_memory.ensures.left c.new.ensures.synced [] (c.new.ensures.reads ∙ c.in-Ok.ensures.kept))
    (λ e l. leaves-as g.D.Device.left_since g.D.Device.moment e.1 (StaysNew e.0 c.args.setup.shape []) (λ file. IsUnmade file ⊎ StaysNew e.0 c.args.setup.shape [] file) (λ file stays. inr stays) l)

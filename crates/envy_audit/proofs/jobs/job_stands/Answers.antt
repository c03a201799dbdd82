use Rattle.std.proofs.Common.{◌≡◌, ◌∙◌, ap, Some}
use Rattle.envy_base.specs.declared.fields.Job.TheVariants.{Switch}
use Rattle.envy_map.specs.Fields.{chart}
use Rattle.envy_audit.proofs.Turning.{tells-job, switch-within, is-placed}
use Rattle.envy_audit.proofs.jobs.job_stands.Goals as goal

pub returns-in-Switch : goal.returns-in-Switch
returns-in-Switch g c =
    let job : (chart (g.B.Board.state c.args.board.now)).fields.job ≡ Some (Switch c.in-Switch.segment) = c.in_ok-job.ensures.value.1 ∙ ap Some c.in-Switch.is in
    let placed = is-placed (chart (g.B.Board.state c.args.board.now)) c.args.used.now c.requires.used c.in-Switch.segment (switch-within (chart (g.B.Board.state c.args.board.now)) _ c.requires.decodes job) c.if-used-segment.true in
    tells-job (chart (g.B.Board.state c.args.board.now)) _ _ job placed c.spares_hold_copies.ensures

use Rattle.std.proofs.Common.{sym, subst, ap}
use Rattle.envy_memory.specs.Picture.{Picture}
use Rattle.envy_base.specs.declared.faults.PlannedFault.{PlannedFault}
use Rattle.envy_trace.specs.Spelling.{IsLine}
use Rattle.envy_trace.specs.declared.reply.Reply.TheVariants.{Armed}
use Rattle.envy_run.specs.Answers.{AnswerLicence, line_of_plan}
use Rattle.envy_run.proofs.Replying.{Licence-planned}
use Rattle.envy_run.proofs.answers.arm.Goals as goal

pub arm_cut-requires : goal.arm_cut-requires
arm_cut-requires g c = (subst (λ (plan : PlannedFault). IsLine (line_of_plan plan)) c.in-Cut.is c.requires.ranges).0

pub arm_bad-requires : goal.arm_bad-requires
arm_bad-requires g c = (subst (λ (plan : PlannedFault). IsLine (line_of_plan plan)) c.in-Bad.is c.requires.ranges).0

pub returns-in-Cut-clause-licence : goal.returns-in-Cut-clause-licence
returns-in-Cut-clause-licence g c = subst (λ (plan : PlannedFault). AnswerLicence (line_of_plan plan) Armed c.args.memory.now.chart c.arm_cut.new.self.chart) (sym c.in-Cut.is) (Licence-planned _ _ _ (ap (λ (p : Picture). p.chart) c.arm_cut.ensures))

pub returns-in-Bad-clause-licence : goal.returns-in-Bad-clause-licence
returns-in-Bad-clause-licence g c = subst (λ (plan : PlannedFault). AnswerLicence (line_of_plan plan) Armed c.args.memory.now.chart c.arm_bad.new.self.chart) (sym c.in-Bad.is) (Licence-planned _ _ _ (ap (λ (p : Picture). p.chart) c.arm_bad.ensures))

-- What answering a line does, power being on at entry.
use Rattle.std.specs.Prelude.{◌≡◌, Some}
use Rattle.envy_array.specs.Array.{Array}
use Rattle.envy_base.specs.declared.faults.PlannedFault.{PlannedFault}
use Rattle.envy_base.specs.declared.faults.PlannedFault.TheVariants.{Cut as PlanCut, Bad as PlanBad}
use Rattle.envy_array.specs.declared.counts.Counts.{Counts}
use Rattle.envy_array.specs.Step.{Command}
use Rattle.envy_map.specs.Fields.{Chart}
use Rattle.envy_meaning.specs.Stands.{Stands, IsLost as LostIn}
use Rattle.envy_trace.specs.declared.line.Line.{Line}
use Rattle.envy_trace.specs.declared.line.Line.TheVariants.{Empty, Power, Cut, Bad}
use Rattle.envy_trace.specs.declared.reply.Reply.{Reply}
use Rattle.envy_trace.specs.declared.reply.Reply.TheVariants.{Lost}
use Rattle.envy_run.specs.Licence.{Licence}
use Rattle.envy_run.specs.declared.answers.BoardRequest.{BoardRequest}
use Rattle.envy_run.specs.declared.answers.BoardRequest.TheVariants.{Nothing, Power as OfPower, PlannedFault as OfPlan}
use Rattle.envy_serve.specs.Answering.{losable}
use Rattle.envy_run.specs.Turns.{Replies, plan_of, is_fault, is_lost}
use Rattle.envy_serve.specs.Turns.{one_if}

-- the line that plans this
abbrev pub line_of_plan : PlannedFault → Line
line_of_plan (PlanCut k g) = Cut k g
line_of_plan (PlanBad k g) = Bad k g

-- the line that asks for this, which is no call of a memory over any board
abbrev pub line_beside : BoardRequest → Line
line_beside Nothing = Empty
line_beside OfPower = Power
line_beside (OfPlan plan) = line_of_plan plan

-- power failed in the line
pub record LosesIn (m : Array) (line : Line) (new : Chart) : Type 0 where
  pub command : Command
  pub is : losable line ≡ Some command
  pub lost : LostIn m command new

abbrev pub AnswersTo : (Counts → Type 0) → Array → Line → Reply → Chart → Type 0
AnswersTo May m line Lost new = LosesIn m line new
AnswersTo May m line reply new = (n : Array) × Replies May m line reply n × Stands new n

-- the same of a line that isn't one of counters
abbrev pub Answered : Array → Line → Reply → Chart → Type 0
Answered m line reply new = AnswersTo (λ counts. ⊥) m line reply new

abbrev pub AnswerLicence : Line → Reply → Chart → Chart → Type 0
AnswerLicence line reply old new = Licence 0 (plan_of line) (one_if (is_lost reply)) (one_if (is_fault reply)) old new

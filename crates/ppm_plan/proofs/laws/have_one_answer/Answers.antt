use Rattle.ppm_plan.specs.Forms.{plan_form, schedule_form}
use Rattle.ppm_plan.specs.Strands.{strand_form}
use Rattle.ppm_plan.proofs.AnswerLemmas.{has_one_answer}
use Rattle.ppm_plan.proofs.laws.have_one_answer.Goals as goal

-- it holds of every form
pub returns : goal.returns
returns c = record { law = record { plans = has_one_answer plan_form; schedules = has_one_answer schedule_form; strands = has_one_answer strand_form } }

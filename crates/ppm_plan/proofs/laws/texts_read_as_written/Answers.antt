use Rattle.ppm_plan.specs.Forms.{plan_form, schedule_form}
use Rattle.ppm_plan.specs.Items.{WritesScheduleItem}
use Rattle.ppm_plan.specs.Spellings.{WritesPlanItem}
use Rattle.ppm_plan.specs.Strands.{strand_form, WritesStrandItem}
use Rattle.ppm_plan.proofs.TextLemmas.{reads_all}
use Rattle.ppm_plan.proofs.SaidLemmas as said
use Rattle.ppm_plan.proofs.laws.texts_read_as_written.Goals as goal

-- item by item
pub returns : goal.returns
returns c = record {
  law = record {
    plans = reads_all plan_form WritesPlanItem said.plans;
    schedules = reads_all schedule_form WritesScheduleItem said.schedules;
    strands = reads_all strand_form WritesStrandItem said.strands;
  };
}

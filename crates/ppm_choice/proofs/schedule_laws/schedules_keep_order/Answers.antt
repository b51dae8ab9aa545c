use Rattle.ppm_choice.proofs.LoadLemmas.{keeps_order}
use Rattle.ppm_choice.proofs.LeavingLemmas.{leaves_out_no_more}
use Rattle.ppm_choice.proofs.schedule_laws.schedules_keep_order.Goals as goal

pub returns : goal.returns
returns c = record {
  order = λ s code. keeps_order s code s.within.processors_most;
  no_more = λ s code. leaves_out_no_more s code s.within.processors_most;
}

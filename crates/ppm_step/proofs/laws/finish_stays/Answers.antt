use Rattle.ppm_step.proofs.FinishLemmas.{finish_stays, finish_is_proposed}
use Rattle.ppm_step.proofs.QuitLemmas.{finish_has_cause, quit_told}
use Rattle.ppm_step.proofs.laws.finish_stays.Goals as goal

pub returns : goal.returns
returns c = record { stays = finish_stays; proposed = finish_is_proposed; cause = finish_has_cause; told = quit_told }

use Rattle.ppm_kept.proofs.FateLemmas.{fates_stay, fates_show, none_is_left}
use Rattle.ppm_kept.proofs.laws.fates_agree.Goals as goal

pub returns : goal.returns
returns c = record { stay = fates_stay; show = fates_show; ends = none_is_left }

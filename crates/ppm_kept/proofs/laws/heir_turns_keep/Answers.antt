use Rattle.ppm_kept.proofs.HeirTurns.{heir_turns_keep, heir_turns_bear}
use Rattle.ppm_kept.proofs.UnrunUntaken.{unruns_are_untaken, handed_same}
use Rattle.ppm_kept.proofs.laws.heir_turns_keep.Goals as goal

pub returns : goal.returns
returns c = record { law = heir_turns_keep; births = heir_turns_bear; untaken = unruns_are_untaken; unruns = handed_same }

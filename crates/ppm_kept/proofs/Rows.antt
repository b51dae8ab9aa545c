-- The rows Run and Bump, whatever the other places are doing.
use Rattle.std.proofs.Common.{subst}
use Rattle.ppm_kept.specs.Branches.{HasCopy}
use Rattle.ppm_kept.specs.Laws.{RunRowKeeps, BumpRowKeeps}
use Rattle.ppm_kept.proofs.BumpRow.{bump_keeps}
use Rattle.ppm_kept.proofs.OtherLemmas.{others_keep}
use Rattle.ppm_kept.proofs.RunRow.{run_keeps}

pub run_row_keeps : RunRowKeeps
run_row_keeps i fair root input s t law p there f y ke = run_keeps i fair root input s t law p there (others_keep i fair root input s t law p) f y (subst HasCopy ke (law.copies p)) ke

pub bump_row_keeps : BumpRowKeeps
bump_row_keeps i fair root input s t law p there r ke = bump_keeps i fair root input s t law p there (others_keep i fair root input s t law p) r ke

use Rattle.ppm_saved.specs.Renewal.{AreRenewedBelow}
use Rattle.ppm_saved.proofs.renewal.renew_words.Given as goal

-- the places so far
abbrev pub invariant-loop-place : goal.invariant-loop-place
invariant-loop-place l = AreRenewedBelow l.shape l.fn.words.items l.place l.words.items

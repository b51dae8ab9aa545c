use Rattle.std.proofs.Common.{◌≡◌}
use Rattle.ppm_interleaving.specs.Owns.{slots_from}
use Rattle.ppm_interleaving.proofs.own.words_from.Given as goal

-- the words so far
abbrev pub invariant-loop-at : goal.invariant-loop-at
invariant-loop-at l = l.found.items ≡ slots_from l.words l.place l.at

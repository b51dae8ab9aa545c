use Rattle.std.proofs.Common.{length, ◌-◌, ◌<◌, ℕ}
use Rattle.ppm_war.specs.Stores.{IsTidyAt}
use Rattle.ppm_war.proofs.untidy_store.first_untidy.Given as goal

-- each instruction so far is no store into the new block, or a tidy one
abbrev pub invariant-loop-at : goal.invariant-loop-at
invariant-loop-at l = (at : ℕ) → at < l.at → IsTidyAt l.code l.instrs at

abbrev pub decreases-loop-at : goal.decreases-loop-at
decreases-loop-at l = length l.instrs - l.at

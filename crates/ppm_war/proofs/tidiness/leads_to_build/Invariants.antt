use Rattle.std.proofs.Common.{length, ◌-◌, ◌<◌, ℕ}
use Rattle.ppm_war.proofs.TidyLemmas.{FollowsAt}
use Rattle.ppm_war.proofs.tidiness.leads_to_build.Given as goal

-- each instruction so far that a path comes to may follow the store
abbrev pub invariant-loop-at : goal.invariant-loop-at
invariant-loop-at l = (at : ℕ) → at < l.at → FollowsAt l.code l.instrs l.from l.word at

abbrev pub decreases-loop-at : goal.decreases-loop-at
decreases-loop-at l = length l.instrs - l.at

use Rattle.std.proofs.Common.{◌≡◌, ◌-◌, ◌≤◌}
use Rattle.ppm_following.specs.Room.{most_given}
use Rattle.ppm_trace.proofs.room.most_given.Given as goal

-- the most of the places so far
abbrev pub invariant-loop-place : goal.invariant-loop-place
invariant-loop-place l = (l.most ≡ most_given l.shape l.words l.place) × (l.place ≤ l.shape.processors)

abbrev pub decreases-loop-place : goal.decreases-loop-place
decreases-loop-place l = l.shape.processors - l.place

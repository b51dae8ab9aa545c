use Rattle.std.proofs.Common.{◌≡◌, ◌≤◌, ◌+◌, length}
use Rattle.ppm_saved_reader.specs.Rules.{line_feeds}
use Rattle.ppm_saved_reader.proofs.heading.line_feeds.Given as goal

-- those so far and those that are left, and no more than bytes
abbrev pub invariant-loop-left : goal.invariant-loop-left
invariant-loop-left l = (l.count + line_feeds l.left ≡ line_feeds l.bytes) × (l.count + length l.left ≤ length l.bytes)

abbrev pub decreases-loop-left : goal.decreases-loop-left
decreases-loop-left l = length l.left

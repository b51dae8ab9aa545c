use Rattle.std.proofs.Common.{◌≡◌, ◌≤◌, ◌+◌, length}
use Rattle.ppm_saved_reader.specs.Rules.{line_feeds}
use Rattle.ppm_notes.proofs.saved_rows.line_feeds.Given as goal

-- those so far and those that are left, and no more than bytes
abbrev pub invariant-bytes : goal.invariant-bytes
invariant-bytes l = (l.count + line_feeds l.left ≡ line_feeds l.fn.bytes) × (l.count + length l.left ≤ length l.fn.bytes)

abbrev pub decreases-bytes : goal.decreases-bytes
decreases-bytes l = length l.left

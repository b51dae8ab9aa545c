use Rattle.std.proofs.Common.{◌≡◌, ℕ, ◌+◌, ◌-◌, get_or, length}
use Rattle.ppm_interleaving.proofs.own.put_at.Given as goal

-- words that are not there are 0, and zeros come to them
abbrev pub invariant-loop-words : goal.invariant-loop-words
invariant-loop-words l = (at : ℕ) → get_or l.words.items at 0 ≡ get_or l.fn.words.items at 0

abbrev pub decreases-loop-words : goal.decreases-loop-words
decreases-loop-words l = l.place + 1 - length l.words.items

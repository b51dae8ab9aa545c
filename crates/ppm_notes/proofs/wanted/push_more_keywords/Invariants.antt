use Rattle.std.proofs.Common.{◌≡◌, ◌++◌, length}
use Rattle.ppm_notes.specs.Words.{more_keywords}
use Rattle.ppm_notes.proofs.wanted.push_more_keywords.Given as goal

-- what is written, and what is left
abbrev pub invariant-keywords : goal.invariant-keywords
invariant-keywords l = l.text.items ++ more_keywords l.left ≡ l.fn.text.items ++ more_keywords l.fn.keywords

abbrev pub decreases-keywords : goal.decreases-keywords
decreases-keywords l = length l.left

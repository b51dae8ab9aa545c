use Rattle.std.proofs.Common.{◌≡◌, ◌++◌, length}
use Rattle.ppm_notes.specs.Listings.{sorts_text}
use Rattle.ppm_notes.proofs.form.push_sorts.Given as goal

-- what is written, and what is left
abbrev pub invariant-sorts : goal.invariant-sorts
invariant-sorts l = l.text.items ++ sorts_text l.left ≡ l.fn.text.items ++ sorts_text l.fn.sorts

abbrev pub decreases-sorts : goal.decreases-sorts
decreases-sorts l = length l.left

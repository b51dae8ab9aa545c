use Rattle.std.proofs.Common.{◌≡◌, ◌++◌, length}
use Rattle.ppm_racy_listing.specs.Plain.{plain_of_text, olds_of}
use Rattle.ppm_racy_listing.proofs.plain.plain_text.Given as goal

-- the text so far, and that of the lines that are left
abbrev pub invariant-loop-line : goal.invariant-loop-line
invariant-loop-line l = (l.plain.items ++ plain_of_text l.left ≡ plain_of_text l.text) × (l.olds.items ++ olds_of l.left ≡ olds_of l.text)

abbrev pub decreases-loop-line : goal.decreases-loop-line
decreases-loop-line l = length l.left

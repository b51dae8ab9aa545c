use Rattle.std.proofs.Common.{◌≡◌, length}
use Rattle.ppm_listing_reader.specs.Forms.{are_of}
use Rattle.ppm_listing_reader.proofs.form.are_of.Given as goal

-- the answer is that for those that are left
abbrev pub invariant-loop-sorts : goal.invariant-loop-sorts
invariant-loop-sorts l = are_of l.sorts l.tokens ≡ are_of l.initial.sorts l.initial.tokens

abbrev pub decreases-loop-sorts : goal.decreases-loop-sorts
decreases-loop-sorts l = length l.sorts

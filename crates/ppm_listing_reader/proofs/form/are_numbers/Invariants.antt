use Rattle.std.proofs.Common.{◌≡◌, length}
use Rattle.std.specs.List.{list_all}
use Rattle.ppm_listing_reader.specs.Forms.{is_number}
use Rattle.ppm_listing_reader.proofs.form.are_numbers.Given as goal

-- the answer is that for those that are left
abbrev pub invariant-loop-left : goal.invariant-loop-left
invariant-loop-left l = list_all is_number l.left ≡ list_all is_number l.tokens

abbrev pub decreases-loop-left : goal.decreases-loop-left
decreases-loop-left l = length l.left

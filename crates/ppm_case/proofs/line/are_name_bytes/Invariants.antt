use Rattle.std.proofs.Common.{◌≡◌, length}
use Rattle.std.specs.List.{list_all}
use Rattle.ppm_words.specs.Names.{is_name_byte}
use Rattle.ppm_case.proofs.line.are_name_bytes.Given as goal

-- the answer is that for those that are left
abbrev pub invariant-loop-left : goal.invariant-loop-left
invariant-loop-left l = list_all is_name_byte l.left ≡ list_all is_name_byte l.bytes

abbrev pub decreases-loop-left : goal.decreases-loop-left
decreases-loop-left l = length l.left

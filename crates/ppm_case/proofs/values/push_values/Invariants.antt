use Rattle.std.proofs.Common.{◌≡◌, ◌++◌, length}
use Rattle.ppm_pieces.specs.Pieces.{split}
use Rattle.ppm_case.specs.Spelling.{values_in}
use Rattle.ppm_case.specs.Judged.{HasRoom}
use Rattle.ppm_case.proofs.values.push_values.Given as goal

-- the values so far and those of the words that are left, for which there is room
abbrev pub invariant-loop-word : goal.invariant-loop-word
invariant-loop-word l =
    (l.values.items ++ values_in (split 32 l.left) ≡ l.fn.values.items ++ values_in (split 32 l.words)) × HasRoom (split 32 l.left)

abbrev pub decreases-loop-word : goal.decreases-loop-word
decreases-loop-word l = length l.left

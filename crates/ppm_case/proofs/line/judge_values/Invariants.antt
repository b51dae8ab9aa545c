use Rattle.std.proofs.Common.{◌≡◌, length}
use Rattle.ppm_pieces.specs.Pieces.{split}
use Rattle.ppm_case.specs.Judged.{judged}
use Rattle.ppm_case.proofs.line.judge_values.Given as goal

-- the answer is that for the words that are left, in the room that is left
abbrev pub invariant-loop-word : goal.invariant-loop-word
invariant-loop-word l = judged l.room_left (split 32 l.left) ≡ judged l.fn.room (split 32 l.words)

abbrev pub decreases-loop-word : goal.decreases-loop-word
decreases-loop-word l = length l.left

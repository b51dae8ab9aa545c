use Rattle.std.proofs.Common.{◌≡◌}
use Rattle.ppm_pieces.specs.Pieces.{split}
use Rattle.ppm_ram.specs.Numbers.{values_in}
use Rattle.ppm_ram.specs.Said.{bytes_left, followed_by, numbers_if, words_left}
use Rattle.ppm_ram.proofs.values.read_values.Given as goal

-- all words say the numbers so far and those of the words that are left
abbrev pub invariant-loop-more : goal.invariant-loop-more
invariant-loop-more l = followed_by (numbers_if l.fit l.values.items) (values_in (words_left l.more l.left)) ≡ values_in (split 32 l.words)

abbrev pub decreases-loop-more : goal.decreases-loop-more
decreases-loop-more l = bytes_left l.more l.left

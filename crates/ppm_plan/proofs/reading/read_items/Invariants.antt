use Rattle.std.proofs.Common.{◌≡◌, ◌++◌, map, length, Some}
use Rattle.ppm_pieces.specs.Pieces.{split}
use Rattle.ppm_plan.specs.Refusals.{readings}
use Rattle.ppm_plan.proofs.reading.read_items.Given as goal

-- the items so far, and what the pieces that are left read as
abbrev pub invariant-loop-piece : goal.invariant-loop-piece
invariant-loop-piece g l = readings g.T.Item.form l.text ≡ map Some l.items.items ++ map g.T.Item.form.reading (split 44 l.left)

abbrev pub decreases-loop-piece : goal.decreases-loop-piece
decreases-loop-piece g l = length l.left

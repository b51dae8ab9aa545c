use Rattle.std.proofs.Common.{◌≡◌, ◌+◌, ◌≤◌, ◌++◌, length}
use Rattle.ppm_picture.specs.Layers.{ends_from}
use Rattle.ppm_picture.proofs.layer.push_ends.Given as goal

-- the acts that are left come after those that are drawn
abbrev pub invariant-loop-left : goal.invariant-loop-left
invariant-loop-left l = (l.fn.text.items ++ ends_from l.canvas 0 l.strokes ≡ l.text.items ++ ends_from l.canvas l.act l.left) × (l.act + length l.left ≤ l.canvas.acts)

abbrev pub decreases-loop-left : goal.decreases-loop-left
decreases-loop-left l = length l.left

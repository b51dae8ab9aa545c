use Rattle.std.proofs.Common.{◌≡◌, ◌++◌, length}
use Rattle.std.specs.List.{flat_map}
use Rattle.ppm_picture.specs.Layers.{layer_text}
use Rattle.ppm_picture.proofs.layer.push_each.Given as goal

-- the layers that are left come after those that are written
abbrev pub invariant-loop-left : goal.invariant-loop-left
invariant-loop-left l = l.fn.text.items ++ flat_map (layer_text l.canvas l.strokes) l.layers ≡ l.text.items ++ flat_map (layer_text l.canvas l.strokes) l.left

abbrev pub decreases-loop-left : goal.decreases-loop-left
decreases-loop-left l = length l.left

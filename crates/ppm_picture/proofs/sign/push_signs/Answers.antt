use Rattle.std.proofs.Common.{refl}
use Rattle.std.specs.List.{flat_map}
use Rattle.ppm_picture.specs.Arrows.{mark_sign, signs_from}
use Rattle.ppm_picture.specs.Canvas.{lane, middle}
use Rattle.ppm_picture.proofs.WalkLemmas.{fewer, walk_more}
use Rattle.ppm_picture.proofs.sign.push_signs.Goals as goal

-- one act more
pub loop-left-preserved : goal.loop-left-preserved
loop-left-preserved c =
    let canvas = c.args.canvas in (
      walk_more (λ act drawn. flat_map (mark_sign canvas.acts (middle canvas act) (lane drawn.processor)) drawn.marks) (signs_from canvas)
          (λ act drawn more. refl) c.loop-left.text.items c.loop-left.act c.loop-left.left.now c.stroke-item.result
          c.in-len1-up.len_at_least c.stroke-item.is
          c.loop-left.invariant.0 c.in_ok-push_signs_at.ensures,
      fewer c.loop-left.act canvas.acts c.loop-left.left.now c.in-len1-up.len_at_least c.loop-left.invariant.1,
    )

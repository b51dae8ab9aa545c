use Rattle.std.proofs.Common.{refl}
use Rattle.std.specs.List.{flat_map}
use Rattle.ppm_picture.specs.Arrows.{arrows_from, mark_arrow}
use Rattle.ppm_picture.specs.Canvas.{middle}
use Rattle.ppm_picture.proofs.WalkLemmas.{fewer, walk_more}
use Rattle.ppm_picture.proofs.arrow.push_arrows.Goals as goal

-- one act more
pub loop-left-preserved : goal.loop-left-preserved
loop-left-preserved c =
    let canvas = c.args.canvas in (
      walk_more (λ act drawn. flat_map (mark_arrow (middle canvas act) drawn.source drawn.processor) drawn.marks) (arrows_from canvas)
          (λ act drawn more. refl) c.loop-left.text.items c.loop-left.act c.loop-left.left.now c.stroke-item.result
          c.in-len1-up.len_at_least c.stroke-item.is
          c.loop-left.invariant.0 c.in_ok-push_arrows_to.ensures,
      fewer c.loop-left.act canvas.acts c.loop-left.left.now c.in-len1-up.len_at_least c.loop-left.invariant.1,
    )

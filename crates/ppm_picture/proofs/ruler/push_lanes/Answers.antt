use Rattle.ppm_lines.proofs.TextLemmas.{next}
use Rattle.ppm_picture.specs.Ruler.{lane_text}
use Rattle.ppm_picture.proofs.ruler.push_lanes.Goals as goal

-- a lane more
pub loop-processor-preserved : goal.loop-processor-preserved
loop-processor-preserved c =
    next lane_text c.args.text.now.items c.loop-processor.text.items c.push_lane.new.text.items c.loop-processor.processor c.loop-processor.invariant
    c.in_ok-push_lane.ensures

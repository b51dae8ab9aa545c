use Rattle.ppm_core.specs.Machine.{seen}
use Rattle.ppm_lines.proofs.TextLemmas.{next}
use Rattle.ppm_trace.specs.Picture.{dead_lane}
use Rattle.ppm_trace.proofs.strokes.push_dead_all.Goals as goal

-- a lane more
pub loop-processor-preserved : goal.loop-processor-preserved
loop-processor-preserved c =
    next (dead_lane (seen c.args.machine.now)) c.args.text.now.items c.loop-processor.text.items c.push_dead_lane.new.text.items
    c.loop-processor.processor c.loop-processor.invariant c.in_ok-push_dead_lane.ensures

use Rattle.ppm_core.specs.Machine.{seen}
use Rattle.ppm_lines.proofs.TextLemmas.{next}
use Rattle.ppm_trace.specs.Json.{begun_of}
use Rattle.ppm_trace.proofs.events.push_begun_all.Goals as goal

-- a processor more
pub loop-processor-preserved : goal.loop-processor-preserved
loop-processor-preserved c =
    next (begun_of c.args.names.now (seen c.args.machine.now)) c.args.text.now.items c.loop-processor.text.items c.push_begun_of.new.text.items
    c.loop-processor.processor c.loop-processor.invariant c.in_ok-push_begun_of.ensures

use Rattle.ppm_lines.specs.Events.{thread_text}
use Rattle.ppm_lines.proofs.TextLemmas.{next}
use Rattle.ppm_lines.proofs.json.push_threads.Goals as goal

-- a thread more
pub loop-processor-preserved : goal.loop-processor-preserved
loop-processor-preserved c =
    next thread_text c.args.text.now.items c.loop-processor.text.items c.push_thread.new.text.items c.loop-processor.processor c.loop-processor.invariant
    c.in_ok-push_thread.ensures

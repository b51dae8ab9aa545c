use Rattle.std.proofs.Common.{◌+◌}
use Rattle.std.specs.List.{range_with_len}
use Rattle.ppm_layout.proofs.RangeLemmas.{range_more, pushed}
use Rattle.ppm_layout.proofs.sequence.push_carries.Goals as goal

-- the next processor carries the next place
pub loop-processor-preserved : goal.loop-processor-preserved
loop-processor-preserved c =
    let n = c.loop-processor.processor in
    pushed c.args.words.now.items (range_with_len 0 n) (range_with_len 0 (n + 1)) c.loop-processor.words.items c.push.new.self.items
    c.from.result n c.in_ok-push.ensures.items c.loop-processor.invariant c.from.ensures (range_more n)

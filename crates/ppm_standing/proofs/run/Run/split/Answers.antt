use Rattle.std.proofs.Common.{ap, sym}
use Rattle.ppm_tree.specs.Tree.{block_of, expression_of}
use Rattle.ppm_tree.specs.State.{evaluate, split_at, then_with}
use Rattle.ppm_tree.specs.Meaning.{with_parts}
use Rattle.ppm_by_name.specs.Frames.{frame_of, region_of}
use Rattle.ppm_standing.specs.Shown.{run_of}
use Rattle.ppm_standing.proofs.RunLemmas.{split_done}
use Rattle.ppm_by_name.proofs.FrameLemmas.{parted}
use Rattle.ppm_standing.proofs.run.Run.split.Goals as goal

pub returns-in_ok-lend-in-Ok-2 : goal.returns-in_ok-lend-in-Ok-2
returns-in_ok-lend-in-Ok-2 c =
    let s = c.args.split in
    let f = c.args.self.now.frame in
    split_done c.inside.result (run_of c.inside.new.self) (run_of c.args.self.now)
    (then_with (evaluate (frame_of f) c.args.self.now.store (expression_of s.at.now)) (split_at s.line (region_of f.regions s.region.now.name))) c.in-Ok.count
    (block_of s.block.now) (block_of c.args.rest.now) (frame_of c.in_ok-saved-in-Ok.saved) (frame_of c.lend-in-Ok.new.self)
    (λ n. with_parts (frame_of f) (region_of f.regions s.region.now.name) n s.first.now s.second.now) (sym c.in-Ok.ensures.value)
    (ap frame_of c.in_ok-saved-in-Ok.ensures)
    (ap frame_of (parted f c.lend.new.self c.lend-in-Ok.new.self s.first.now.name s.second.now.name (region_of f.regions s.region.now.name) c.region-region.result
    c.first.result c.second.result c.in-Ok.count c.region-region.ensures c.first.ensures c.second.ensures c.in_ok-lend-in-Ok.ensures c.in_ok-lend-in-Ok-2.ensures))
    c.inside.ensures

use Rattle.std.proofs.Common.{false, replicate}
use Rattle.std.specs.List.{flat_map, range_with_len}
use Rattle.ppm_cells.specs.Cells.{word_count}
use Rattle.ppm_show.specs.Paths.{AreMoreMarked, IsClosed}
use Rattle.ppm_show.specs.Routes.{begun_at, leads_to, route}
use Rattle.ppm_show.proofs.marks.route_marks.Given as goal

-- the routes so far are marked, each whole
abbrev pub invariant-loop-at : goal.invariant-loop-at
invariant-loop-at l =
    AreMoreMarked (flat_map (λ at. route l.scene (begun_at l.scene at)) (range_with_len 0 l.at)) (replicate (word_count l.scene.shape) false) l.marks.items
    × IsClosed (leads_to l.scene) l.marks.items

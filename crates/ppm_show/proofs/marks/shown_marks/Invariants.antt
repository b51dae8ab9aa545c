use Rattle.std.specs.List.{flat_map, range_with_len}
use Rattle.ppm_show.specs.Paths.{AreMoreMarked}
use Rattle.ppm_show.specs.Routes.{branches, on_routes}
use Rattle.ppm_show.proofs.ListLemmas.{list_if}
use Rattle.ppm_show.proofs.marks.shown_marks.Given as goal

-- the branches so far are marked, of what lies on a route
abbrev pub invariant-loop-at : goal.invariant-loop-at
invariant-loop-at l = AreMoreMarked (flat_map (list_if (on_routes l.scene) (branches l.scene)) (range_with_len 0 l.at)) l.on_route.items l.marks.items

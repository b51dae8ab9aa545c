use Rattle.std.proofs.Common.{◌≡◌, ◌∙◌, ℕ, Option, Bool, false, List, [], sym, ap, subst, arith, replicate}
use Rattle.std.proofs.lemmas.List.{length-replicate}
use Rattle.std.specs.List.{flat_map, range_with_len}
use Rattle.ppm_cells.specs.Cells.{word_count}
use Rattle.ppm_show.specs.Paths.{AreMoreMarked, IsClosed}
use Rattle.ppm_show.specs.Routes.{begun_at, leads_to, route}
use Rattle.ppm_show.proofs.ListLemmas.{range_marked}
use Rattle.ppm_show.proofs.MarkLemmas.{no_more}
use Rattle.ppm_show.proofs.RouteLemmas.{none_closed}
use Rattle.ppm_show.proofs.marks.route_marks.Goals as goal

-- no route is marked yet
pub loop-at-init : goal.loop-at-init
loop-at-init c =
    let count = word_count c.args.scene.now.shape in
    let next = leads_to c.args.scene.now in
    let made : c.in_ok-marks.marks.items ≡ replicate count false =
    c.in_ok-marks.ensures.items_if_clones_equal (λ y e. cc) ∙ ap (λ n. replicate n false) c.word_count-count.ensures.value in (
      subst (λ (ms : List Bool). AreMoreMarked [] (replicate count false) ms) (sym made) (no_more (replicate count false)),
      subst (λ (ms : List Bool). IsClosed next ms) (sym made) (none_closed next count),
    )

-- there are as many marks as words
pub mark_route-requires-clause-count : goal.mark_route-requires-clause-count
mark_route-requires-clause-count c = c.loop-at.invariant.0.count ∙ length-replicate (word_count c.args.scene.now.shape) false

-- a route more
pub loop-at-preserved : goal.loop-at-preserved
loop-at-preserved c =
    let s = c.args.scene.now in
    let marks = c.loop-at.marks.items in
    let now = c.mark_route.new.marks.items in (
      range_marked (λ at. route s (begun_at s at)) c.loop-at.at (replicate (word_count s.shape) false) marks now c.loop-at.invariant.0
          (subst (λ (from : Option ℕ). AreMoreMarked (route s from) marks now) c.begun_at.ensures c.mark_route.ensures.marked),
      c.mark_route.ensures.closed,
    )

-- all are marked
pub returns : goal.returns
returns c =
    let s = c.args.scene.now in
    let ended : c.loop-at.at ≡ c.word_count-count.result = omega (arith, c.loop-at-test.false, c.loop-at.auto.at-end) in
    subst (λ n. AreMoreMarked (flat_map (λ at. route s (begun_at s at)) (range_with_len 0 n)) (replicate (word_count s.shape) false) c.loop-at.marks.items)
    (ended ∙ c.word_count-count.ensures.value) c.loop-at.invariant.0

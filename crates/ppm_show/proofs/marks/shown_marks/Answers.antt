use Rattle.std.proofs.Common.{◌≡◌, ◌∙◌, ◌<◌, ◌+◌, List, Bool, Vec, Global, false, [], length, sym, subst, arith}
use Rattle.std.specs.List.{flat_map, range_with_len}
use Rattle.std.proofs.lemmas.List.{length-replicate}
use Rattle.std.proofs.lemmas.Option.{get_or_from_slice_get}
use Rattle.ppm_cells.specs.Cells.{word_count}
use Rattle.ppm_show.specs.Paths.{AreMoreMarked, is_in}
use Rattle.ppm_show.specs.Routes.{branches, on_routes}
use Rattle.ppm_show.proofs.ListLemmas.{list_if, range_marked, if_marked, if_unmarked, all_are, mark_at}
use Rattle.ppm_show.proofs.MarkLemmas.{no_more}
use Rattle.ppm_show.proofs.RouteLemmas.{no_branches}
use Rattle.ppm_show.proofs.marks.shown_marks.Goals.{then-index, else-index}
use Rattle.ppm_show.proofs.marks.shown_marks.Goals as goal

-- no branch is marked yet
pub loop-at-init : goal.loop-at-init
loop-at-init c =
    subst (λ (ms : List Bool). AreMoreMarked [] c.in_ok-on_route.on_route.items ms) (sym (c.in_ok-marks.ensures.items ∙ c.deref.ensures.value))
    (no_more c.in_ok-on_route.on_route.items)

-- each word has a mark
pub index-requires : goal.index-requires
index-requires c =
    let long : length c.in_ok-on_route.on_route.items ≡ c.word_count-at-end.result =
    c.in_ok-on_route.ensures.count ∙ length-replicate (word_count c.args.scene.now.shape) false ∙ sym c.word_count-at-end.ensures.value in
    omega (arith, c.loop-at-test.true, long, c.in_ok-on_route.on_route.ok.0)

-- the branches of one more, if it is on a route
pub loop-at-preserved : goal.loop-at-preserved
loop-at-preserved c =
    let s = c.args.scene.now in
    let xs = on_routes s in
    let at = c.loop-at.at in
    let on = c.in_ok-on_route.on_route.items in
    let now = c.loop-at.marks.items in
    let below : at < word_count s.shape = subst (λ n. at < n) c.word_count-at-end.ensures.value c.loop-at-test.true in
    let is : c.index.result.now ≡ is_in xs at =
    c.index.ensures ∙ get_or_from_slice_get on at (is_in xs at) c.index.result.now (mark_at xs (word_count s.shape) on c.in_ok-on_route.ensures at below) in
    elim c.if-index.branch [
      | then-index w ↦ subst (λ (v : Vec Bool Global). AreMoreMarked (flat_map (list_if xs (branches s)) (range_with_len 0 (at + 1))) on v.items) (sym w.marks-is)
          (range_marked (list_if xs (branches s)) at on now w.mark_branches.new.marks.items c.loop-at.invariant
          (if_marked xs (branches s) at now w.mark_branches.new.marks.items (sym is ∙ w.if-index.true) w.mark_branches.ensures))
      | else-index w ↦ subst (λ (v : Vec Bool Global). AreMoreMarked (flat_map (list_if xs (branches s)) (range_with_len 0 (at + 1))) on v.items) (sym w.marks-is)
          (range_marked (list_if xs (branches s)) at on now now c.loop-at.invariant (if_unmarked xs (branches s) at now (sym is ∙ w.if-index.false)))
    ]

-- all are marked
pub returns : goal.returns
returns c =
    let s = c.args.scene.now in
    let on = c.in_ok-on_route.on_route.items in
    let ended : c.loop-at.at ≡ c.word_count-at-end.result = omega (arith, c.loop-at-test.false, c.loop-at.auto.at-end) in
    let whole = subst (λ n. AreMoreMarked (flat_map (list_if (on_routes s) (branches s)) (range_with_len 0 n)) on c.loop-at.marks.items)
    (ended ∙ c.word_count-at-end.ensures.value) c.loop-at.invariant in
    all_are (branches s) (on_routes s) (word_count s.shape) on c.loop-at.marks.items (λ at past. no_branches s c.word_count-at-end.ensures.words at past)
    c.in_ok-on_route.ensures whole

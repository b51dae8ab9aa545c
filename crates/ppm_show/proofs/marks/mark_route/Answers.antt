use Rattle.std.proofs.Common.{◌≡◌, ◌∙◌, ◌≤◌, ◌+◌, ℕ, [], ◌∷◌, Option, Some, None, length, sym, ap, subst, arith}
use Rattle.ppm_cells.specs.Cells.{word_count}
use Rattle.ppm_show.specs.Paths.{AreMoreMarked, to_mark as still_to_mark}
use Rattle.ppm_show.specs.Routes.{leads_to}
use Rattle.ppm_show.proofs.PathLemmas.{IsMarkedTo, IsMarkedWhole, path_begins, path_goes_on, path_is_over, path_is_all}
use Rattle.ppm_show.proofs.RouteLemmas.{ends_past, to_mark_is, to_mark_none}
use Rattle.ppm_show.proofs.marks.mark_route.Goals as goal

-- nothing is marked yet
pub loop-step-init : goal.loop-step-init
loop-step-init c = path_begins (leads_to c.args.scene.now) c.args.from c.args.marks.now.items c.requires.closed

-- a mark more
pub loop-step-preserved : goal.loop-step-preserved
loop-step-preserved c =
    let next = leads_to c.args.scene.now in
    let old = c.args.marks.now.items in
    let marks = c.loop-step.marks.items in
    let asked : Some c.in-Some.at ≡ still_to_mark marks c.loop-step.next =
    c.in-Some.ensures ∙ ap (λ m. still_to_mark m c.loop-step.next) c.deref.ensures.value in
    let here = to_mark_is marks c.loop-step.next c.in-Some.at (sym asked) in
    let before = subst (λ (o : Option ℕ). IsMarkedTo next c.args.from old marks o c.loop-step.step) here.0 c.loop-step.invariant in
    subst (λ (o : Option ℕ). IsMarkedTo next c.args.from old c.mark.new.marks.items o (c.loop-step.step + 1)) (sym c.leads_to-next.ensures)
    (path_goes_on next c.args.from old marks c.mark.new.marks.items c.in-Some.at c.loop-step.step before here.1
    (subst (λ n. AreMoreMarked (n ∷ []) marks c.mark.new.marks.items) c.from.ensures c.mark.ensures))

-- the route has come to its end, or to what was marked before
over : (c : goal.In_default) → IsMarkedWhole (leads_to c.args.scene.now) (word_count c.args.scene.now.shape) c.args.from c.args.marks.now.items c.loop-step.marks.items
over c =
    let count = word_count c.args.scene.now.shape in
    let marks = c.loop-step.marks.items in
    let long : length marks ≡ count = c.loop-step.invariant.so_far.count ∙ c.requires.count in
    let within : c.loop-step.step ≤ count = subst (λ n. c.loop-step.step ≤ n) c.word_count-step-end.ensures.value c.loop-step.auto.step-end in
    let none : still_to_mark marks c.loop-step.next ≡ None =
    sym (c.to_mark.ensures ∙ ap (λ m. still_to_mark m c.loop-step.next) c.deref.ensures.value) ∙ c.in_default.is in
    path_is_over (leads_to c.args.scene.now) count c.args.from c.args.marks.now.items marks c.loop-step.next c.loop-step.step c.loop-step.invariant
    (ends_past c.args.scene.now c.word_count-step-end.ensures.words marks long) within (to_mark_none marks c.loop-step.next none)

pub returns-in_default-clause-closed : goal.returns-in_default-clause-closed
returns-in_default-clause-closed c = (over c).closed

pub returns-in_default-clause-marked : goal.returns-in_default-clause-marked
returns-in_default-clause-marked c = (over c).marked

-- it has made as many steps as there are marks
all : (c : goal.After-loop-step) → IsMarkedWhole (leads_to c.args.scene.now) (word_count c.args.scene.now.shape) c.args.from c.args.marks.now.items c.loop-step.marks.items
all c =
    let next = leads_to c.args.scene.now in
    let count = word_count c.args.scene.now.shape in
    let marks = c.loop-step.marks.items in
    let long : length marks ≡ count = c.loop-step.invariant.so_far.count ∙ c.requires.count in
    let ended : c.loop-step.step ≡ c.word_count-step-end.result = omega (arith, c.loop-step-test.false, c.loop-step.auto.step-end) in
    let last : c.loop-step.step ≡ count = ended ∙ c.word_count-step-end.ensures.value in
    path_is_all next count c.args.from c.args.marks.now.items marks c.loop-step.next
    (subst (λ n. IsMarkedTo next c.args.from c.args.marks.now.items marks c.loop-step.next n) last c.loop-step.invariant) long

pub returns-clause-closed : goal.returns-clause-closed
returns-clause-closed c = (all c).closed

pub returns-clause-marked : goal.returns-clause-marked
returns-clause-marked c = (all c).marked

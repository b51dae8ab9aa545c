use Rattle.std.proofs.Common.{◌∙◌, ◌<◌, ◌-◌, length, refl, sym, ap, subst, arith}
use Rattle.std.proofs.lemmas.Option.{slice_get_read}
use Rattle.ppm_step.specs.Locals.{standing_of}
use Rattle.ppm_core.specs.Machine.{Holding}
use Rattle.ppm_core.specs.Moments.{moment, NoFurther}
use Rattle.ppm_core.proofs.LocalLemmas.{one_changed}
use Rattle.ppm_core.proofs.StepsLemmas.{goes_no_further_is, has_made, run_is, steady_is, work_is_last}
use Rattle.ppm_core.proofs.machine.Machine.steps.Goals as goal

-- the words and the processors are as they should be, and counts are turns
pub invariant_of-self : goal.invariant_of-self
invariant_of-self c =
    let same = ap (λ (m : Holding). m.shape.processors) c.self.view_is in
    let less : c.args.processor < length c.self.inside.locals.items =
    omega (arith, c.requires.processor, c.self.invariant.1.count, same) in
    let at = slice_get_read c.self.inside.locals.items _ c.args.processor c.index_mut-local.result.now refl less c.index_mut-local.ensures.value in
    let own = (c.self.invariant.1.each c.args.processor c.index_mut-local.result.now at).own in (
      record { words_are = c.step_along-steps.ensures.count; arrays_are = c.self.invariant.0.arrays_are },
      one_changed c.self.inside.shape c.self.inside.code c.self.inside.locals.items c.args.processor c.step_along-steps.new.local c.self.invariant.1
          c.step_along-steps.ensures.holds (c.step_along-steps.ensures.own ∙ own),
      record {
        forks_at_most = omega (arith, c.self.invariant.2.forks_at_most, c.step_along-steps.ensures.few.2);
        takes_at_most = omega (arith, c.self.invariant.2.takes_at_most, c.step_along-steps.ensures.few.3);
        work_at_most = omega (arith, c.self.invariant.2.work_at_most, c.step_along-steps.ensures.few.1);
      },
      c.self.invariant.3,
    )

-- the machine is that after so many turns
pub returns-clause-machine : goal.returns-clause-machine
returns-clause-machine c =
    let same = ap (λ (m : Holding). m.shape.processors) c.self.view_is in
    let less : c.args.processor < length c.self.inside.locals.items =
    omega (arith, c.requires.processor, c.self.invariant.1.count, same) in
    let at = slice_get_read c.self.inside.locals.items _ c.args.processor c.index_mut-local.result.now refl less c.index_mut-local.ensures.value in
    let own = (c.self.invariant.1.each c.args.processor c.index_mut-local.result.now at).own in
    rw (sym c.self.view_is) (
    run_is _ c.args.processor c.index_mut-local.result.now c.step_along-steps.new.local c.step_along-steps.new.words.items
    c.step_along-steps.result.made c.step_along-steps.result.work c.step_along-steps.result.forks c.step_along-steps.result.takes
    (has_made _ c.args.processor _ _ _ _ _ _ _ at own c.step_along-steps.ensures.leads)
    )

-- each of them plain
pub returns-clause-steady : goal.returns-clause-steady
returns-clause-steady c =
    let same = ap (λ (m : Holding). m.shape.processors) c.self.view_is in
    let less : c.args.processor < length c.self.inside.locals.items =
    omega (arith, c.requires.processor, c.self.invariant.1.count, same) in
    let at = slice_get_read c.self.inside.locals.items _ c.args.processor c.index_mut-local.result.now refl less c.index_mut-local.ensures.value in
    let own = (c.self.invariant.1.each c.args.processor c.index_mut-local.result.now at).own in
    rw (sym c.self.view_is) (
    steady_is _ c.args.processor c.index_mut-local.result.now c.step_along-steps.new.local c.step_along-steps.new.words.items
    c.step_along-steps.result.made c.step_along-steps.result.work c.step_along-steps.result.forks c.step_along-steps.result.takes
    (has_made _ c.args.processor _ _ _ _ _ _ _ at own c.step_along-steps.ensures.leads)
    )

-- and the last work
pub returns-clause-work : goal.returns-clause-work
returns-clause-work c =
    let same = ap (λ (m : Holding). m.shape.processors) c.self.view_is in
    let less : c.args.processor < length c.self.inside.locals.items =
    omega (arith, c.requires.processor, c.self.invariant.1.count, same) in
    let at = slice_get_read c.self.inside.locals.items _ c.args.processor c.index_mut-local.result.now refl less c.index_mut-local.ensures.value in
    let own = (c.self.invariant.1.each c.args.processor c.index_mut-local.result.now at).own in
    rw (sym c.self.view_is) (
    work_is_last _ c.args.processor c.index_mut-local.result.now c.step_along-steps.new.local c.step_along-steps.new.words.items
    c.step_along-steps.result.made c.step_along-steps.result.work c.step_along-steps.result.forks c.step_along-steps.result.takes
    (has_made _ c.args.processor _ _ _ _ _ _ _ at own c.step_along-steps.ensures.leads)
    )

-- and more would lead no further
pub returns-clause-no_further : goal.returns-clause-no_further
returns-clause-no_further c =
    let same = ap (λ (m : Holding). m.shape.processors) c.self.view_is in
    let less : c.args.processor < length c.self.inside.locals.items =
    omega (arith, c.requires.processor, c.self.invariant.1.count, same) in
    let at = slice_get_read c.self.inside.locals.items _ c.args.processor c.index_mut-local.result.now refl less c.index_mut-local.ensures.value in
    let own = (c.self.invariant.1.each c.args.processor c.index_mut-local.result.now at).own in
    goes_no_further_is _ c.args.processor c.index_mut-local.result.now c.step_along-steps.new.local c.step_along-steps.new.words.items
    c.step_along-steps.result.made c.step_along-steps.result.work c.step_along-steps.result.forks c.step_along-steps.result.takes (c.args.most - c.step_along-steps.result.made)
    (has_made _ c.args.processor _ _ _ _ _ _ _ at own c.step_along-steps.ensures.leads)
    (subst
    (λ n. NoFurther c.self.inside.shape c.self.inside.code n (c.args.most - c.step_along-steps.result.made)
    (moment c.step_along-steps.new.words.items (standing_of c.self.inside.shape c.self.inside.code c.step_along-steps.new.local)))
    own c.step_along-steps.ensures.no_further)

use Rattle.std.proofs.Common.{◌∙◌, sym, ap, subst, [], ◌∷◌}
use Rattle.ppm_plan.specs.declared.schedule_item.ScheduledAct.TheVariants.{Fails}
use Rattle.ppm_core.specs.Machine.{seen}
use Rattle.ppm_choice.specs.Course.{Listed}
use Rattle.ppm_following.specs.Following.{Does}
use Rattle.ppm_following.proofs.DoesLemmas.{shape_stays}
use Rattle.ppm_sweep.specs.Sweep.{with_act}
use Rattle.ppm_sweep.proofs.PlaceLemmas.{goes_on}
use Rattle.ppm_sweep.proofs.spot.struck.Goals as goal

-- the fault was made on a copy, and written
pub returns-clause-goes_on : goal.returns-clause-goes_on
returns-clause-goes_on c =
    let act = Fails c.args.processor c.args.fault in
    let does = subst (λ k. Does (Listed act ∷ []) (seen k) c.args.spot.now.way (seen c.make.new.machine) c.make.new.way) c.in_ok-machine.ensures
    c.make.ensures.does in
    let front = c.in_ok-write_act.ensures ∙ ap (λ l. with_act l act) (c.in_ok-front.ensures.items ∙ c.as_slice-written.ensures.value) in
    goes_on act c.args.spot.now _ (front, does, c.make.ensures.ready)
    (c.new-ahead.ensures.processors ∙ c.processors.ensures.value ∙ ap (λ s. s.processors) (shape_stays does) ∙ sym c.requires.spot.1.processors)

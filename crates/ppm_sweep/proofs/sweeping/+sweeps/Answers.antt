use Rattle.std.proofs.Common.{◌≡◌, ◌∙◌, refl, sym, subst, arith, false, suc, ◌+◌, ◌-◌, [], ◌∷◌, Ok, leb-true, true}
use Rattle.std.proofs.lemmas.Bool.{both_ways}
use Rattle.ppm_core.specs.Machine.{seen}
use Rattle.ppm_step.specs.State.{stand_of, is_done_at}
use Rattle.ppm_choice.specs.Course.{act_of, processor_of}
use Rattle.ppm_sweep.specs.declared.found.Tally.{Tally}
use Rattle.ppm_sweep.specs.Ahead.{due_of, dues_in}
use Rattle.ppm_sweep.specs.Found.{AllCome, Finds, Stops}
use Rattle.ppm_sweep.specs.Spots.{place_of, IsLast}
use Rattle.ppm_sweep.specs.Sweep.{alone}
use Rattle.ppm_sweep.specs.Visits.{PassesOn, Visits, swept_deeper, swept_from, swept_further, swept_struck}
use Rattle.ppm_sweep.proofs.AlongLemmas.{last_of, none_after, none_made}
use Rattle.ppm_sweep.proofs.FoundLemmas.{finds_after, none_come, stops_in}
use Rattle.ppm_sweep.proofs.SpotLemmas.{made}
use Rattle.ppm_sweep.proofs.WalkLemmas.{all_before, before_is, exit_finds, exit_visits, further_is, further_none, hard_too, one_visit, soft_alone, soft_stops, visits_end, walk_stops}
use Rattle.ppm_sweep.proofs.sweeping.+sweeps.Goals.{visit-then-has+in_ok-strikes, visit-else-has}
use Rattle.ppm_sweep.proofs.sweeping.+sweeps.Goals as goal

-- a run after the soft fault differs
pub strikes-returns-in_err-sweep_from : goal.strikes-returns-in_err-sweep_from
strikes-returns-in_err-sweep_from t c =
    let s = c.in_ok-soft.ensures in
    soft_stops c.args.wanted.now c.args.sweeping c.args.spot.now c.args.processor c.deeper-deeper.result c.in_ok-soft.soft c.args.tally.now _ _ _
    c.deeper-deeper.ensures (record { goes_on = s.goes_on; place = s.place; faults = s.counts.0 }) c.in_err-sweep_from.ensures
    c.from_residual-in_err-sweep_from.ensures.1

-- the keeper meets no hard one
pub strikes-returns-then-processor-sweeping : goal.strikes-returns-then-processor-sweeping
strikes-returns-then-processor-sweeping t c =
    let s = c.in_ok-soft.ensures in
    soft_alone c.args.wanted.now c.args.sweeping c.args.spot.now c.args.processor c.deeper-deeper.result c.in_ok-soft.soft c.args.tally.now _
    c.deeper-deeper.ensures (record { goes_on = s.goes_on; place = s.place; faults = s.counts.0 }) c.in_ok-sweep_from.ensures c.if-processor-sweeping.true

-- both
pub strikes-returns : goal.strikes-returns
strikes-returns t c =
    let s = c.in_ok-soft.ensures in
    let h = c.in_ok-hard.ensures in
    hard_too c.args.wanted.now c.args.sweeping c.args.spot.now c.args.processor c.deeper-deeper.result c.in_ok-soft.soft c.in_ok-hard.hard c.args.tally.now
    c.sweep_from.new.tally _ _ c.deeper-deeper.ensures (record { goes_on = s.goes_on; place = s.place; faults = s.counts.0 })
    (record { goes_on = h.goes_on; place = h.place; faults = h.counts.0 }) c.in_ok-sweep_from.ensures c.sweep_from-2.ensures c.if-processor-sweeping.false

-- the run without a further fault differs
pub sweep_from-returns-in_err-alone : goal.sweep_from-returns-in_err-alone
sweep_from-returns-in_err-alone t c = λ m fresh came.
    let o = c.args.sweeping in
    let spot = c.args.spot in
    exit_finds m o.turns c.args.wanted.now (swept_from o spot) c.args.tally.now c.alone.new.tally c.in_err-alone.field-0.0 c.from_residual.result
    c.from_residual.ensures.1
    (stops_in m o.turns c.args.wanted.now (alone spot.faults (place_of spot) ∷ []) (swept_further o spot) c.in_err-alone.field-0.0
    (c.in_err-alone.ensures m fresh came))

-- it agrees, and then those with a fault more
pub sweep_from-returns : goal.sweep_from-returns
sweep_from-returns t c = λ m fresh came.
    let o = c.args.sweeping in
    let spot = c.args.spot in
    finds_after m o.turns c.args.wanted.now (alone spot.faults (place_of spot) ∷ []) (swept_further o spot) c.args.tally.now c.alone.new.tally
    c.further.new.tally c.further.result (c.in_ok-alone.ensures m fresh came) (c.further.ensures m fresh came)

-- there may be no further fault
pub further-returns-then-sweeping-eq0 : goal.further-returns-then-sweeping-eq0
further-returns-then-sweeping-eq0 t c = λ m fresh came.
    let o = c.args.sweeping in
    subst (λ l. AllCome m o.turns c.args.wanted.now l c.args.tally.now c.args.tally.now)
    (sym (further_none o c.args.spot (omega (arith, c.if-sweeping-eq0.true)))) (none_come m o.turns c.args.wanted.now c.args.tally.now)

-- those with one
pub further-returns : goal.further-returns
further-returns t c = λ m fresh came.
    let o = c.args.sweeping in
    let some : o.faults ≡ suc (o.faults - 1) = omega (arith, c.if-sweeping-eq0.false) in
    subst (λ l. Finds m o.turns c.args.wanted.now l c.args.tally.now c.walk.new.tally c.walk.result)
    (sym (further_is o c.args.spot (o.faults - 1) some c.requires.begins c.requires.dues)) (c.walk.ensures m fresh came)

-- nothing more is made
pub visit-returns-then-is_over-clause-visits : goal.visit-returns-then-is_over-clause-visits
visit-returns-then-is_over-clause-visits t c = λ m fresh came.
    let o = c.args.sweeping in
    let spot = c.args.spot.now in
    let n = seen spot.machine in
    record {
      none =
          none_made n.shape n.code o.keeper (swept_deeper o spot) o.window spot.number (place_of spot) _
          (last_of n spot.way spot.ahead c.in-Some.coming (c.is_over.ensures.0 c.if-is_over.true) (sym c.in-Some.ensures.value) c.first.ensures.later);
      same = refl;
    }

-- all that is ahead comes after the window
pub visit-returns-then-is_before-clause-visits : goal.visit-returns-then-is_before-clause-visits
visit-returns-then-is_before-clause-visits t c = λ m fresh came.
    let o = c.args.sweeping in
    let spot = c.args.spot.now in
    let n = seen spot.machine in
    record {
      none =
          none_after n.shape n.code o.keeper (swept_deeper o spot) o.window spot.number (place_of spot) (dues_in spot.ahead)
          (leb-true (o.window.from + o.window.acts) spot.number (sym c.is_before.ensures ∙ c.if-is_before.true));
      same = refl;
    }

-- a run with a fault before it differs
pub visit-returns-in_err-strikes-clause-visits : goal.visit-returns-in_err-strikes-clause-visits
visit-returns-in_err-strikes-clause-visits t c = λ m fresh came.
    let o = c.args.sweeping in
    let spot = c.args.spot.now in
    let n = seen spot.machine in
    let more : ¬ IsLast n spot.way c.in-Some.coming = λ over. both_ways c.is_over.result c.if-is_over.false (c.is_over.ensures.1 over) in
    let processor = processor_of (act_of (due_of c.in-Some.coming)) in
    let lives = subst (λ k. is_done_at (stand_of n.state k) ≡ false) c.processor_of-processor.ensures (sym c.is_done.ensures ∙ c.if-is_done.false) in
    let first = c.in-Some.ensures.dues in
    let is = made n spot.way c.in-Some.coming more lives in
    let before = before_is o spot (due_of c.in-Some.coming) first.0 first.1 is (sym c.has.ensures ∙ c.if-has.true) in
    exit_visits m c.args.wanted.now o spot _ c.args.tally.now c.strikes.new.tally c.in_err-strikes.field-0.0 c.from_residual-in_err-strikes.result
    c.from_residual-in_err-strikes.ensures.1
    (subst (λ l. Stops m o.turns c.args.wanted.now l c.in_err-strikes.field-0.0) (sym before.1)
    (stops_in m o.turns c.args.wanted.now (swept_struck o spot processor) before.0 c.in_err-strikes.field-0.0
    (subst (λ k. Stops m o.turns c.args.wanted.now (swept_struck o spot k) c.in_err-strikes.field-0.0) c.processor_of-processor.ensures
    (c.in_err-strikes.ensures m fresh came))))

-- it is made, after all schedules with a fault before it
pub visit-returns-clause-visits : goal.visit-returns-clause-visits
visit-returns-clause-visits t c = λ m fresh came.
    let o = c.args.sweeping in
    let wanted = c.args.wanted.now in
    let spot = c.args.spot.now in
    let n = seen spot.machine in
    let due = due_of c.in-Some.coming in
    let more : ¬ IsLast n spot.way c.in-Some.coming = λ over. both_ways c.is_over.result c.if-is_over.false (c.is_over.ensures.1 over) in
    let lives = subst (λ k. is_done_at (stand_of n.state k) ≡ false) c.processor_of-processor.ensures (sym c.is_done.ensures ∙ c.if-is_done.false) in
    let is = made n spot.way c.in-Some.coming more lives in
    record {
      due = due;
      advances = c.in_ok-advance.ensures;
      all = elim c.if-has.branch [
        | visit-then-has+in_ok-strikes w ↦
            all_before m wanted o spot due c.args.tally.now c.if-has.tally is true (sym c.has.ensures ∙ w.if-has.true)
            (subst (λ (v : Tally). AllCome m o.turns wanted (swept_struck o spot (processor_of (act_of due))) c.args.tally.now v) (sym w.tally-is)
            (subst (λ k. AllCome m o.turns wanted (swept_struck o spot k) c.args.tally.now w.strikes.new.tally) c.processor_of-processor.ensures
            (w.in_ok-strikes.ensures m fresh came)))
        | visit-else-has w ↦
            all_before m wanted o spot due c.args.tally.now c.if-has.tally is false (sym c.has.ensures ∙ w.if-has.false)
            (subst (λ (v : Tally). AllCome m o.turns wanted [] c.args.tally.now v) (sym w.tally-is) (none_come m o.turns wanted c.args.tally.now))
      ];
    }

-- a visit stops
pub walk-returns-in_err-more : goal.walk-returns-in_err-more
walk-returns-in_err-more t c =
    walk_stops c.args.wanted.now c.args.sweeping c.args.spot c.acts.spot c.args.tally.now c.acts.tally c.visit.new.tally c.in_err-more.field-0.0
    c.from_residual.result c.acts.invariant.0 c.in_err-more.ensures.visits c.from_residual.ensures.1

-- nothing is left
pub walk-returns-then-not-more : goal.walk-returns-then-not-more
walk-returns-then-not-more t c =
    visits_end c.args.wanted.now c.args.sweeping c.args.spot c.acts.spot c.visit.new.spot c.args.tally.now c.acts.tally c.visit.new.tally c.acts.invariant.0
    (λ m fresh came. subst (λ b. Visits m c.args.wanted.now c.args.sweeping c.acts.spot c.visit.new.spot c.acts.tally c.visit.new.tally (Ok b))
    c.if-not-more.true (c.in_ok-more.ensures.visits m fresh came))

-- one visit more
pub walk-acts-preserved : goal.walk-acts-preserved
walk-acts-preserved t c =
    let p = subst (λ b. PassesOn b c.acts.spot c.visit.new.spot) c.if-not-more.false c.in_ok-more.ensures.goes_on in (
      one_visit c.args.wanted.now c.args.sweeping c.args.spot c.acts.spot c.visit.new.spot c.args.tally.now c.acts.tally c.visit.new.tally
          c.acts.invariant.0 p
          (λ m fresh came. subst (λ b. Visits m c.args.wanted.now c.args.sweeping c.acts.spot c.visit.new.spot c.acts.tally c.visit.new.tally (Ok b))
          c.if-not-more.false (c.in_ok-more.ensures.visits m fresh came)),
      p.1.goes_on.is_spot c.args.wanted.now c.acts.invariant.1,
    )

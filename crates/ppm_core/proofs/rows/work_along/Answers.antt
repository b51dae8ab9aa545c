use Rattle.std.proofs.Common.{◌≡◌, ◌∙◌, ◌+◌, ◌-◌, ℕ, Result, Ok, Err, Some, refl, sym, subst, arith}
use Rattle.ppm_engine.specs.declared.memory.Stop.{Stop}
use Rattle.ppm_engine.specs.declared.tally.Mark.TheVariants.{Plain}
use Rattle.ppm_engine.specs.declared.tally.Settled.{Settled}
use Rattle.ppm_step.specs.declared.row.Seat.{Seat}
use Rattle.ppm_step.specs.Standings.{Standing, IsAt, IsBroken}
use Rattle.ppm_core.specs.declared.frames.FrameEnd.{FrameEnd}
use Rattle.ppm_core.specs.After.{HasFramed, HoldsFramed, stands_framed}
use Rattle.ppm_core.specs.Moments.{moment, NoFurther, StepsTo}
use Rattle.ppm_core.specs.Worked.{HasEnded}
use Rattle.ppm_core.proofs.AfterLemmas.{too_few}
use Rattle.ppm_core.proofs.MomentLemmas.{leads_both}
use Rattle.ppm_core.proofs.RowLemmas.{breaks_so, count_few, count_leads, frames_few, frames_lead, mark_few, row_no_further, stays_leads}
use Rattle.ppm_core.proofs.rows.work_along.Goals as goal

none_more : (n m sum : ℕ) → sum ≡ n + m → sum ≡ 0 → m ≡ 0
none_more n m sum is none = omega (arith, is, none)

left_whole : (n m sum most : ℕ) → sum ≡ n + m → sum ≡ 0 → most - n ≡ most
left_whole n m sum most is none = omega (arith, is, none)

-- no step more
pub returns-in_default-clause-leads : goal.returns-in_default-clause-leads
returns-in_default-clause-leads c =
    stays_leads c.args.shape.now c.args.code.now c.args.local.now.own _ _ _ _ _ _ _ _ _ c.loop-count.invariant.0 c.in_default.ensures.rowed c.wait_at.ensures.stands

pub returns-in_default-clause-no_further : goal.returns-in_default-clause-no_further
returns-in_default-clause-no_further c = λ none.
    let words = c.row_at.new.words.items in
    subst (λ (st : Standing). NoFurther c.args.shape.now c.args.code.now c.args.local.now.own c.args.most (moment words st)) (sym c.wait_at.ensures.stands)
    (row_no_further c.args.shape.now c.args.code.now c.args.local.now.own c.args.most c.args.place c.loop-count.at words (c.has_row.ensures c.if-has_row.true))

pub with_row-count-requires : goal.with_row-count-requires
with_row-count-requires c =
    let i = c.loop-count.invariant in
    let rowed = c.in-Some.ensures.rowed in
    record { few = (omega (arith, i.4, rowed.2, c.ranges.most.fits), i.5, i.6, i.7, rowed.1) }

pub with_row-requires : goal.with_row-requires
with_row-requires c =
    let i = c.loop-count.invariant in
    let rowed = c.in-Some.ensures.rowed in
    record { few = (omega (arith, i.4, rowed.2, c.ranges.most.fits), i.5, i.6, i.7, rowed.1) }

-- a row more, after which the place goes on
pub loop-count-preserved-in-Ok : goal.loop-count-preserved-in-Ok
loop-count-preserved-in-Ok c =
    let s = c.args.shape.now in
    let code = c.args.code.now in
    let own = c.args.local.now.own in
    let i = c.loop-count.invariant in
    let seat : Seat = record { own = own; place = c.args.place; restart = c.loop-count.at } in
    let rowed = c.in-Some.rowed in
    let words = c.loop-count.words.items in
    let words' = c.row_at.new.words.items in
    let settled = c.in-Ok.settled in
    let ended = subst (λ (r : Result Settled Stop). HasEnded s code seat words words' rowed.work r) c.in-Ok.is c.in-Some.ensures.rowed.3 in
    let sum = c.with_row-count.result in
    let one = mark_few settled.mark in
    let few = count_few c.loop-count.count sum rowed.work settled.mark c.with_row-count.ensures one.0 one.1 i.5 i.6 i.7 in (
      count_leads s code own _ _ c.loop-count.count sum rowed.work settled.mark c.with_row-count.ensures (leads_both s code own i.0 ended.0),
      ended.1,
      c.in-Some.ensures.count,
      i.3,
      omega (arith, few.0, c.in-Some.ensures.rowed.1, c.in-Some.ensures.rowed.2, i.4),
      few.1,
      few.2,
      few.3,
    )

-- or it has met broken words
pub returns-in-Err-clause-leads : goal.returns-in-Err-clause-leads
returns-in-Err-clause-leads c =
    let s = c.args.shape.now in
    let code = c.args.code.now in
    let own = c.args.local.now.own in
    let i = c.loop-count.invariant in
    let seat : Seat = record { own = own; place = c.args.place; restart = c.loop-count.at } in
    let rowed = c.in-Some.rowed in
    let words = c.loop-count.words.items in
    let words' = c.row_at.new.words.items in
    let ended = subst (λ (r : Result Settled Stop). HasEnded s code seat words words' rowed.work r) c.in-Err.is c.in-Some.ensures.rowed.3 in
    count_leads s code own _ _ c.loop-count.count c.with_row.result rowed.work Plain c.with_row.ensures
    (stays_leads s code own _ _ _ _ _ words' words' (IsBroken c.args.place) _
    (leads_both s code own i.0 (breaks_so s code seat words words' rowed.work c.in-Err.field-0 ended)) refl c.wait_broken.ensures.stands)

pub returns-in-Err-clause-few : goal.returns-in-Err-clause-few
returns-in-Err-clause-few c =
    let i = c.loop-count.invariant in
    let rowed = c.in-Some.rowed in
    let one = mark_few Plain in
    let few = count_few c.loop-count.count c.with_row.result rowed.work Plain c.with_row.ensures one.0 one.1 i.5 i.6 i.7 in (
      omega (arith, few.0, c.in-Some.ensures.rowed.1, c.in-Some.ensures.rowed.2, i.4),
      few.1,
      few.2,
      few.3,
    )

pub returns-in-Err-clause-no_further : goal.returns-in-Err-clause-no_further
returns-in-Err-clause-no_further c = λ none.
    let i = c.loop-count.invariant in
    let one = mark_few Plain in
    let few = count_few c.loop-count.count c.with_row.result c.in-Some.rowed.work Plain c.with_row.ensures one.0 one.1 i.5 i.6 i.7 in
    absurd (omega (arith, few.0, none))

-- capsules of a frame more
pub with_frames-count-requires : goal.with_frames-count-requires
with_frames-count-requires c =
    let i = c.loop-count.invariant in
    let few = c.rounds-framed.ensures.few in
    record { few = (omega (arith, i.4, few.0, c.ranges.most.fits), i.5, few.1) }

pub loop-count-preserved : goal.loop-count-preserved
loop-count-preserved c =
    let s = c.args.shape.now in
    let code = c.args.code.now in
    let own = c.args.local.now.own in
    let i = c.loop-count.invariant in
    let went = c.rounds-framed in
    let words' = went.new.words.items in
    let framed = subst (λ (o : ℕ). HasFramed s code o c.args.place (moment c.loop-count.words.items (IsAt c.args.place (Some c.loop-count.at))) words' went.new.local went.result)
    i.3 went.ensures.framed in
    let sum = c.with_frames-count.result in
    let few = frames_few c.loop-count.count sum went.result c.with_frames-count.ensures went.ensures.few.1 i.5 i.6 i.7 in (
      frames_lead s code own _ _ _ c.loop-count.count sum went.result c.with_frames-count.ensures i.0
          (subst (λ (e : FrameEnd). StepsTo s code own went.result.made went.result.work (moment c.loop-count.words.items (IsAt c.args.place (Some c.loop-count.at)))
          (moment words' (stands_framed s code c.args.place went.new.local e))) c.in-Installed.is framed.steps),
      subst (λ (e : FrameEnd). HoldsFramed s code went.new.local e) c.in-Installed.is framed.holds,
      went.ensures.count,
      went.ensures.own_stays ∙ i.3,
      omega (arith, few.0, i.4, went.ensures.few.0),
      few.1,
      few.2,
      few.3,
    )

-- none was made
pub wait_at-requires-then-framed-eq0 : goal.wait_at-requires-then-framed-eq0
wait_at-requires-then-framed-eq0 c =
    let s = c.args.shape.now in
    let code = c.args.code.now in
    let own = c.args.local.now.own in
    let i = c.loop-count.invariant in
    let went = c.rounds-framed in
    let words' = went.new.words.items in
    let framed = subst (λ (o : ℕ). HasFramed s code o c.args.place (moment c.loop-count.words.items (IsAt c.args.place (Some c.loop-count.at))) words' went.new.local went.result)
    i.3 went.ensures.framed in
    record {
      carrier = omega (arith, went.ensures.own_stays, i.3, c.requires.own);
      place = c.requires.place;
      restart = subst (λ (e : FrameEnd). HoldsFramed s code went.new.local e) c.in-Installed.is framed.holds;
    }

pub returns-then-framed-eq0 : goal.returns-then-framed-eq0
returns-then-framed-eq0 c =
    let s = c.args.shape.now in
    let code = c.args.code.now in
    let own = c.args.local.now.own in
    let i = c.loop-count.invariant in
    let went = c.rounds-framed in
    let words' = went.new.words.items in
    let framed = subst (λ (o : ℕ). HasFramed s code o c.args.place (moment c.loop-count.words.items (IsAt c.args.place (Some c.loop-count.at))) words' went.new.local went.result)
    i.3 went.ensures.framed in
    let sum = c.with_frames-count.result in
    let stands = c.wait_at-then-framed-eq0.ensures.stands in
    let few = frames_few c.loop-count.count sum went.result c.with_frames-count.ensures went.ensures.few.1 i.5 i.6 i.7 in
    record {
      few = (omega (arith, few.0, i.4, went.ensures.few.0), few.1, few.2, few.3);
      leads = frames_lead s code own _ _ _ c.loop-count.count sum went.result c.with_frames-count.ensures i.0
          (subst (λ (st : Standing). StepsTo s code own went.result.made went.result.work (moment c.loop-count.words.items (IsAt c.args.place (Some c.loop-count.at))) (moment words' st))
          (sym stands)
          (subst (λ (e : FrameEnd). StepsTo s code own went.result.made went.result.work (moment c.loop-count.words.items (IsAt c.args.place (Some c.loop-count.at)))
          (moment words' (stands_framed s code c.args.place went.new.local e))) c.in-Installed.is framed.steps));
      no_further = λ none.
          subst (λ (st : Standing). NoFurther s code own c.args.most (moment words' st)) (sym stands)
          (subst (λ (e : FrameEnd). NoFurther s code own c.args.most (moment words' (stands_framed s code c.args.place went.new.local e))) c.in-Installed.is
          (subst (λ (n : ℕ). NoFurther s code own n (moment words' (stands_framed s code c.args.place went.new.local went.result.end)))
          (left_whole c.loop-count.count.made went.result.made sum.made c.args.most few.0 none)
          (subst (λ (o : ℕ). NoFurther s code o (c.args.most - c.loop-count.count.made) (moment words' (stands_framed s code c.args.place went.new.local went.result.end))) i.3
          (went.ensures.no_further c.if-framed-eq0.true))));
      holds = (c.wait_at-then-framed-eq0.ensures.holds, c.wait_at-then-framed-eq0.ensures.own_stays ∙ went.ensures.own_stays ∙ i.3);
      count = went.ensures.count;
    }

-- or the processor has been put where it stands
pub returns-in-Stands : goal.returns-in-Stands
returns-in-Stands c =
    let s = c.args.shape.now in
    let code = c.args.code.now in
    let own = c.args.local.now.own in
    let i = c.loop-count.invariant in
    let went = c.rounds-framed in
    let words' = went.new.words.items in
    let framed = subst (λ (o : ℕ). HasFramed s code o c.args.place (moment c.loop-count.words.items (IsAt c.args.place (Some c.loop-count.at))) words' went.new.local went.result)
    i.3 went.ensures.framed in
    let sum = c.with_frames-count.result in
    let few = frames_few c.loop-count.count sum went.result c.with_frames-count.ensures went.ensures.few.1 i.5 i.6 i.7 in
    record {
      few = (omega (arith, few.0, i.4, went.ensures.few.0), few.1, few.2, few.3);
      leads = frames_lead s code own _ _ _ c.loop-count.count sum went.result c.with_frames-count.ensures i.0
          (subst (λ (e : FrameEnd). StepsTo s code own went.result.made went.result.work (moment c.loop-count.words.items (IsAt c.args.place (Some c.loop-count.at)))
          (moment words' (stands_framed s code c.args.place went.new.local e))) c.in-Stands.is framed.steps);
      no_further = λ none.
          subst (λ (e : FrameEnd). NoFurther s code own c.args.most (moment words' (stands_framed s code c.args.place went.new.local e))) c.in-Stands.is
          (subst (λ (n : ℕ). NoFurther s code own n (moment words' (stands_framed s code c.args.place went.new.local went.result.end)))
          (left_whole c.loop-count.count.made went.result.made sum.made c.args.most few.0 none)
          (subst (λ (o : ℕ). NoFurther s code o (c.args.most - c.loop-count.count.made) (moment words' (stands_framed s code c.args.place went.new.local went.result.end))) i.3
          (went.ensures.no_further (none_more c.loop-count.count.made went.result.made sum.made few.0 none))));
      holds = (subst (λ (e : FrameEnd). HoldsFramed s code went.new.local e) c.in-Stands.is framed.holds, went.ensures.own_stays ∙ i.3);
      count = went.ensures.count;
    }

-- too few steps are left
pub returns-clause-leads : goal.returns-clause-leads
returns-clause-leads c =
    stays_leads c.args.shape.now c.args.code.now c.args.local.now.own _ _ _ _ _ _ _ _ _ c.loop-count.invariant.0 refl c.wait_at-2.ensures.stands

pub returns-clause-no_further : goal.returns-clause-no_further
returns-clause-no_further c = λ none.
    let words = c.loop-count.words.items in
    subst (λ (st : Standing). NoFurther c.args.shape.now c.args.code.now c.args.local.now.own c.args.most (moment words st)) (sym c.wait_at-2.ensures.stands)
    (too_few c.args.shape.now c.args.code.now c.args.local.now.own c.args.most c.args.place c.loop-count.at words (omega (arith, c.loop-count-test.false, none)))

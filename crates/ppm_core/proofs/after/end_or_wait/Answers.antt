use Rattle.std.proofs.Common.{◌≡◌, ◌∙◌, ℕ, Some, sym, ap, subst}
use Rattle.ppm_step.specs.Frames.{ending}
use Rattle.ppm_step.specs.Standings.{Standing, IsAt, IsBroken, running}
use Rattle.ppm_core.specs.declared.ends.EndStep.{EndStep}
use Rattle.ppm_core.specs.Ends.{HasEnded}
use Rattle.ppm_core.specs.Moments.{moment, StepsTo}
use Rattle.ppm_core.proofs.AfterLemmas.{ends_at, ends_within, framed_as}
use Rattle.ppm_core.proofs.CapsuleLemmas.{none}
use Rattle.ppm_core.proofs.after.end_or_wait.Goals as goal

pub end_along-ended-requires-clause-fits : goal.end_along-ended-requires-clause-fits
end_along-ended-requires-clause-fits c = (
  c.requires.home,
  (ends_at c.args.shape.now c.args.code.now c.args.seat c.parts.ensures.code c.args.coming c.args.local.now.registers c.args.way c.in-Some.end c.requires.left.0
      c.in-Some.ensures c.requires.left.1).0,
)

pub returns-in-Installed-clause-framed : goal.returns-in-Installed-clause-framed
returns-in-Installed-clause-framed c = λ standing halts.
    let s = c.args.shape.now in
    let code = c.args.code.now in
    let seat = c.args.seat in
    let end = c.in-Some.end in
    let went = c.end_along-ended in
    let words = c.args.words.now.items in
    let words' = went.new.words.items in
    let made = went.result.made in
    let at = ends_at s code seat c.parts.ensures.code c.args.coming c.args.local.now.registers c.args.way end standing c.in-Some.ensures halts in
    let ended = subst (λ (e : EndStep). HasEnded s code seat (ending code c.args.coming.home end) (ending code c.args.coming.home end 0) words words' made e)
    c.in-Installed.is went.ensures.ended in
    framed_as s code seat.own seat.place (moment words standing) words' c.args.local.now c.framed.result _ c.framed.ensures
    (record {
      steps = subst (λ (st : Standing). StepsTo s code seat.own made made (moment words st) (moment words' (IsAt seat.place (Some c.in-Installed.restart)))) (sym at.1) ended.0;
      holds = ended.1;
    })

pub returns-in-Gone-clause-framed : goal.returns-in-Gone-clause-framed
returns-in-Gone-clause-framed c = λ standing halts.
    let s = c.args.shape.now in
    let code = c.args.code.now in
    let seat = c.args.seat in
    let end = c.in-Some.end in
    let went = c.end_along-ended in
    let words = c.args.words.now.items in
    let words' = went.new.words.items in
    let made = went.result.made in
    let at = ends_at s code seat c.parts.ensures.code c.args.coming c.args.local.now.registers c.args.way end standing c.in-Some.ensures halts in
    let ended = subst (λ (e : EndStep). HasEnded s code seat (ending code c.args.coming.home end) (ending code c.args.coming.home end 0) words words' made e)
    c.in-Gone.is went.ensures.ended in
    framed_as s code seat.own seat.place (moment words standing) words' c.wait_broken.new.local c.framed-in-Gone.result _ c.framed-in-Gone.ensures
    (record {
      steps = subst (λ (st : Standing). StepsTo s code seat.own made made (moment words standing) (moment words' st)) (sym c.wait_broken.ensures.stands)
          (subst (λ (st : Standing). StepsTo s code seat.own made made (moment words st) (moment words' (IsBroken seat.place))) (sym at.1) ended);
      holds = c.wait_broken.ensures.holds;
    })

-- the run is over before the n-th store
pub wait_ending-requires-clause-capsule : goal.wait_ending-requires-clause-capsule
wait_ending-requires-clause-capsule c =
    ends_within c.args.shape.now c.args.code.now c.args.seat c.args.coming c.args.local.now.registers c.args.way c.in-Some.end c.requires.left.0 c.in-Some.ensures
    c.requires.left.1

pub wait_ending-requires-clause-end : goal.wait_ending-requires-clause-end
wait_ending-requires-clause-end c =
    (ends_at c.args.shape.now c.args.code.now c.args.seat c.parts.ensures.code c.args.coming c.args.local.now.registers c.args.way c.in-Some.end c.requires.left.0
    c.in-Some.ensures c.requires.left.1).0

pub returns-in-Before-clause-framed : goal.returns-in-Before-clause-framed
returns-in-Before-clause-framed c = λ standing halts.
    let s = c.args.shape.now in
    let code = c.args.code.now in
    let seat = c.args.seat in
    let home = c.args.coming.home in
    let end = c.in-Some.end in
    let went = c.end_along-ended in
    let words = c.args.words.now.items in
    let words' = went.new.words.items in
    let made = went.result.made in
    let at = ends_at s code seat c.parts.ensures.code c.args.coming c.args.local.now.registers c.args.way end standing c.in-Some.ensures halts in
    let ended = subst (λ (e : EndStep). HasEnded s code seat (ending code home end) (ending code home end 0) words words' made e)
    c.in-Before.is went.ensures.ended in
    framed_as s code seat.own seat.place (moment words standing) words' c.wait_ending.new.local c.framed-in-Before.result _ c.framed-in-Before.ensures
    (record {
      steps = subst (λ (st : Standing). StepsTo s code seat.own made made (moment words standing) (moment words' st)) (sym c.wait_ending.ensures.stands)
          (subst (λ (st : Standing). StepsTo s code seat.own made made (moment words st) (moment words' (running s seat (ending code home end c.in-Before.n)))) (sym at.1) ended);
      holds = c.wait_ending.ensures.holds;
    })

-- it stands there
pub returns-clause-framed : goal.returns-clause-framed
returns-clause-framed c = λ standing halts.
    let s = c.args.shape.now in
    let code = c.args.code.now in
    let seat = c.args.seat in
    let words = c.args.words.now.items in
    framed_as s code seat.own seat.place (moment words standing) words c.wait_halted.new.local c.framed-2.result _ c.framed-2.ensures
    (record {
      steps = none s code seat (ap (moment words) (sym (c.wait_halted.ensures.stands standing halts)));
      holds = c.wait_halted.ensures.holds;
    })

use Rattle.std.proofs.Common.{arith}
use Rattle.ppm_gaps.specs.Stops.{LeadsToStop}
use Rattle.ppm_war.proofs.ConflictLemmas.{is_false, none_below}
use Rattle.ppm_war.proofs.FirstLemmas.{first_none}
use Rattle.ppm_gaps.proofs.SearchLemmas.{found}
use Rattle.ppm_gaps.proofs.StopLemmas.{stop_below}
use Rattle.ppm_gaps.proofs.stops.first_stop.Goals as goal

-- none is below the first place
pub loop-stop-init : goal.loop-stop-init
loop-stop-init c = λ k less x. omega (arith, less)

-- this is the first
pub returns-then-leads_to_stop : goal.returns-then-leads_to_stop
returns-then-leads_to_stop c = found (LeadsToStop c.args.instrs.now c.args.class c.args.but c.args.from) c.loop-stop.stop c.loop-stop.invariant (c.leads_to_stop.ensures.0 c.if-leads_to_stop.true)

-- nor is this one
pub loop-stop-preserved : goal.loop-stop-preserved
loop-stop-preserved c = none_below (LeadsToStop c.args.instrs.now c.args.class c.args.but c.args.from) c.loop-stop.stop c.loop-stop.invariant
    (λ x. is_false c.leads_to_stop.result c.if-leads_to_stop.false (c.leads_to_stop.ensures.1 x))

-- all were met
pub returns : goal.returns
returns c = first_none (LeadsToStop c.args.instrs.now c.args.class c.args.but c.args.from)
    (λ k x. c.loop-stop.invariant k (omega (arith, c.loop-stop-test.false, stop_below c.args.instrs.now c.args.class c.args.but c.args.from k x)) x)

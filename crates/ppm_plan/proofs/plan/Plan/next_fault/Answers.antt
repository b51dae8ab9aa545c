use Rattle.std.proofs.Common.{subst}
use Rattle.ppm_plan.specs.Faults.{IsLeastFrom, IsNextFault}
use Rattle.ppm_plan.specs.Schedules.{Planned}
use Rattle.ppm_plan.proofs.plan.Plan.next_fault.Goals as goal

-- the table shows what the items say
pub returns : goal.returns
returns c =
    subst (λ (plan : Planned). IsNextFault plan.items c.args.processor c.args.from c.next_turn.result) c.self.view_is
    (subst (λ faults. IsLeastFrom faults c.args.from c.next_turn.result) (λ i turn. c.self.invariant.2 c.args.processor turn i)
    c.next_turn.ensures)

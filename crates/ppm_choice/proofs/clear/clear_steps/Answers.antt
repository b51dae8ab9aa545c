use Rattle.std.proofs.Common.{◌∙◌, ap}
use Rattle.ppm_choice.specs.Paces.{at_most}
use Rattle.ppm_choice.proofs.StepsLemmas.{are_clear, are_most}
use Rattle.ppm_choice.proofs.clear.clear_steps.Goals as goal

-- no fault comes before the next
pub returns-clause-clear : goal.returns-clause-clear
returns-clause-clear c past stood p =
    are_clear c.args.plan.now c.args.limits past stood c.args.pace.now p c.acts_to_fault-most.result _ c.acts_to_fault-most.ensures
    (c.at_most.ensures ∙ ap (at_most c.acts_to_fault-most.result) c.saturating_sub-left.ensures)

-- and there are no more
pub returns-clause-most : goal.returns-clause-most
returns-clause-most c past stood p =
    are_most c.args.plan.now c.args.limits past stood c.args.pace.now p c.acts_to_fault-most.result _ c.acts_to_fault-most.ensures
    (c.at_most.ensures ∙ ap (at_most c.acts_to_fault-most.result) c.saturating_sub-left.ensures)

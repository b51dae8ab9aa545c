use Rattle.std.proofs.Common.{sym, subst}
use Rattle.ppm_choice.specs.Paces.{IsChoice}
use Rattle.ppm_choice.proofs.ChoiceLemmas.{choice_is}
use Rattle.ppm_choice.proofs.choosing.choose.Goals as goal

-- what the pace says is what the past says
pub returns-clause-choice : goal.returns-clause-choice
returns-clause-choice c past stood p =
    subst (IsChoice c.args.plan.now c.args.limits c.args.pace.now.processor past stood) (sym c.chosen.ensures)
    (choice_is c.args.plan.now c.args.limits past stood c.args.pace.now p)

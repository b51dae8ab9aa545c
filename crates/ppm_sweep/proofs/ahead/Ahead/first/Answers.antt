use Rattle.std.proofs.Common.{subst}
use Rattle.std.specs.List.{AllByRecursion}
use Rattle.ppm_sweep.specs.Ahead.{Left, IsStepInRound}
use Rattle.ppm_sweep.proofs.LeftLemmas.{all_steps, due_first, due_later}
use Rattle.ppm_sweep.proofs.ahead.Ahead.first.Goals as goal

-- what comes after the list are rounds
pub returns-in-Some-clause-later : goal.returns-in-Some-clause-later
returns-in-Some-clause-later c =
    let i = c.self.inside in
    subst (λ (l : Left). AllByRecursion IsStepInRound l.later) c.self.view_is (all_steps i.next i.processors i.count)

pub returns-in-Some-processor-clause-later : goal.returns-in-Some-processor-clause-later
returns-in-Some-processor-clause-later c =
    let i = c.self.inside in
    subst (λ (l : Left). AllByRecursion IsStepInRound l.later) c.self.view_is (all_steps i.next i.processors i.count)

-- the first item has an act to be done
pub returns-in-Some-clause-dues : goal.returns-in-Some-clause-dues
returns-in-Some-clause-dues c = due_first c.args.self.now c.in-Some.item c.in-Some.ensures.value c.in-Some.ensures.among

pub returns-in-Some-processor-clause-dues : goal.returns-in-Some-processor-clause-dues
returns-in-Some-processor-clause-dues c =
    due_later c.args.self.now c.in-Some-processor.processor c.in-None.ensures.value c.in-Some-processor.ensures.value

use Rattle.ppm_choice.proofs.CountLemmas.{steps_counted}
use Rattle.ppm_choice.proofs.pace.Pace.count_steps.Goals as goal

-- so many acts more
pub returns-clause-pace : goal.returns-clause-pace
returns-clause-pace c plan past past' stood stands p acts work looks next due =
    steps_counted plan c.args.limits past past' stood stands c.args.self.now _ c.args.steps _ c.args.work _ c.args.looks c.args.next c.args.due
    c.more-self.ensures c.more-self-2.ensures c.looks_along-self.ensures p acts work looks next due

use Rattle.ppm_choice.proofs.CountLemmas.{counted}
use Rattle.ppm_choice.proofs.pace.Pace.count.Goals as goal

-- one act more
pub returns-clause-pace : goal.returns-clause-pace
returns-clause-pace c plan past deed stands p work next due =
    counted plan c.args.limits past deed stands c.args.self.now _ _ _ c.args.told.work c.args.told.next c.args.due
    c.more-self.ensures c.work_behind-self.ensures c.looks_behind-self.ensures work next due p

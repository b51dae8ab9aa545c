use Rattle.std.proofs.Common.{option_to_list, subst}
use Rattle.ppm_table.specs.Shown.{InOrder}
use Rattle.ppm_test_threads.proofs.OrderLemmas.{front_in_order, taken_is_of}
use Rattle.ppm_test_threads.proofs.turns.last_of.Goals as goal

pub returns-clause-rest : goal.returns-clause-rest
returns-clause-rest c =
    front_in_order c.args.shared.now 0 c.pop.new.self.items (option_to_list c.pop.result)
    (subst (InOrder c.args.shared.now 0) c.pop.ensures.items c.requires)

pub returns-clause-last : goal.returns-clause-last
returns-clause-last c =
    taken_is_of c.args.shared.now 0 c.pop.new.self.items c.pop.result (subst (InOrder c.args.shared.now 0) c.pop.ensures.items c.requires)

use Rattle.std.proofs.Common.{List, subst}
use mathlib.Core.List.{IsPrefix}
use Rattle.ppm_core.specs.Machine.{seen}
use Rattle.ppm_step.specs.declared.turn.Turn.{Turn}
use Rattle.ppm_locked.proofs.EndLemmas.{ends_hold}
use Rattle.ppm_locked.proofs.held.Held.into_machine.Goals as goal

pub returns-clause-ended : goal.returns-clause-ended
returns-clause-ended g c =
    ends_hold c.args.seats.items (seen c.self.inside.machine) c.self.inside.ends.total c.gather.new.ends.amount c.self.inside.rest_of_ends.amount
    c.self.invariant.5 c.audit-2.ensures.bound c.gather.ensures.ends

pub returns-clause-run : goal.returns-clause-run
returns-clause-run g c =
    let begins : IsPrefix c.self.inside.history c.gather.new.front = subst (λ (l : List Turn). IsPrefix l c.gather.new.front) c.front-front.ensures c.gather.ensures.front in
    (c.self.inside.history, (c.self.invariant.0.0, (c.gather.new.front, (begins, c.gather.ensures.seen))))

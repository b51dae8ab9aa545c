use Rattle.ppm_step.specs.Stages.{rest_at}
use Rattle.ppm_step.proofs.EnterLemmas.{enters_there, enters_nowhere}
use Rattle.ppm_step.proofs.standing.entered.Goals as goal

-- the register work is done, and the next word is there
pub returns-then-go_on-clause-stands : goal.returns-then-go_on-clause-stands
returns-then-go_on-clause-stands c =
    enters_there c.args.shape.now c.args.code.now c.args.seat c.go_on.new.self.seat c.in-Run.frame c.in-Run.copy c.args.number c.in_ok-found.found.now
    (rest_at c.args.shape.now c.args.code.now c.go_on.new.self c.go_on.new.self.stage c.go_on.new.registers) c.go_on.result
    c.if-go_on.true c.in-Run.is c.in_ok-found.ensures c.go_on.ensures.seat c.go_on.ensures.left c.go_on.ensures.there

-- or is not
pub returns-else-go_on-clause-stands : goal.returns-else-go_on-clause-stands
returns-else-go_on-clause-stands c =
    enters_nowhere c.args.shape.now c.args.code.now c.args.seat c.go_on.new.self.seat c.in-Run.frame c.in-Run.copy c.args.number c.in_ok-found.found.now
    (rest_at c.args.shape.now c.args.code.now c.go_on.new.self c.go_on.new.self.stage c.go_on.new.registers) c.go_on.result
    c.if-go_on.false c.in-Run.is c.in_ok-found.ensures c.go_on.ensures.seat c.go_on.ensures.left c.go_on.ensures.there

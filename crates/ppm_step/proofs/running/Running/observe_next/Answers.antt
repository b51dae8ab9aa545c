use Rattle.ppm_step.proofs.NextLemmas.{stands_behind}
use Rattle.ppm_step.proofs.running.Running.observe_next.Goals as goal

-- after the header the restart word comes next
pub returns-clause-stands : goal.returns-clause-stands
returns-clause-stands c = λ found.
    stands_behind c.args.shape.now c.args.code.now c.args.self.now.seat c.args.self.now.home c.args.capsule c.args.n found c.next_is_there.result
    c.if-n-gt0.false (c.next_is_there.ensures c.args.code.now c.args.capsule)

-- By where the strand is.
use Rattle.std.proofs.Common.{sym, subst}
use Rattle.ppm_interleaving.specs.declared.strand.Strand.TheVariants.{Running, Waiting, Tells, Over}
use Rattle.ppm_interleaving.specs.Stepping.{FailsTo}
use Rattle.ppm_interleaving.proofs.PutLemmas.{fails_running, fails_waiting, fails_telling, fails_over}
use Rattle.ppm_interleaving.proofs.stepped.failed.Goals as goal

pub returns-in-Running : goal.returns-in-Running
returns-in-Running c =
    subst (λ x. FailsTo x (Running c.failed.result)) (sym c.in-Running.is) (fails_running c.in-Running.running c.failed.result c.failed.ensures)

pub returns-in-Waiting : goal.returns-in-Waiting
returns-in-Waiting c = subst (λ x. FailsTo x (Waiting c.in-Waiting.waiting)) (sym c.in-Waiting.is) (fails_waiting c.in-Waiting.waiting)

pub returns-in-Tells : goal.returns-in-Tells
returns-in-Tells c = subst (λ x. FailsTo x (Tells c.in-Tells.finish)) (sym c.in-Tells.is) (fails_telling c.in-Tells.finish)

pub returns-in-Over : goal.returns-in-Over
returns-in-Over c = subst (λ x. FailsTo x (Over c.in-Over.finish)) (sym c.in-Over.is) (fails_over c.in-Over.finish)

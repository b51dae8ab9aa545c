use Rattle.std.proofs.Common.{ap}
use Rattle.ppm_step.specs.Told.{is_work_next}
use Rattle.ppm_step.specs.declared.turn.Next.{Next}
use Rattle.ppm_stretch.proofs.rows.is_work.Goals as goal

pub returns-in-Work : goal.returns-in-Work
returns-in-Work c = λ s code. ap (λ (n : Next). is_work_next s code n) (c.in-Work.ensures s code)

pub returns-in-Look : goal.returns-in-Look
returns-in-Look c = λ s code. ap (λ (n : Next). is_work_next s code n) (c.in-Look.ensures s code)

pub returns-in-Seek : goal.returns-in-Seek
returns-in-Seek c = λ s code. ap (λ (n : Next). is_work_next s code n) (c.in-Seek.ensures s code)

pub returns-in-Done : goal.returns-in-Done
returns-in-Done c = λ s code. ap (λ (n : Next). is_work_next s code n) (c.in-Done.ensures s code)

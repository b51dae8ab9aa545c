-- The laws on which the rows of `resume` rest.
use Rattle.ppm_outcomes.specs.CodeResumes.{CodeWordsComeBack, ResumesOfCodeComplete}
use Rattle.ppm_outcomes.specs.LegsAsCode.{RunsInLegsAreAsCode}
use Rattle.ppm_outcomes.specs.ProgramsAsCode.{ProgramsAreAsCode}

-- runs in legs end as their codes; what a sound code left comes back; with turns and room enough what is resumed ends; and programs are as their codes
pub record ResumeLaws : Type 0 where
  pub legs : RunsInLegsAreAsCode
  pub comes : CodeWordsComeBack
  pub complete : ResumesOfCodeComplete
  pub programs : ProgramsAreAsCode

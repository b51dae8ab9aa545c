use Rattle.std.proofs.Common.{sym, subst}
use Rattle.ppm_commands.specs.Depth.{DepthMayOf}
use Rattle.ppm_commands.proofs.DepthAnswers.{run_may}
use Rattle.ppm_commands.proofs.depth.tidy_answer.Goals as goal

-- what the run comes to
pub returns-in-Ok : goal.returns-in-Ok
returns-in-Ok c =
    subst (DepthMayOf c.args.capsules c.args.code.now c.args.input.now) (sym c.run_answer.ensures)
    (run_may c.args.code.now c.args.input.now c.args.capsules c.in-Ok.done c.requires.tidy c.in-Ok.ensures.run)

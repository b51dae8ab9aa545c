use Rattle.std.proofs.Common.{sym, subst}
use Rattle.ppm_strand_runs.specs.Correct.{AreSteps}
use Rattle.ppm_strand_runs.proofs.DrawLemmas.{all_steps}
use Rattle.ppm_strand_runs.proofs.drawn.drawn_steps.Goals as goal

-- what is drawn are steps
pub returns-clause-steps : goal.returns-clause-steps
returns-clause-steps c = subst AreSteps (sym c.in_ok-items.ensures) (all_steps c.args.strands c.args.count c.seed_from_u64-words.result)

use Rattle.ppm_driver.proofs.CompleteLemmas.{runs_complete}
use Rattle.ppm_outcomes.proofs.StrikeLemmas.{strikes_are_planned, undone_are_planned}
use Rattle.ppm_driver.proofs.complete.runs_complete.Goals as goal

-- from what each processor obeys
pub returns-clause-strikes : goal.returns-clause-strikes
returns-clause-strikes c = strikes_are_planned

pub returns-clause-undone : goal.returns-clause-undone
returns-clause-undone c = undone_are_planned

-- from the laws of texts, of plans and of runs
pub returns-clause-law : goal.returns-clause-law
returns-clause-law c = runs_complete (record {
  runs = c.runs_are_as_programs.ensures.law;
  plans = c.have_one_answer.ensures.law;
  texts = c.have_one_answer-2.ensures.law;
})

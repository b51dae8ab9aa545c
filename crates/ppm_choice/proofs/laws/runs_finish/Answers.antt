use Rattle.ppm_choice.proofs.EndLemmas.{quits_where_spent, keeper_ends, runs_finish}
use Rattle.ppm_choice.proofs.laws.runs_finish.Goals as goal

pub returns : goal.returns
returns c = record { spent = quits_where_spent; keeper = keeper_ends; finish = runs_finish }

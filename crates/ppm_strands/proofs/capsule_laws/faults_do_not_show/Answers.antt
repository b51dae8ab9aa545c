use Rattle.ppm_strands.proofs.FaultsLemmas.{faulty_runs_are_ahead, faulty_runs_end_alike}
use Rattle.ppm_strands.proofs.FaultlessLemmas.{depth_first_happens}
use Rattle.ppm_strands.proofs.capsule_laws.faults_do_not_show.Goals as goal

-- each thing that happens is steps of the tree, and what is done stands
pub returns : goal.returns
returns g c = λ eq table. record {
  ahead = λ safe k t u a b calm run. faulty_runs_are_ahead eq table safe k t u a b calm run;
  ends = λ safe k t o a b calm run. faulty_runs_end_alike eq table safe k t o a b calm run;
  happens = λ safe t a e ends. depth_first_happens eq table safe t a e ends;
}

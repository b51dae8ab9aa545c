use Rattle.ppm_strands.proofs.StrandLemmas.{stores_are_steps, stores_keep, ends_are_steps}
use Rattle.ppm_strands.proofs.MomentLemmas.{moments_are_steps, runs_with_stops_are_one_capsule}
use Rattle.ppm_strands.proofs.capsule_laws.capsules_make_steps.Goals as goal

-- a capsule begun again from words with its stores does the same
pub returns : goal.returns
returns g c = λ eq table. record {
  stores = λ k l v rest m again h. stores_are_steps eq table k l v rest m again h;
  kept = λ k l v rest m again h. stores_keep eq table k l v rest m again h;
  ends = λ k e m again clean h. ends_are_steps eq table k e m again clean h;
  moments = λ k m stops n again. moments_are_steps eq table k m stops n again;
  runs = λ k m stops again clean. runs_with_stops_are_one_capsule eq table k m stops again clean;
}

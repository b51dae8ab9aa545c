use Rattle.ppm_frames.proofs.SkeletonLemmas.{step_in}
use Rattle.ppm_frames.proofs.laws.steps_pass_up.Goals as goal

-- head and aim are one record in the lemma
pub returns : goal.returns
returns c = record {
  law = λ code m n k a b h around u v same head aim step.
      step_in m n code k a b h around u v same (record { head = head; aim = aim }) step;
}

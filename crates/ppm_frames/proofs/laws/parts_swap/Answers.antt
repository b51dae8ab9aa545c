use Rattle.ppm_frames.proofs.SwapLemmas.{good_swap}
use Rattle.ppm_frames.proofs.laws.parts_swap.Goals as goal

-- head and aim are one record in the lemma
pub returns : goal.returns
returns c = record {
  law = λ code m n k l h around u v same kinds swap good all. good_swap m n code k l h around u v same kinds
      (record { aim = record { head = swap.head; aim = swap.aim }; order = swap.order; gives = swap.gives }) good all;
}

-- What two lists of turns make of a machine, one after the other.
use Rattle.std.proofs.Common.{arith, ◌≡◌, ℕ, List, ◌++◌, ap, ◌∙◌, sym, ◌+◌, length}
use Rattle.std.proofs.lemmas.List.{length-append}
use Rattle.ppm_cells.specs.declared.shape.Shape.{Shape}
use Rattle.ppm_code.specs.declared.code.CodeParts.{CodeParts}
use Rattle.ppm_step.specs.declared.turn.Turn.{Turn}
use Rattle.ppm_step.specs.State.{State, after, along, forks_of, takes_of, work_of}
use Rattle.ppm_core.specs.Situation.{Situation, run_on}
use Rattle.ppm_core.proofs.RunLemmas.{follow_on, tell_on}

module _ (s : Shape) (code : CodeParts) where
  -- what two lists of turns tell is counted together
  counts_on : (told : State → Turn → List ℕ) (n : ℕ) (state : State) (first more : List Turn)
      → (n + length (along s code told state first)) + length (along s code told (after s code state first) more)
      ≡ n + length (along s code told state (first ++ more))
  counts_on told n state first more =
      omega (
        arith,
        ap length (tell_on ℕ s code told state first more)
            ∙ length-append (along s code told state first) (along s code told (after s code state first) more),
      )

pub run_both : (m : Situation) (first more : List Turn) → run_on (run_on m first) more ≡ run_on m (first ++ more)
run_both m first more = λ i. record {
  shape = m.shape;
  code = m.code;
  array_lengths = m.array_lengths;
  state = sym (follow_on m.shape m.code m.state first more) i;
  forks = counts_on m.shape m.code forks_of m.forks m.state first more i;
  takes = counts_on m.shape m.code takes_of m.takes m.state first more i;
  work = counts_on m.shape m.code work_of m.work m.state first more i;
  turns = turns_path i;
}
  where
    turns_path : (m.turns + length first) + length more ≡ m.turns + length (first ++ more)
    turns_path = omega (arith, length-append first more)

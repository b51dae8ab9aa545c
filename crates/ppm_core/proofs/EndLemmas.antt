-- The stores with which a capsule ends.
use Rattle.std.proofs.Common.{◌≡◌, ℕ, true, false, List, sym, ap, subst}
use Rattle.ppm_cells.specs.Memory.{read}
use Rattle.ppm_cells.specs.declared.cell.Cell.TheVariants.{FinishWord}
use Rattle.ppm_cells.specs.declared.shape.Shape.{Shape}
use Rattle.ppm_code.specs.declared.code.CodeParts.{CodeParts}
use Rattle.ppm_step.specs.declared.row.Seat.{Seat}
use Rattle.ppm_step.specs.Frames.{Rest}
use Rattle.ppm_step.specs.Standings.{Standing, IsBroken, rest_is_there, running, running_if, wanted_rest, went_rest}
use Rattle.ppm_step.specs.State.{found_in, words_after}
use Rattle.ppm_core.specs.Moments.{moment, StepsTo}
use Rattle.ppm_core.proofs.CapsuleLemmas.{none}
use Rattle.ppm_core.proofs.MomentLemmas.{in_capsule}

module _ (s : Shape) (code : CodeParts) (seat : Seat) where
  -- what comes next isn't there
  pub stands_gone : (words : List ℕ) (rest : Rest) → false ≡ rest_is_there s seat rest
      → StepsTo s code seat.own 0 0 (moment words (running s seat rest)) (moment words (IsBroken seat.place))
  stands_gone words rest gone = none s code seat (ap (moment words) (ap (running_if seat rest) (sym gone)))

  -- or is, and is made
  pub step_made : (words words' : List ℕ) (rest : Rest) (stand : Standing) → read s words FinishWord ≡ 0 → true ≡ rest_is_there s seat rest
      → words' ≡ words_after words (wanted_rest s seat rest) → stand ≡ went_rest s seat (found_in words (wanted_rest s seat rest)) rest
      → StepsTo s code seat.own 1 1 (moment words (running s seat rest)) (moment words' stand)
  step_made words words' rest stand finish there stored stands =
      subst (λ (st : Standing). StepsTo s code seat.own 1 1 (moment words st) (moment words' stand)) (ap (running_if seat rest) there)
      (in_capsule s code seat.own seat rest words words' stand finish stored stands)

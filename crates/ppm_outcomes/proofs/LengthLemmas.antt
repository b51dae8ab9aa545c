-- A machine has as many words after turns as before them.
use Rattle.std.proofs.Common.{◌≡◌, ◌∙◌, ℕ, List, [], ◌∷◌, length, refl}
use Rattle.ppm_cells.specs.declared.shape.Shape.{Shape}
use Rattle.ppm_code.specs.declared.code.CodeParts.{CodeParts}
use Rattle.ppm_step.specs.Standings.{Standing, IsLost, IsPlaced, IsAt, IsWithin as IsInRow, IsRunning, IsBroken, IsDone}
use Rattle.ppm_step.specs.State.{State, stand_of, want_of, acts, happens, after}
use Rattle.ppm_step.specs.declared.turn.Act.{Act}
use Rattle.ppm_step.specs.declared.turn.Turn.{Turn}
use Rattle.ppm_step.proofs.WordLemmas.{length_stays}

-- a machine has as many words after turns as before them
module _ (s : Shape) (code : CodeParts) where
  act_length : (state : State) (p : ℕ) (act : Act) (standing : Standing) → length (acts s code state p act standing).words ≡ length state.words
  act_length state p act IsLost = length_stays state.words (want_of s code p act IsLost)
  act_length state p act (IsPlaced place) = length_stays state.words (want_of s code p act (IsPlaced place))
  act_length state p act (IsAt place restart) = length_stays state.words (want_of s code p act (IsAt place restart))
  act_length state p act (IsInRow seat row) = length_stays state.words (want_of s code p act (IsInRow seat row))
  act_length state p act (IsRunning seat rest) = length_stays state.words (want_of s code p act (IsRunning seat rest))
  act_length state p act (IsBroken place) = length_stays state.words (want_of s code p act (IsBroken place))
  act_length state p act IsDone = refl

  pub run_length : (state : State) (turns : List Turn) → length (after s code state turns).words ≡ length state.words
  run_length state [] = refl
  run_length state (turn ∷ turns) =
      run_length (happens s code state turn) turns
      ∙ act_length state turn.processor turn.act (stand_of state turn.processor)

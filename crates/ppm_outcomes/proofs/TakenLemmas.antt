-- Branches that were forked and taken: how many there are.
use Rattle.std.proofs.Common.{◌≡◌, ℕ, ◌+◌, List, [], ◌∷◌, ◌++◌, length, arith}
use Rattle.std.proofs.lemmas.List.{length-append}
use Rattle.ppm_cells.specs.declared.shape.Shape.{Shape}
use Rattle.ppm_code.specs.declared.code.CodeParts.{CodeParts}
use Rattle.ppm_step.specs.declared.turn.Turn.{Turn}
use Rattle.ppm_step.specs.State.{State, happens, along, forks_of, takes_of}
use Rattle.ppm_tickets.specs.Along.{forked, taken}

-- the lists that a run makes are as long as what its turns tell
module _ (s : Shape) (code : CodeParts) where
  pub count_forked : (state : State) (f : List ℕ) (turns : List Turn)
      → length (forked s code state f turns) ≡ length (along s code forks_of state turns) + length f
  count_forked state f [] = omega arith
  count_forked state f (turn ∷ turns) =
      let rest = count_forked (happens s code state turn) (forks_of state turn ++ f) turns in
      let one = length-append (forks_of state turn) f in
      let all = length-append (forks_of state turn) (along s code forks_of (happens s code state turn) turns) in
      omega (arith, rest, one, all)

  pub count_taken : (state : State) (f : List ℕ) (turns : List Turn)
      → length (taken s code state f turns) ≡ length (along s code takes_of state turns) + length f
  count_taken state f [] = omega arith
  count_taken state f (turn ∷ turns) =
      let rest = count_taken (happens s code state turn) (takes_of state turn ++ f) turns in
      let one = length-append (takes_of state turn) f in
      let all = length-append (takes_of state turn) (along s code takes_of (happens s code state turn) turns) in
      omega (arith, rest, one, all)

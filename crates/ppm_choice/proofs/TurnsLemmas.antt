-- Lists of turns, one after the other.
use Rattle.std.proofs.Common.{◌≡◌, ◌∙◌, List, [], ◌∷◌, ◌++◌, refl, sym, ap}
use Rattle.std.proofs.lemmas.List.{append_assoc}
use Rattle.ppm_cells.specs.declared.shape.Shape.{Shape}
use Rattle.ppm_code.specs.declared.code.CodeParts.{CodeParts}
use Rattle.ppm_step.specs.declared.turn.Turn.{Turn}
use Rattle.ppm_step.specs.State.{State, happens, after, along}

module _ (s : Shape) (code : CodeParts) where
  pub follow_on : (state : State) (first more : List Turn) → after s code state (first ++ more) ≡ after s code (after s code state first) more
  follow_on state [] more = refl
  follow_on state (turn ∷ turns) more = follow_on (happens s code state turn) turns more

  pub tell_on : {X : Type 0} (told : State → Turn → List X) (state : State) (first more : List Turn)
      → along s code told state (first ++ more) ≡ along s code told state first ++ along s code told (after s code state first) more
  tell_on told state [] more = refl
  tell_on told state (turn ∷ turns) more =
      ap (λ rest. told state turn ++ rest) (tell_on told (happens s code state turn) turns more)
      ∙ sym (append_assoc (told state turn) (along s code told (happens s code state turn) turns) (along s code told (after s code (happens s code state turn) turns) more))

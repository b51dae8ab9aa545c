-- What can stand after tokens: the tokens with which some text of the grammar goes on, and whether one ends there.
use Rattle.std.specs.Prelude.{◌≡◌, ◌↔◌, Bool, true, List, [], ◌∷◌, ◌++◌}
use Rattle.ppm_grammar.specs.Rows.{In, Grammar}
use Rattle.ppm_grammar.specs.Derivation.{Mark, IsText, Begins}

module _ {T K P V C : Type 0} (g : Grammar T K P V C) where
  -- some text of the grammar begins with the tokens
  pub record BeginsText (ts : List T) : Type 0 where
    pub marks : List (Mark C)
    pub begins : Begins g ts marks

  -- the tokens are a whole text of the grammar
  pub record IsWholeText (ts : List T) : Type 0 where
    pub value : V
    pub marks : List (Mark C)
    pub text : IsText g ts value marks

  -- after the tokens just the tokens of these kinds can stand, and it is told whether a text may end there
  pub record AreExpected (front : List T) (kinds : List K) (end : Bool) : Type 0 where
    pub tokens : (t : T) → In (g.kind t) kinds ↔ BeginsText (front ++ t ∷ [])
    pub whole : (end ≡ true) ↔ IsWholeText front

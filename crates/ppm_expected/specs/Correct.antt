-- What can stand at the place of a fault of the language's tokens.
use Rattle.std.specs.Prelude.{◌≡◌, ◌<◌, List, [], ◌∷◌, ◌++◌, map}
use Rattle.std.specs.List.{AllPairs}
use Rattle.ppm_text.specs.declared.token.Token.{Token}
use Rattle.ppm_rows.specs.Kinds.{terminal_number}
use Rattle.ppm_rows.specs.Language.{language}
use Rattle.ppm_expected.specs.declared.expected.Expected.{Expected}
use Rattle.ppm_expected.specs.Next.{BeginsText, AreExpected}
use Rattle.ppm_expected.specs.Language.{terminal_of}

-- the kinds are just those of the tokens that can stand after these, in the order of the grammar's kinds and each once,
-- and it is told whether a text may end there
pub record CanFollow (front : List Token) (e : Expected) : Type 0 where
  pub exactly : AreExpected language front (map terminal_of e.terminals.items) e.end
  pub order : AllPairs (λ x y. terminal_number x < terminal_number y) (map terminal_of e.terminals.items)

-- the tokens begin a text of the grammar up to some place and no further, and this can follow there
pub record CanGoOn (ts : List Token) (e : Expected) : Type 0 where
  pub front : List Token
  pub rest : List Token
  pub shape : ts ≡ front ++ rest
  pub begins : BeginsText language front
  pub ends : (t : Token) (more : List Token) → rest ≡ t ∷ more → BeginsText language (front ++ t ∷ []) → ⊥
  pub follows : CanFollow front e

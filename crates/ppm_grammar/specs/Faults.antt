-- Texts within the limits, and the faults of tokens that are none: which, and at which token, with no fault before it.
use Rattle.std.specs.Prelude.{◌≡◌, ℕ, ◌≤◌, ◌<◌, List, [], ◌∷◌, ◌++◌, Some}
use Rattle.ppm_grammar.specs.Rows.{Grammar}
use Rattle.ppm_grammar.specs.Derivation.{Mark, IsText, Begins}
use Rattle.ppm_grammar.specs.Limits.{Limits, none_counted, passed, after_marks, Keeps}

-- why tokens are no text within the limits: a token that cannot come, the end of the tokens, a token within too many openings,
-- a token that passes a limit; tokens are told by their places
pub data Fault : Type 0 where
  Expected : (place : ℕ) → Fault
  Ended : Fault
  TooDeep : (place : ℕ) → Fault
  TooMany : (place which : ℕ) → Fault

-- the tokens are a text with this value, and none of them passes a limit
pub record HasTree {T K P V C : Type 0} (g : Grammar T K P V C) (l : Limits T C) (ts : List T) (v : V) : Type 0 where
  pub marks : List (Mark C)
  pub text : IsText g ts v marks
  pub keeps : Keeps l marks ts none_counted

-- the token stands at the place after others that have these marks, and none of these passes a limit
pub record StandsAt {T K P V C : Type 0} (g : Grammar T K P V C) (l : Limits T C) (ts : List T) (place : ℕ) (front : List T) (t : T)
    (marks : List (Mark C)) : Type 0 where
  pub more : List T
  pub shape : ts ≡ front ++ t ∷ more
  pub at_place : g.place t ≡ place
  pub keeps : Keeps l marks ts none_counted

-- the first token such that no text of the grammar begins with the tokens up to it
pub record IsFirstUnexpected {T K P V C : Type 0} (g : Grammar T K P V C) (l : Limits T C) (ts : List T) (place : ℕ) : Type 0 where
  pub front : List T
  pub found : T
  pub marks : List (Mark C)
  pub stands : StandsAt g l ts place front found marks
  pub begins : Begins g front marks
  pub ends : (ms : List (Mark C)) → Begins g (front ++ found ∷ []) ms → ⊥

-- the tokens end, and a text of the grammar goes on from them
pub record IsEnded {T K P V C : Type 0} (g : Grammar T K P V C) (l : Limits T C) (ts : List T) : Type 0 where
  pub marks : List (Mark C)
  pub begins : Begins g ts marks
  pub ends : (v : V) (ms : List (Mark C)) → IsText g ts v ms → ⊥
  pub keeps : Keeps l marks ts none_counted

-- the first token that, in a text of the grammar that begins with the tokens up to it, stands in more openings than may be open
pub record IsTooDeep {T K P V C : Type 0} (g : Grammar T K P V C) (l : Limits T C) (ts : List T) (place : ℕ) : Type 0 where
  pub front : List T
  pub found : T
  pub marks : List (Mark C)
  pub last : Mark C
  pub stands : StandsAt g l ts place front found marks
  pub begins : Begins g (front ++ found ∷ []) (marks ++ last ∷ [])
  pub deep : l.depth < last.depth

-- the first token with which, by what the tokens up to it count in a text of the grammar that begins with them, a limit is passed
pub record IsTooMany {T K P V C : Type 0} (g : Grammar T K P V C) (l : Limits T C) (ts : List T) (place which : ℕ) : Type 0 where
  pub front : List T
  pub found : T
  pub marks : List (Mark C)
  pub last : Mark C
  pub stands : StandsAt g l ts place front found marks
  pub begins : Begins g (front ++ found ∷ []) (marks ++ last ∷ [])
  pub shallow : last.depth ≤ l.depth
  pub many : passed l.most (after_marks l (marks ++ last ∷ []) ts none_counted) ≡ Some which

-- the tokens have this fault
abbrev pub HasFault : {T K P V C : Type 0} → Grammar T K P V C → Limits T C → List T → Fault → Type 0
HasFault g l ts (Expected place) = IsFirstUnexpected g l ts place
HasFault g l ts Ended = IsEnded g l ts
HasFault g l ts (TooDeep place) = IsTooDeep g l ts place
HasFault g l ts (TooMany place which) = IsTooMany g l ts place which

-- A token list has its tree in one way, within the limits, or one fault.
use Rattle.std.specs.Prelude.{◌≡◌, ◌⊎◌, Bool, true, List, [], ◌∷◌, Some}
use Rattle.ppm_grammar.specs.Rows.{Grammar}
use Rattle.ppm_grammar.specs.Derivation.{Mark, IsText, beginning}
use Rattle.ppm_grammar.specs.Limits.{Limits, Tally, none_counted}
use Rattle.ppm_grammar.specs.Faults.{Fault, HasTree, HasFault}
use Rattle.ppm_grammar.specs.Stack.{fault_at}
use Rattle.ppm_grammar.specs.Reading.{Reads}
use Rattle.ppm_grammar.specs.Predictive.{is_predictive, IsPredictive}

-- tokens have one value and one list of marks at most; they have a tree within the limits or a fault, never both, and one fault at most
pub record HasOneAnswer {T K P V C : Type 0} (g : Grammar T K P V C) (l : Limits T C) (ts : List T) : Type 0 where
  pub tree : (v w : V) (ms ns : List (Mark C)) → IsText g ts v ms → IsText g ts w ns → (v ≡ w) × (ms ≡ ns)
  pub fault : (e f : Fault) → HasFault g l ts e → HasFault g l ts f → e ≡ f
  pub either : (v : V) (e : Fault) → HasTree g l ts v → HasFault g l ts e → ⊥
  pub one : ((v : V) × HasTree g l ts v) ⊎ ((e : Fault) × HasFault g l ts e)

-- all tokens have one answer, whatever the limits, where one token tells the row
abbrev pub HaveOneAnswer : {T K P V C : Type 0} → Grammar T K P V C → Type 0
HaveOneAnswer {T} {K} {P} {V} {C} g =
    (follows : P → K → Bool) → is_predictive g follows ≡ true → (l : Limits T C) (ts : List T) → HasOneAnswer g l ts

-- the test of a table says that one token tells the row
abbrev pub TestTells : {T K P V C : Type 0} → Grammar T K P V C → Type 0
TestTells {T} {K} {P} {V} {C} g = (follows : P → K → Bool) → is_predictive g follows ≡ true → IsPredictive g follows

-- what a parser reads whole has a tree, and the fault where it stops is the fault of the tokens
pub record ParserAnswers {T K P V C : Type 0} (g : Grammar T K P V C) (l : Limits T C) (ts : List T) : Type 0 where
  pub tree : (v : V) (c : Tally) → Reads g l none_counted (beginning g) ts (v ∷ []) c [] → HasTree g l ts v
  pub fault : (f : Fault) → fault_at g l (beginning g) none_counted ts ≡ Some f → HasFault g l ts f

-- a parser tells the answer of all tokens, whatever the limits, where one token tells the row
abbrev pub ParsersAnswer : {T K P V C : Type 0} → Grammar T K P V C → Type 0
ParsersAnswer {T} {K} {P} {V} {C} g =
    (follows : P → K → Bool) → is_predictive g follows ≡ true → (l : Limits T C) (ts : List T) → ParserAnswers g l ts

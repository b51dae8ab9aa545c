-- Tokens have one tree within the limits or one fault: the table's test gives what the stack needs, the walk over the tokens
-- gives one of the two, and each fault is what the tokens go on to.
use Rattle.std.proofs.Common.{◌≡◌, Bool, true, List, [], ◌∷◌, subst, inl, inr}
use Rattle.std.specs.Prelude.{Some}
use Rattle.ppm_grammar.specs.Rows.{Grammar}
use Rattle.ppm_grammar.specs.Derivation.{beginning}
use Rattle.ppm_grammar.specs.Limits.{Limits, Tally, none_counted}
use Rattle.ppm_grammar.specs.Faults.{Fault, HasTree, HasFault}
use Rattle.ppm_grammar.specs.Predictive.{is_predictive, IsPredictive}
use Rattle.ppm_grammar.specs.Stack.{fault_at}
use Rattle.ppm_grammar.specs.Reading.{Reads}
use Rattle.ppm_grammar.specs.Correct.{HaveOneAnswer, ParsersAnswer}
use Rattle.ppm_grammar.proofs.PredictiveLemmas.{predictive}
use Rattle.ppm_grammar.proofs.DerivationLemmas.{one_text}
use Rattle.ppm_grammar.proofs.FaultLemmas.{Answer, answer, told, tree_has_none}

module _ {T K P V C : Type 0} (g : Grammar T K P V C) (follows : P → K → Bool) (test : is_predictive g follows ≡ true) (l : Limits T C) where
  -- one token tells the row
  p : IsPredictive g follows
  p = predictive g follows test

  -- two faults of the same tokens are one
  one_fault : (ts : List T) (e f : Fault) → HasFault g l ts e → HasFault g l ts f → e ≡ f
  one_fault ts e f a b =
      let u = told g l follows p p.grounded ts e a in
      let v = told g l follows p p.grounded ts f b in cc (u, v)

  -- tokens with a tree within the limits have none
  not_both : (ts : List T) (v : V) (e : Fault) → HasTree g l ts v → HasFault g l ts e → ⊥
  not_both ts v e a b =
      let none = tree_has_none g l follows p ts v a in
      let some = told g l follows p p.grounded ts e b in absurd (cc)

  -- tokens that are read whole have the tree
  pub tree_read : {ts : List T} {v : V} {c : Tally} → Reads g l none_counted (beginning g) ts (v ∷ []) c [] → HasTree g l ts v
  tree_read r = record { marks = r.marks; text = r.derived; keeps = r.keeps }

  -- the fault where a text is to come is that of the tokens
  pub fault_told : (ts : List T) (f : Fault) → fault_at g l (beginning g) none_counted ts ≡ Some f → HasFault g l ts f
  fault_told ts f h = go (answer g l follows p p.grounded ts) h
    where
      go : Answer g l ts → fault_at g l (beginning g) none_counted ts ≡ Some f → HasFault g l ts f
      go (inl a) is = let none = tree_has_none g l follows p ts a.0 a.1 in absurd (cc)
      go (inr a) is = let some = told g l follows p p.grounded ts a.0 a.1 in let same : a.0 ≡ f = cc in subst (HasFault g l ts) same a.1

-- the law of one answer
pub have_one_answer : {T K P V C : Type 0} (g : Grammar T K P V C) → HaveOneAnswer g
have_one_answer g follows test l ts = record {
  tree = λ v w ms ns a b. one_text g follows (p g follows test l) ts v w ms ns a b;
  fault = λ e f a b. one_fault g follows test l ts e f a b;
  either = λ v e a b. not_both g follows test l ts v e a b;
  one = answer g l follows (p g follows test l) (p g follows test l).grounded ts;
}

-- the law of parsers
pub parsers_answer : {T K P V C : Type 0} (g : Grammar T K P V C) → ParsersAnswer g
parsers_answer g follows test l ts = record { tree = λ v c r. tree_read g follows test l r; fault = λ f h. fault_told g follows test l ts f h }

-- Tokens have one tree or one fault: the law of all grammars at this one, whose texts all stand for programs.
use Rattle.std.proofs.Common.{◌≡◌, List, refl, ap, inl, inr, subst}
use Rattle.std.specs.Prelude.{◌⊎◌}
use Rattle.ppm_grammar.specs.Rows.{In, first, later}
use Rattle.ppm_grammar.specs.Derivation.{Mark, nothing, part, IsText}
use Rattle.ppm_grammar.specs.Faults.{Fault}
use Rattle.ppm_grammar.specs.Faults as of_grammar
use Rattle.ppm_grammar.specs.Predictive.{IsPredictive}
use Rattle.ppm_grammar.proofs.PredictiveLemmas as tests
use Rattle.ppm_grammar.proofs.Theorem as law
use Rattle.ppm_text.specs.declared.token.Token.{Token}
use Rattle.ppm_tree.specs.Tree.{ProgramTree}
use Rattle.ppm_rows.specs.Values.{Value, Program, program_in}
use Rattle.ppm_rows.specs.Language.{language, Form, rows, Counted}
use Rattle.ppm_rows.specs.Phrases as p
use Rattle.ppm_rows.specs.Follow.{may_follow, LanguageIsPredictive}
use Rattle.ppm_rows.specs.Limits.{limits}
use Rattle.ppm_rows.specs.Correct.{HasTree, HasFault, TokensHaveOneAnswer}

-- the test, by computing
pub is_tested : LanguageIsPredictive
is_tested = refl

-- what it says
pub is_predictive_language : IsPredictive language may_follow
is_predictive_language = tests.predictive language may_follow is_tested

-- each row of a whole text makes a program
row_makes : (row : Form) → In row (rows p.Source) → (us : List Value) → row.make us ≡ Program (program_in (row.make us))
row_makes row first us = refl
row_makes row (later first) us = refl
row_makes row (later (later i)) us = elim i [ ]

-- a text makes a program
text_makes : (ts : List Token) (v : Value) (ms : List (Mark Counted)) → IsText language ts v ms → v ≡ Program (program_in v)
text_makes ts v ms (part {row = row} {us = us} i inner nothing) = row_makes row i us

-- the law at these tokens
pub tokens_have_one_answer : TokensHaveOneAnswer
tokens_have_one_answer ts =
    let h = law.have_one_answer language may_follow is_tested limits ts in
    record {
      tree = λ s t a b. ap program_in (h.tree (Program s) (Program t) a.marks b.marks a.text b.text).0;
      fault = λ e f a b. h.fault e f a b;
      either = λ t e a b. h.either (Program t) e a b;
      one = go h.one;
    }
  where
    go : ((v : Value) × of_grammar.HasTree language limits ts v) ⊎ ((e : Fault) × HasFault ts e) →
        ((t : ProgramTree) × HasTree ts t) ⊎ ((e : Fault) × HasFault ts e)
    go (inl a) = inl (program_in a.0, subst (of_grammar.HasTree language limits ts) (text_makes ts a.0 a.1.marks a.1.text) a.1)
    go (inr b) = inr b

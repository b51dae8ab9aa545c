-- What holds of all procedures of a program within its limits and bounds: few parameters, and blocks of an `each` that catch few names.
use Rattle.std.proofs.Common.{◌≤◌, List, ◌++◌, length, arith}
use Rattle.std.proofs.lemmas.List.Elements.{recursion_from_All}
use Rattle.ppm_tree.specs.Tree.{Expression, Argument, Side, Statement, Block, Nil, Then, Procedure, ProgramTree}
use Rattle.ppm_tree.specs.Tree as tree
use Rattle.ppm_tree.specs.State.{procedure_named}
use Rattle.ppm_tree.specs.Parts.{statement_and_inner, statements_in}
use Rattle.ppm_tree.specs.Limits.{IsWithin, IsSmall}
use Rattle.ppm_regions.specs.Scope.{Scope, lets_of, scope_of, split_scope, each_scope}
use Rattle.ppm_regions.specs.Admission.{IsAdmitted}
use Rattle.ppm_cut_bounds.specs.declared.bound.Bound.TheVariants as bound
use Rattle.ppm_cut_bounds.specs.Bounds.{IsWithinBounds, Keeps as KeepsBound, KeepsAt, count_of, limit_of}
use Rattle.ppm_cut_bounds.proofs.Keeping.{all-first, all-second}
use Rattle.ppm_cut_code.specs.Layout.{Layout, parameter_layout}
use Rattle.ppm_cut_code.specs.Statements.{with_lets, with_parts, hidden_layout}
use Rattle.ppm_cut_code.specs.Fits.{FitsStatement, FitsBlock}
use Rattle.ppm_cut_code.proofs.NamedLemmas.{of_named, weaker}
use Rattle.ppm_cut_code.proofs.CaughtLemmas.{once_lets, IsEachOnce, each_once, once_parts, once_hidden, caught_is_counted}
use Rattle.ppm_cut_code.proofs.FitsLemmas.{names_have_slots}
use Rattle.ppm_cut_code.proofs.PlaceLemmas.{procedures_have}
use Rattle.ppm_cut_code.specs.Routines.{code_of}
use Rattle.ppm_cut_sound.proofs.StandLemmas.{Few, FewIn}
use Rattle.ppm_cut_sound.proofs.CallTame.{Facts}

abbrev CatchesFew : Statement → Type 0
CatchesFew s = count_of bound.Caught s ≤ limit_of bound.Caught

abbrev CatchesFewWithin : Procedure → Type 0
CatchesFewWithin p = KeepsAt bound.Caught (statements_in p.body)

abbrev HasFewParameters : Procedure → Type 0
HasFewParameters p = length p.parameters ≤ 12

module _ (procedures : List Procedure) where
  mutual
    few_in : (scope : Scope) (layout : Layout) (s : Statement) → FitsStatement procedures scope layout s
        → KeepsAt bound.Caught (statement_and_inner s)
        → IsEachOnce layout → FewIn layout s
    few_in scope layout (tree.Let x e) f few once = tt
    few_in scope layout (tree.Assign x e) f few once = tt
    few_in scope layout (tree.Put x index e) f few once = tt
    few_in scope layout (tree.If e holds other) f few once =
        let here = statements_in holds in
        let there = statements_in other in (
          few_block scope layout holds f.1 (all-first CatchesFew here there few.1) once,
          few_block scope layout other f.2 (all-second CatchesFew here there few.1) once,
        )
    few_in scope layout (tree.While e block) f few once = few_block scope layout block f.1 few.1 once
    few_in scope layout (tree.Call s) f few once = tt
    few_in scope layout (tree.Fork s t) f few once = tt
    few_in scope layout (tree.Split line r e x y block) f few once =
        few_block (split_scope scope r x y) (with_parts layout x y) block f.7 few.1 (once_parts layout x y once f.2 f.3 f.4)
    few_in scope layout (tree.Each i x r block) f few once = (
      (let c = caught_is_counted layout i x block once f.1 f.2 in let l = few.0 in omega (arith, c, l)),
      few_block (each_scope scope r i x) (hidden_layout layout i x block) block f.6 few.1 (once_hidden layout i x block once f.1 f.2 f.3),
    )

    few_block : (scope : Scope) (layout : Layout) (b : Block) → FitsBlock procedures scope layout b → KeepsAt bound.Caught (statements_in b)
        → IsEachOnce layout → Few layout b
    few_block scope layout Nil f few once = tt
    few_block scope layout (Then s rest) f few once =
        let here = statement_and_inner s in
        let there = statements_in rest in (
          few_in scope layout s f.0 (all-first CatchesFew here there few) once,
          few_block (scope ++ lets_of s) (with_lets layout s) rest f.1 (all-second CatchesFew here there few)
              (once_lets procedures scope layout s f.0 once),
        )

pub facts : (t : ProgramTree) → IsWithin t → IsAdmitted t → IsWithinBounds t → Facts t (code_of t)
facts t small admitted bounds = record {
  stand = procedures_have t;
  fit = names_have_slots t admitted;
  narrow = of_named HasFewParameters (omega arith) t.procedures
      (weaker IsSmall HasFewParameters (λ p s. s.count) t.procedures (recursion_from_All IsSmall t.procedures small.procedures));
  few = λ x.
      let p = procedure_named t.procedures x in
      let fit = names_have_slots t admitted x in
      few_block t.procedures (scope_of p) (parameter_layout p.parameters) p.body fit.body
      (of_named CatchesFewWithin tt t.procedures (weaker (KeepsBound bound.Caught) CatchesFewWithin (λ p k. k.hidden) t.procedures bounds.caught) x)
      (each_once (parameter_layout p.parameters) fit.distinct);
}

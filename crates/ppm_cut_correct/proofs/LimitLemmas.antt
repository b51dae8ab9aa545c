-- Within the limits and the bounds each procedure that a name stands for is small, and the arrays have few words.
use Rattle.std.proofs.Common.{◌≡◌, ◌≤◌, ℕ, List, [], Option, Some, arith, subst}
use Rattle.std.specs.List.{All, AllByRecursion, sum}
use Rattle.std.proofs.lemmas.List.Elements.{All-head, recursion_from_All}
use Rattle.ppm_tree.specs.Tree.{Give, Procedure, ProgramTree}
use Rattle.ppm_tree.specs.Parts.{statements_in, gives_of}
use Rattle.ppm_tree.specs.Limits.{IsSmallStatement, IsSmallGive, IsSmall, IsWithin}
use Rattle.ppm_tree.specs.State.{no_procedure, procedure_named}
use Rattle.ppm_cut_bounds.specs.declared.bound.Bound.TheVariants as bound
use Rattle.ppm_cut_bounds.specs.Bounds.{Keeps, IsWithinBounds}
use Rattle.ppm_cut_code.proofs.RegionWords.{lengths_of}
use Rattle.ppm_cut_code.proofs.NamedLemmas.{of_named, weaker}
use Rattle.ppm_cut_correct.proofs.Given.{IsModestProcedure}

-- what limits say of the statements of a procedure and of what it gives
pub record HasSmallParts (p : Procedure) : Type 0 where
  pub statements : AllByRecursion IsSmallStatement (statements_in p.body)
  pub give : (g : Give) → p.give ≡ Some g → IsSmallGive g

parts_of_small : (p : Procedure) → IsSmall p → HasSmallParts p
parts_of_small p s = record {
  statements = recursion_from_All IsSmallStatement (statements_in p.body) s.statements;
  give = λ g e. All-head IsSmallGive g [] (subst (λ (o : Option Give). All IsSmallGive (gives_of o)) e s.give);
}

no_parts : HasSmallParts no_procedure
no_parts = record { statements = tt; give = λ g e. absurd (cc) }

small_parts : (t : ProgramTree) → IsWithin t → (x : List ℕ) → HasSmallParts (procedure_named t.procedures x)
small_parts t within x =
    of_named HasSmallParts no_parts t.procedures
    (weaker IsSmall HasSmallParts parts_of_small t.procedures (recursion_from_All IsSmall t.procedures within.procedures)) x

-- few slots
keeps_none : Keeps bound.Slots no_procedure
keeps_none = record { own = omega arith; hidden = tt }

pub modest_procedures : (t : ProgramTree) → IsWithin t → IsWithinBounds t → (x : List ℕ) → IsModestProcedure (procedure_named t.procedures x)
modest_procedures t within bounds x =
    let small = small_parts t within x in
    let few = of_named (Keeps bound.Slots) keeps_none t.procedures bounds.slots x in
    record {
      body = record { small = small.statements; slots = few.hidden };
      few = omega (arith, few.own);
      give = λ g e. let h = small.give g e in record { count = h.count; each = h.nodes };
    }

pub small_arrays : (t : ProgramTree) → IsWithin t → sum (lengths_of t.arrays) ≤ 4194304
small_arrays t within = within.words

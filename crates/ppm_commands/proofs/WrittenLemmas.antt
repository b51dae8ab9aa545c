-- What is written of a program's code with its arrays is of just these.
use Rattle.std.proofs.Common.{◌≡◌, ◌≤◌, ℕ, List, length}
use Rattle.std.specs.Prelude.{ℤ, pos, negsuc, FitsSigned}
use Rattle.std.specs.Int.{w64}
use Rattle.std.specs.List.{All}
use Rattle.ppm_words.specs.declared.named_array.NamedArray.{NamedArray}
use Rattle.ppm_tree.specs.Tree.{ProgramTree}
use Rattle.ppm_tree.specs.Limits.{IsWithin}
use Rattle.ppm_tree.specs.Program.{initial_arrays}
use Rattle.ppm_rows.specs.Correct.{TreesAreWithin}
use Rattle.ppm_regions.proofs.Inputs.{input_fits}
use Rattle.ppm_cut_code.specs.Correct.{KeepsTheRules}
use Rattle.ppm_cut_code.specs.Inputs.{IsInputOf, IsValue}
use Rattle.ppm_cut_code.specs.Routines.{code_of}
use Rattle.ppm_cut_correct.specs.Beginning.{StartWithInput, NameArrays}
use Rattle.ppm_program.proofs.WithinLemmas.{tree_within}
use Rattle.ppm_case.specs.Correct.{CanBeRead, WrittenCasesAreRead}
use Rattle.ppm_listing.specs.Correct.{NumbersFit}
use Rattle.ppm_program.specs.Programs.{HasProgram}
use Rattle.ppm_commands.specs.Case.{AreCases, text_of}
use Rattle.ppm_commands.proofs.NameLemmas.{names_fit, names_differ}

-- a value of the language fits 64 bits
value_fits : (z : ℤ) → IsValue z → FitsSigned w64 z
value_fits (pos n) h = record { sfits = h }
value_fits (negsuc n) h = record { sfits = h }

-- what the crates below show of every program and of what is written
pub record Laws : Type 0 where
  pub within : TreesAreWithin
  pub rules : KeepsTheRules
  pub starts : StartWithInput
  pub names : NameArrays
  pub written : WrittenCasesAreRead

module _ (laws : Laws) (text : List ℕ) (t : ProgramTree) (program : HasProgram text t) where
  within : IsWithin t
  within = tree_within laws.within text t program.admitted.tree

  starts : IsInputOf t (initial_arrays t)
  starts = laws.starts t within program.admitted.admitted

  -- the code and the arrays of a program can be read
  can_be_read : NumbersFit (code_of t) → CanBeRead (code_of t) (initial_arrays t)
  can_be_read fits = record {
    code_is = laws.rules t within program.admitted.admitted program.bounded;
    numbers = fits;
    input_is = input_fits t within program.admitted.admitted;
    values = λ k d l i e m. value_fits _ (starts.values k d l i e m);
    names = names_fit t within;
    differ = names_differ t program.admitted.admitted;
    named = laws.names t program.admitted.admitted (initial_arrays t) starts;
  }

pub are_cases : Laws → AreCases
are_cases laws = record {
  cases = λ text t program fits. laws.written (code_of t) (initial_arrays t) (can_be_read laws text t program fits);
  inputs = λ text t program. starts laws text t program;
}

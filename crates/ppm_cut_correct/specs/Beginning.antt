-- What the code of a program begins with: the arrays that its text gives, or others in their place.
use Rattle.std.specs.Prelude.{List}
use Rattle.ppm_words.specs.declared.named_array.NamedArray.{NamedArray}
use Rattle.ppm_depth.specs.Start.{NamesArrays}
use Rattle.ppm_tree.specs.Tree.{ProgramTree}
use Rattle.ppm_tree.specs.Limits.{IsWithin}
use Rattle.ppm_tree.specs.Program.{initial_arrays}
use Rattle.ppm_regions.specs.Admission.{IsAdmitted}
use Rattle.ppm_cut_code.specs.Inputs.{IsInputOf}
use Rattle.ppm_cut_code.specs.Routines.{code_of}

-- the arrays that a program's text gives are an input for its arrays
abbrev pub StartWithInput : Type 0
StartWithInput = (t : ProgramTree) → IsWithin t → IsAdmitted t → IsInputOf t (initial_arrays t)

-- the root of a program's code names arrays of each input for its arrays
abbrev pub NameArrays : Type 0
NameArrays = (t : ProgramTree) → IsAdmitted t → (input : List NamedArray) → IsInputOf t input → NamesArrays (code_of t) input

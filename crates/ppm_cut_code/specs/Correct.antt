-- What is true of the code of every program that the compiler takes.
use Rattle.std.specs.Prelude.{◌≡◌, ◌≤◌, ℕ, List, slice_get, IfSome}
use Rattle.ppm_code.specs.Code.{IsCode}
use Rattle.ppm_tree.specs.Tree.{ProgramTree}
use Rattle.ppm_tree.specs.Limits.{IsWithin}
use Rattle.ppm_tree.specs.State.{procedure_named}
use Rattle.ppm_regions.specs.Admission.{IsAdmitted}
use Rattle.ppm_cut_bounds.specs.Bounds.{IsWithinBounds}
use Rattle.ppm_cut_code.specs.Counts.{most_capsules, capsules_among}
use Rattle.ppm_cut_code.specs.Fits.{FitsProcedure}
use Rattle.ppm_tree.specs.Lines.{without_lines}
use Rattle.ppm_cut_code.specs.Lines.{code_without_lines}
use Rattle.ppm_cut_code.specs.Routines.{routines_of, code_of}
use Rattle.ppm_cut_code.specs.Standing.{HasBodies}

-- in each procedure that a name stands for, names have slots of their kind
abbrev pub NamesHaveSlots : Type 0
NamesHaveSlots = (t : ProgramTree) → IsAdmitted t → (x : List ℕ) → FitsProcedure t.procedures (procedure_named t.procedures x)

-- the capsules of each procedure stand at its entry
abbrev pub ProceduresStand : Type 0
ProceduresStand = (t : ProgramTree) → HasBodies t.procedures (code_of t)

-- it keeps all rules of a code
abbrev pub KeepsTheRules : Type 0
KeepsTheRules = (t : ProgramTree) → IsWithin t → IsAdmitted t → IsWithinBounds t → IsCode (code_of t)

-- trees whose arrays and procedures are the same, lines apart, have codes that are the same, lines apart; the text's input has no part in it
abbrev pub LinesAlone : Type 0
LinesAlone = (t u : ProgramTree) → (without_lines t).arrays ≡ (without_lines u).arrays → (without_lines t).procedures ≡ (without_lines u).procedures
    → code_without_lines (code_of t) ≡ code_without_lines (code_of u)

-- each procedure of a code, by its number, has as many capsules as its statements allow, at most
abbrev pub FewCapsules : Type 0
FewCapsules =
    (t : ProgramTree) (q : ℕ) → IfSome (slice_get (routines_of t.procedures) q) (λ r. capsules_among q (code_of t).capsules ≤ most_capsules r)

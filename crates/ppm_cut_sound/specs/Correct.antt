-- That the code of a program is sound with every input: it is tidy, each capsule may be stopped anywhere, and branches do not race.
use Rattle.std.specs.Prelude.{List}
use Rattle.ppm_words.specs.declared.named_array.NamedArray.{NamedArray}
use Rattle.ppm_code.specs.Free.{IsFree}
use Rattle.ppm_code.specs.Tidy.{IsTidy}
use Rattle.ppm_depth.specs.Sound.{IsSound}
use Rattle.ppm_tree.specs.Tree.{ProgramTree}
use Rattle.ppm_tree.specs.Limits.{IsWithin}
use Rattle.ppm_regions.specs.Admission.{IsAdmitted}
use Rattle.ppm_cut_bounds.specs.Bounds.{IsWithinBounds}
use Rattle.ppm_cut_code.specs.Inputs.{IsInputOf}
use Rattle.ppm_cut_code.specs.Routines.{code_of}

-- what is stored into a new block is a slot of a frame that the end builds, and nothing can trap in between
abbrev pub StoresTidily : Type 0
StoresTidily = (t : ProgramTree) → IsAdmitted t → IsTidy (code_of t)

-- no path of any of its capsules has a write-after-read conflict: the conflict check accepts it, and each capsule may be stopped anywhere and
-- begun again
abbrev pub MayBeStopped : Type 0
MayBeStopped = (t : ProgramTree) → IsAdmitted t → IsFree (code_of t)

-- and of two branches of a fork, each strand of them begun from the words at its own fork, neither writes what the other touches
abbrev pub CodeIsSound : Type 0
CodeIsSound = (t : ProgramTree) → IsWithin t → IsAdmitted t → IsWithinBounds t → (input : List NamedArray) → IsInputOf t input
    → IsSound (code_of t) input

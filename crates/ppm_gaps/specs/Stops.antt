-- Ends other than traps, and what they build.
use Rattle.std.specs.Prelude.{◌≡◌, ℕ, ◌<◌, true, List, Option, Some, None, length, slice_get}
use Rattle.ppm_code.specs.declared.class.Class.{Class}
use Rattle.ppm_code.specs.declared.instr.Instr.{Instr}
use Rattle.ppm_code.specs.Paths.{Any, Path}
use Rattle.ppm_filled.specs.Filled.{built_in, is_stop}
use Rattle.ppm_filled.specs.Racing.{EndWord, OfCall, OfFork}
use Rattle.ppm_war.specs.Marks.{Allows}
use Rattle.ppm_gaps.specs.declared.stops.Block.{Block}
use Rattle.ppm_gaps.specs.declared.stops.Block.TheVariants.{Callee, Branches}

-- what an end stores of such a block, beside its slots
abbrev pub built : Option Block → Option EndWord
built None = None
built (Some (Callee callee)) = Some (OfCall callee)
built (Some (Branches left right)) = Some (OfFork left right)

-- an instruction does not build this
abbrev pub IsOther : Option Block → Instr → Type 0
IsOther None i = Unit {0}
IsOther (Some b) i = built_in i ≡ built (Some b) → ⊥

-- a path leads to an end other than a trap, which builds something else
pub record LeadsToStop (is : List Instr) (class : Option Class) (but : Option Block) (from stop : ℕ) : Type 0 where
  pub instr : Instr
  pub there : slice_get is stop ≡ Some instr
  pub stops : is_stop instr ≡ true
  pub other : IsOther but instr
  pub path : Path is (Allows class) from stop

-- each path from the first instruction stays within a capsule
abbrev pub StaysWithin : List Instr → Type 0
StaysWithin is = (to : ℕ) → Path is Any 0 to → to < length is

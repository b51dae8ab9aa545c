-- What joins a program and its code: whatever is said of runs of a sound code is said of each program by this.
use Rattle.std.specs.Prelude.{ℕ, List}
use Rattle.ppm_words.specs.declared.outcome.Outcome.{Outcome}
use Rattle.ppm_tree.specs.Tree.{ProgramTree}
use Rattle.ppm_tree.specs.Program.{initial_arrays}
use Rattle.ppm_program.specs.Programs.{HasProgram}
use Rattle.ppm_cut_code.specs.Routines.{code_of}
use Rattle.ppm_outcomes.specs.AsCode.{MayRun, CodeEnds, CodeNeedsMoreRoom}
use Rattle.ppm_outcomes.specs.Meant.{HasOutcome, NeedsMoreRoom}

-- The code of a program may run on the arrays that the program starts with; an outcome of it, run depth first, is the program's; and a pool that is
-- too small for it is so for the program.
pub record IsAsItsCode (t : ProgramTree) : Type 0 where
  pub may : MayRun (code_of t) (initial_arrays t)
  pub serially : (o : Outcome) → CodeEnds (code_of t) (initial_arrays t) o → HasOutcome t o
  pub more_room : (room : ℕ) → CodeNeedsMoreRoom (code_of t) (initial_arrays t) room → NeedsMoreRoom t room

-- each text's program is as its code
abbrev pub ProgramsAreAsCode : Type 0
ProgramsAreAsCode = (text : List ℕ) (t : ProgramTree) → HasProgram text t → IsAsItsCode t

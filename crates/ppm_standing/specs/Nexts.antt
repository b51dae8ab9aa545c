-- A run of the serial meaning between two steps.
use Rattle.std.specs.Prelude.{ℕ, Bool, List}
use Rattle.ppm_tree.specs.Tree as tree
use Rattle.ppm_tree.specs.State.{Frame, Arrays}
use Rattle.ppm_standing.specs.Rests.{Rest}

-- what comes next: the entry of the procedure, the statements of a block, the test of a loop, what was open around a block, or the end of `main`
pub data Next : Type 0 where
  Enter : Next
  Block : (block : tree.Block) → Next
  Test : (test : tree.Expression) (block : tree.Block) → Next
  Leave : (rest : Rest) → Next
  Last : Next

-- a run: the procedure that runs, its frame, the arrays, what comes next, what is open around it with the innermost first, the turns that are left, and
-- whether it has ended
pub record Run : Type 0 where
  pub procedure : tree.Procedure
  pub frame : Frame
  pub store : Arrays
  pub next : Next
  pub around : List Rest
  pub left : ℕ
  pub ended : Bool

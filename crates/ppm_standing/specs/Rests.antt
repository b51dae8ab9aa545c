-- What is open around what comes next in a run.
use Rattle.std.specs.Prelude.{ℕ, ℤ}
use Rattle.ppm_tree.specs.declared.named.Named.{Named}
use Rattle.ppm_tree.specs.Tree as tree
use Rattle.ppm_tree.specs.State.{Region, Frame}

-- a procedure that waits for one that it called: its frame, what comes after the call, and the call
pub record Caller : Type 0 where
  pub procedure : tree.Procedure
  pub frame : Frame
  pub rest : tree.Block
  pub side : tree.Side

-- the blocks of an `each` that are still to come, from an index on: each has the frame at the start; then the rest follows
pub record Sweep : Type 0 where
  pub index : Named
  pub part : Named
  pub block : tree.Block
  pub region : Region
  pub next : ℕ
  pub frame : Frame
  pub rest : tree.Block

-- what comes after a block: more statements; the test of a loop; the end of a split's block, with the frame as it was and what follows; further blocks
-- of an `each`; the end of a call, of a left branch with the right call and its frame, and of a right one with what the left one gave
pub data Rest : Type 0 where
  Block : (block : tree.Block) → Rest
  Loop : (test : tree.Expression) (block : tree.Block) → Rest
  Parts : (frame : Frame) (block : tree.Block) → Rest
  Sweeps : (sweep : Sweep) → Rest
  Call : (caller : Caller) → Rest
  Left : (caller : Caller) (right : tree.Side) (frame : Frame) → Rest
  Right : (caller : Caller) (right : tree.Side) (value : ℤ) → Rest

-- A program laid out by slots.
use Rattle.std.specs.Prelude.{ℕ, List, [], Option, None, get_or, slice_get}
use Rattle.ppm_serial.specs.declared.code.Routine.{Routine}
use Rattle.ppm_serial.specs.declared.code.Step.{Step}
use Rattle.ppm_serial.specs.declared.code.Place.{Place}

-- the procedures and the blocks of a program, and the place of `main`
pub record Laid : Type 0 where
  pub routines : List Routine
  pub blocks : List (List Step)
  pub main : ℕ

-- the steps of a block
abbrev pub block_at : Laid → ℕ → List Step
block_at c b = get_or c.blocks b []

-- the step at a place
abbrev pub step_at : Laid → Place → Option Step
step_at c p = slice_get (block_at c p.block) p.at

-- what a place without a procedure stands for
abbrev pub no_routine : Routine
no_routine = record { locals = 0; regions = 0; body = 0; give = None }

-- the procedure at a place
abbrev pub routine_at : Laid → ℕ → Routine
routine_at c k = get_or c.routines k no_routine

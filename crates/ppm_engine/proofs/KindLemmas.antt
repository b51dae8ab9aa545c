-- The restarts of work that aren't a frame's.
use Rattle.std.proofs.Common.{◌≡◌, true, refl}
use Rattle.ppm_cells.specs.declared.restart.RestartKind.{RestartKind}
use Rattle.ppm_cells.specs.declared.restart.RestartKind.TheVariants.{Run, Bump, Push1, Push2, Unwind, Arrive, Join, Pop1, Pop2, Seek, Steal, Check, Take, Take2}
use Rattle.ppm_step.specs.State.{before_kind, is_work}
use Rattle.ppm_step.specs.declared.turn.Next.TheVariants.{Look}
use Rattle.ppm_engine.specs.Steps.{HasRow}

-- the load of the finish word before a row of work is a look, and its steps are work
pub row_looks : (kind : RestartKind) → HasRow kind → before_kind kind ≡ Look
row_looks (Run frame copy) h = refl
row_looks (Bump block) h = refl
row_looks (Push1 block) h = refl
row_looks (Push2 block) h = refl
row_looks (Unwind frame) h = refl
row_looks (Arrive block side) h = refl
row_looks (Join block side) h = refl
row_looks Pop1 h = refl
row_looks (Pop2 block) h = refl
row_looks Seek h = absurd h
row_looks (Steal victim slot) h = refl
row_looks (Check victim slot) h = refl
row_looks (Take victim dead) h = refl
row_looks (Take2 victim) h = refl

pub row_works : (kind : RestartKind) → HasRow kind → is_work kind ≡ true
row_works (Run frame copy) h = refl
row_works (Bump block) h = refl
row_works (Push1 block) h = refl
row_works (Push2 block) h = refl
row_works (Unwind frame) h = refl
row_works (Arrive block side) h = refl
row_works (Join block side) h = refl
row_works Pop1 h = refl
row_works (Pop2 block) h = refl
row_works Seek h = absurd h
row_works (Steal victim slot) h = absurd h
row_works (Check victim slot) h = absurd h
row_works (Take victim dead) h = absurd h
row_works (Take2 victim) h = absurd h

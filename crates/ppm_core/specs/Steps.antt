-- Steps that one processor makes in a row.
use Rattle.std.specs.Prelude.{◌≡◌, ◌≤◌, ℕ, zero, suc, Bool, true, false, List, replicate, Some}
use Rattle.ppm_cells.specs.declared.restart.RestartKind.{RestartKind}
use Rattle.ppm_cells.specs.declared.restart.RestartKind.TheVariants.{Run}
use Rattle.ppm_step.specs.declared.turn.Act.TheVariants.{Step}
use Rattle.ppm_step.specs.declared.turn.Next.TheVariants.{Work}
use Rattle.ppm_step.specs.declared.turn.Turn.{Turn}
use Rattle.ppm_step.specs.Standings.{Standing, IsAt, IsRunning}
use Rattle.ppm_step.specs.State.{stand_of, next_of, seeks_holder}
use Rattle.ppm_core.specs.Acts.{is_done_at}
use Rattle.ppm_core.specs.Situation.{Situation, finish_in, turned, run_on}

-- a step for which no victim is due, and so many of them
abbrev pub steady_step : (processor : ℕ) → Turn
steady_step processor = record { processor = processor; act = Step 0 }

abbrev pub steady_steps : (processor n : ℕ) → List Turn
steady_steps processor n = replicate n (steady_step processor)

-- a processor is to make such a step: the run has not ended, it isn't done, and it loads no holder word as it seeks work
pub record IsSteady (m : Situation) (processor : ℕ) : Type 0 where
  pub finish : finish_in m ≡ 0
  pub lives : is_done_at (stand_of m.state processor) ≡ false
  pub seeks_none : seeks_holder (stand_of m.state processor) ≡ false

-- so it is before each of so many
abbrev pub AreSteady : Situation → (processor n : ℕ) → Type 0
AreSteady m processor zero = Unit {0}
AreSteady m processor (suc n) = IsSteady m processor × AreSteady (turned m (steady_step processor)) processor n

-- the last of them, if there is one, is work
abbrev pub EndsInWork : Situation → (processor n : ℕ) → Type 0
EndsInWork m processor zero = Unit {0}
EndsInWork m processor (suc zero) = next_of (stand_of m.state processor) ≡ Work
EndsInWork m processor (suc (suc n)) = EndsInWork (turned m (steady_step processor)) processor (suc n)

-- a processor stands in a capsule of a frame
abbrev pub is_in_capsule : Standing → Bool
is_in_capsule (IsRunning seat rest) = true
is_in_capsule standing = false

-- a restart is that of a frame
abbrev pub is_of_frame : RestartKind → Bool
is_of_frame (Run frame copy) = true
is_of_frame kind = false

-- a processor stands before a capsule, at the restart of a frame
abbrev pub is_before_capsule : Standing → Bool
is_before_capsule (IsAt place (Some restart)) = is_of_frame restart.kind
is_before_capsule standing = false

-- of so many steps more none would go on in a capsule, and no two from the restart of a frame would enter one, while the run has not ended
pub record GoesNoFurther (m : Situation) (processor left : ℕ) : Type 0 where
  pub inside : 1 ≤ left → finish_in m ≡ 0 → is_in_capsule (stand_of m.state processor) ≡ false
  pub before : 2 ≤ left → finish_in m ≡ 0 → is_before_capsule (stand_of m.state processor) ≡ true
      → is_in_capsule (stand_of (run_on m (steady_steps processor 2)).state processor) ≡ false

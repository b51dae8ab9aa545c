-- Turns that name processors of a machine alone.
use Rattle.std.specs.Prelude.{ℕ, ◌<◌}
use Rattle.ppm_step.specs.declared.turn.Act.{Act}
use Rattle.ppm_step.specs.declared.turn.Act.TheVariants.{Step, Soft, Hard, Quit}
use Rattle.ppm_step.specs.declared.turn.Turn.{Turn}

-- the victim that a step names is a processor
abbrev pub IsActAmong : (processors : ℕ) → Act → Type 0
IsActAmong processors (Step victim) = victim < processors
IsActAmong processors Soft = Unit {0}
IsActAmong processors Hard = Unit {0}
IsActAmong processors (Quit why) = Unit {0}

-- the processor whose turn it is, and the victim that a step names, are processors
pub record IsTurnAmong (processors : ℕ) (turn : Turn) : Type 0 where
  pub processor : turn.processor < processors
  pub act : IsActAmong processors turn.act

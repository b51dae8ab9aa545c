-- What the listener that tells a run makes of its turns.
use Rattle.std.specs.Prelude.{◌≡◌, List, ◌++◌}
use Rattle.ppm_core.specs.Situation.{Situation}
use Rattle.ppm_naming.specs.declared.names.Names.{Names}
use Rattle.ppm_step.specs.declared.turn.Turn.{Turn}
use Rattle.ppm_trace.specs.Json.{drawn_if, told_if}
use Rattle.ppm_trace.specs.Trace.{along_turns, counts_along}
use Rattle.ppm_trace.specs.declared.tale.Tale.{Tale}
use Rattle.ppm_trace.specs.declared.tale.Excerpt.{Excerpt}

-- these turns were told, and nothing else
pub record HasTold (names : Names) (excerpt : Excerpt) (m : Situation) (turns : List Turn) (old new : Tale) : Type 0 where
  pub text : new.text.items ≡ old.text.items ++ along_turns (told_if names excerpt.form excerpt.from) m turns
  pub strokes : new.strokes.items ≡ old.strokes.items ++ along_turns (drawn_if names excerpt.form excerpt.from) m turns
  pub counts : new.counts ≡ counts_along excerpt.from old.counts m turns

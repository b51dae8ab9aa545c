use Rattle.std.proofs.Common.{ℕ}
use Rattle.ppm_words.specs.declared.event.Event.{Event}
use Rattle.ppm_core.proofs.RunLemmas.{tell_on}
use Rattle.ppm_core.proofs.laws.turns_tell_on.Goals as goal

pub returns : goal.returns
returns c = record { counted = tell_on ℕ; events = tell_on Event }

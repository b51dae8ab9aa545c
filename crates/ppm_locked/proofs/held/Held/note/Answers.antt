use Rattle.std.proofs.Common.{◌∙◌, ap}
use Rattle.ppm_locked.specs.Held.{is_set}
use Rattle.ppm_locked.proofs.held.Held.note.Goals as goal

pub invariant_of-self : goal.invariant_of-self
invariant_of-self g c = (
  c.self.invariant.0,
  c.self.invariant.1,
  c.self.invariant.2,
  c.self.invariant.3,
  c.self.invariant.4,
  λ none. c.note.ensures.still (ap is_set c.finish_word-finish.ensures ∙ none) ∙ c.self.invariant.5 none,
  c.self.invariant.6,
)

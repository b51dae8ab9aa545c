use Rattle.std.proofs.Common.{sym, ap, ◌∙◌, Some}
use Rattle.ppm_gaps.specs.Stops.{built}
use Rattle.ppm_gaps.specs.declared.stops.Block.{Block}
use Rattle.ppm_gaps.proofs.StopLemmas.{same_block, some_block}
use Rattle.ppm_gaps.proofs.stops.builds.Goals as goal

-- it builds something
pub returns-in-Some : goal.returns-in-Some
returns-in-Some c = (
  λ t. sym c.in-Some.ensures ∙ ap (λ (b : Block). built (Some b)) (c.same.ensures.0 t),
  λ e. c.same.ensures.1 (same_block c.in-Some.own c.args.block (c.in-Some.ensures ∙ e)),
)

-- or nothing
pub returns-in-None : goal.returns-in-None
returns-in-None c = (λ f. cc, λ e. absurd (some_block c.args.block (c.in-None.ensures ∙ e)))

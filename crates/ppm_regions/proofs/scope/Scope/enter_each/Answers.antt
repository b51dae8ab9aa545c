use Rattle.std.proofs.Common.{ap, true, ◌∙◌}
use Rattle.ppm_regions.specs.Kept.{seen}
use Rattle.ppm_regions.proofs.KeptLemmas.{entered_seen}
use Rattle.ppm_regions.proofs.scope.Scope.enter_each.Goals as goal

-- all is seen through the block
pub returns-clause-scope : goal.returns-clause-scope
returns-clause-scope c = ap seen c.in_ok-enter.ensures ∙ entered_seen c.args.self.now c.args.region.now true

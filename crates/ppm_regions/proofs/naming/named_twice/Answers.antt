use Rattle.std.proofs.Common.{sym, ◌∙◌}
use Rattle.ppm_regions.specs.Kept.{seen}
use Rattle.ppm_regions.proofs.UseLemmas.{declares_once, declares_twice}
use Rattle.ppm_regions.proofs.naming.named_twice.Goals as goal

pub returns-in-None : goal.returns-in-None
returns-in-None c = λ t. declares_once t (seen c.args.scope.now) c.args.name.now (sym c.declared.ensures ∙ c.in-None.is)

pub returns-in-Some : goal.returns-in-Some
returns-in-Some c = λ t. declares_twice t (seen c.args.scope.now) c.args.name.now c.in-Some.field-0 (sym c.declared.ensures ∙ c.in-Some.is)

use Rattle.ppm_regions.proofs.Arguments.{spare_other}
use Rattle.ppm_regions.proofs.calling.in_spare.Goals as goal

-- more than a name alone
pub returns-in_default : goal.returns-in_default
returns-in_default c = λ t. rw (spare_other c.args.argument.now c.in_default.not-Name) (c.in_expression.ensures t)

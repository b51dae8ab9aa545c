use Rattle.std.proofs.Common.{◌≡◌, arith, sym, ◌∙◌}
use Rattle.ppm_regions.proofs.UseLemmas.{targets_same, targets_differ}
use Rattle.ppm_regions.proofs.naming.one_target.Goals as goal

pub returns-then-is : goal.returns-then-is
returns-then-is c = λ t s. targets_same t s c.args.left.now c.args.right.now (grind (arith, c.is.ensures, c.if-is.true))

pub returns : goal.returns
returns c = λ t s. targets_differ t s c.args.left.now c.args.right.now (λ e. grind (arith, c.is.ensures, c.if-is.false, e))

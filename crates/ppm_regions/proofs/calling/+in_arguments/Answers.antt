use Rattle.ppm_regions.proofs.Arguments.{tail_is, arguments_spare, arguments_paired}
use Rattle.std.proofs.Common.{arith}
use Rattle.ppm_regions.specs.Kept.{seen}
use Rattle.ppm_regions.proofs.calling.+in_arguments.Goals as goal

-- no parameter is left
pub returns-in-empty : goal.returns-in-empty
returns-in-empty n c = λ t.
    rw c.earlier.ensures
    (arguments_spare t (seen c.args.scope.now) c.args.parameters.now c.args.arguments.now c.argument-item.result _ _ (omega (arith, c.in-empty.len_below))
    (omega (arith, c.in-len1-up.len_at_least)) c.argument-item.is (c.in_spare.ensures t) (rw (tail_is c.args.arguments.now) at c.in_arguments-behind.ensures t))

-- an argument for a parameter
pub returns-in-len1-up-parameters : goal.returns-in-len1-up-parameters
returns-in-len1-up-parameters n c = λ t.
    rw c.earlier-in-len1-up-parameters.ensures
    (arguments_paired t (seen c.args.scope.now) c.args.parameters.now c.parameter-item.result c.args.arguments.now c.argument-item.result _ _
    (omega (arith, c.in-len1-up-parameters.len_at_least)) c.parameter-item.is (omega (arith, c.in-len1-up.len_at_least)) c.argument-item.is (c.in_argument.ensures t)
    (rw (tail_is c.args.arguments.now, tail_is c.args.parameters.now) at c.in_arguments-behind-in-len1-up-parameters.ensures t))

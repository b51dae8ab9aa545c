use Rattle.std.proofs.Common.{[], ◌∷◌}
use Rattle.ppm_tree.specs.Tree.{expression_of}
use Rattle.ppm_regions.specs.Kept.{seen}
use Rattle.ppm_regions.specs.Uses.{NoName, uses_in}
use Rattle.ppm_regions.proofs.Least.{least_uses}
use Rattle.ppm_regions.proofs.UseLemmas.{no_name}
use Rattle.ppm_regions.proofs.Arguments.{lent_other}
use Rattle.ppm_regions.proofs.calling.in_lent.Goals as goal

-- more than a name alone
pub returns-in_default : goal.returns-in_default
returns-in_default c = λ t.
    rw (lent_other c.args.ask c.args.argument.now.line c.args.argument.now.value c.in_default.not-Name, c.earlier.ensures)
    (least_uses t (seen c.args.scope.now) (NoName c.args.argument.now.line ∷ []) (uses_in (expression_of c.args.argument.now.value)) _ _
    (no_name t (seen c.args.scope.now) c.args.argument.now.line) (c.in_expression-inside.ensures t))

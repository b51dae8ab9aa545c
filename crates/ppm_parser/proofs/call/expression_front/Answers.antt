use Rattle.std.proofs.Common.{rules}
use Rattle.ppm_parser.proofs.Exits.{exit_by}
use Rattle.ppm_parser.proofs.Calls.{minus_first, group_first}
use Rattle.ppm_parser.proofs.call.expression_front.Goals as goal

-- no opening is left for the sign
pub returns-in_err-deeper-in-Sign-Minus : goal.returns-in_err-deeper-in-Sign-Minus
returns-in_err-deeper-in-Sign-Minus c =
    exit_by _ _ _ c.from_residual.result c.from_residual.ensures.1
    (λ room. minus_first c.in-Some.ensures.cases.0 (search rules) c.in_err-deeper-in-Sign-Minus.ensures.0 c.in_err-deeper-in-Sign-Minus.ensures.1)

-- or for the parenthesis
pub returns-in_err-deeper-in-Sign-OpenParen : goal.returns-in_err-deeper-in-Sign-OpenParen
returns-in_err-deeper-in-Sign-OpenParen c =
    exit_by _ _ _ c.from_residual-in_err-deeper-in-Sign-OpenParen.result c.from_residual-in_err-deeper-in-Sign-OpenParen.ensures.1
    (λ room. group_first c.in-Some.ensures.cases.0 (search rules) c.in_err-deeper-in-Sign-OpenParen.ensures.0 c.in_err-deeper-in-Sign-OpenParen.ensures.1)

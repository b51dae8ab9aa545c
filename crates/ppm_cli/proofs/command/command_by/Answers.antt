use Rattle.std.proofs.Common.{◌≡◌, IfOk, subst}
use Rattle.ppm_cli.proofs.WordsLemmas.{by_parts}
use Rattle.ppm_cli.proofs.command.command_by.Goals as goal

-- the subcommand that was met has this name and these rows
pub returns-in-Some-clause-value : goal.returns-in-Some-clause-value
returns-in-Some-clause-value c =
    subst (λ x. IfOk c.command_named.result (λ command. command ≡ x)) (by_parts _ _ _ _ _ c.in-Some.ensures.name c.in-Some.ensures.rows)
    c.command_named.ensures.value

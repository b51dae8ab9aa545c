use Rattle.std.proofs.Common.{sym, ◌∙◌}
use Rattle.ppm_tree.specs.Tree.{procedure_of}
use Rattle.ppm_excess.specs.Excess.{bound_of}
use Rattle.ppm_excess.proofs.ExcessLemmas.{keeps_none}
use Rattle.ppm_excess.proofs.passing.excess_in.Goals as goal

-- it keeps the bound just where nothing passes
pub returns-clause-kept : goal.returns-clause-kept
returns-clause-kept c =
    let k = keeps_none (bound_of c.args.counted) (procedure_of c.args.procedure.now) in
    (λ h. k.0 (sym c.in_ok-found.ensures ∙ h), λ h. c.in_ok-found.ensures ∙ k.1 h)

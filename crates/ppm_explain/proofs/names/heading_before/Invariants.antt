use Rattle.std.proofs.Common.{◌≡◌, length, Some, None}
use Rattle.std.specs.Prelude.{MatchOption}
use Rattle.ppm_explain.specs.declared.declaring.Before.TheVariants as before
use Rattle.ppm_explain.specs.Names.{heading_before}
use Rattle.ppm_explain.proofs.names.heading_before.Given as goal

-- what is left decides, with what was found
abbrev pub invariant-tokens : goal.invariant-tokens
invariant-tokens l = MatchOption l.found
    (heading_before None l.before l.fn.place l.left ≡ heading_before None before.Other l.fn.place l.fn.tokens)
    (λ t. heading_before (Some t.now) l.before l.fn.place l.left ≡ heading_before None before.Other l.fn.place l.fn.tokens)

abbrev pub decreases-tokens : goal.decreases-tokens
decreases-tokens l = length l.left

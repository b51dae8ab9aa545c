use Rattle.std.proofs.Common.{◌≡◌, length}
use Rattle.ppm_explain.specs.declared.declaring.Before.TheVariants as before
use Rattle.ppm_explain.specs.Names.{heading_at}
use Rattle.ppm_explain.proofs.names.heading_at.Given as goal

-- what is left decides
abbrev pub invariant-tokens : goal.invariant-tokens
invariant-tokens l = heading_at l.before l.ahead l.left ≡ heading_at before.Other l.fn.number l.fn.tokens

abbrev pub decreases-tokens : goal.decreases-tokens
decreases-tokens l = length l.left

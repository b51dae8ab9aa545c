use Rattle.std.proofs.Common.{◌≡◌, length, None}
use Rattle.ppm_explain.specs.declared.lending.Lead.TheVariants as lead
use Rattle.ppm_explain.specs.Lendings.{lent_from}
use Rattle.ppm_explain.proofs.lending.lent.Given as goal

-- what is left decides, with what was found
abbrev pub invariant-tokens : goal.invariant-tokens
invariant-tokens l =
    lent_from l.found l.lead l.fn.name l.fn.place l.left ≡ lent_from None lead.Other l.fn.name l.fn.place l.fn.tokens

abbrev pub decreases-tokens : goal.decreases-tokens
decreases-tokens l = length l.left

use Rattle.std.proofs.Common.{◌≡◌, length}
use Rattle.ppm_explain.specs.Names.{stood_from}
use Rattle.ppm_explain.proofs.names.stood.Given as goal

-- what is left decides, with what was found
abbrev pub invariant-tokens : goal.invariant-tokens
invariant-tokens l = stood_from l.last l.fn.name l.fn.line l.left ≡ stood_from 0 l.fn.name l.fn.line l.fn.tokens

abbrev pub decreases-tokens : goal.decreases-tokens
decreases-tokens l = length l.left
